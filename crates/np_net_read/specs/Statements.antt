-- The statements of a network's text, and the rules of interfaces among all of them.
use Rattle.std.specs.Prelude.{◌≡◌, ℕ, List, length, map, Ok}
use Rattle.std.specs.List.{range_with_len}
use Rattle.np_lines.specs.Judging.{Judged}
use Rattle.np_lines.specs.Reading.{text_says}
use Rattle.np_lines.specs.declared.fault.LineFault.{LineFault}
use Rattle.np_net.specs.Plan.{Plan}
use Rattle.np_net.specs.declared.associations.Table.{Table}
use Rattle.np_net_read.specs.declared.fault.NetWhy.{NetWhy}
use Rattle.np_net_read.specs.declared.statement.Statement.{Statement}
use Rattle.np_net_read.specs.Declaring.{declared_by_network, table_of}
use Rattle.np_net_read.specs.Judging.{line_says}

-- the statements of a text, each judged against what those before it declare, or the text's first faulty line
abbrev pub statements_of : List ℕ → Judged (LineFault NetWhy) (List Statement)
statements_of text = text_says (λ before. line_says (declared_by_network before)) text

-- the rules of so many interfaces: for each of them those of all statements that name it, the rules of each kind in the order of the statements
abbrev pub tables_of : ℕ → List Statement → List Table
tables_of count statements = map (λ n. table_of n statements) (range_with_len 0 count)

-- a text has statements, and the tables of the network are the rules of its interfaces among all of these
pub record TablesAreFilters (text : List ℕ) (net : Plan) : Type 0 where
  pub statements : List Statement
  pub said : statements_of text ≡ Ok statements
  pub tables : net.tables ≡ tables_of (length net.interfaces) statements

-- A configuration's text, read line by line.
use Rattle.std.proofs.Common.{◌≡◌, ℕ, Bool, List, [], map, Option, ap}
use Rattle.std.specs.Prelude.{Ok}
use Rattle.np_text.specs.Joined.{AreLinesOfWords, joined_line, joined_text}
use Rattle.np_text.specs.Lines.{lines_of, numbered_lines}
use Rattle.np_lines.specs.Declaring.{lines_give}
use Rattle.np_lines.specs.Judging.{◌>>=◌}
use Rattle.np_lines.specs.Reading.{EachSays, statements_said}
use Rattle.np_lines.proofs.LineReading.{joined_read, loop_begins, text_read}
use Rattle.np_acl_read.specs.declared.declared.Declared.{Declared}
use Rattle.np_acl_read.specs.declared.statement.Statement.{Statement}
use Rattle.np_acl_read.specs.Adding.{added}
use Rattle.np_acl_read.specs.Declaring.{declared_by_config, config_with}
use Rattle.np_acl_read.specs.Judging.{line_says}
use Rattle.np_acl_read.specs.Reading.{config_of}
use Rattle.np_acl_read.proofs.DeclarationLaws.{declared_one_more}

-- where nothing is declared yet, all lines with their numbers give what the text gives
pub config_of_numbered : (d : Declared) (lines : List (ℕ × List ℕ)) (bytes : List ℕ) → d ≡ declared_by_config [] → lines ≡ numbered_lines bytes → lines_give line_says added config_with d lines ≡ config_of bytes
config_of_numbered d lines bytes none all = loop_begins line_says declared_by_config added config_with declared_one_more d lines bytes none all

-- a text whose lines each say a statement or nothing declares what these statements declare
pub lines_read : (text : List ℕ) (saids : List (Option Statement)) → EachSays (λ before. line_says (declared_by_config before)) [] (lines_of text) saids → config_of text ≡ Ok (config_with (declared_by_config (statements_said saids)))
lines_read text saids says = ap (λ judged. judged >>= λ read. Ok (config_with (declared_by_config read))) (text_read (λ before. line_says (declared_by_config before)) text saids says)

-- so does the text of lines of words
pub joined_lines_read : (lines : List (Bool × List (List ℕ))) (saids : List (Option Statement)) → AreLinesOfWords lines → EachSays (λ before. line_says (declared_by_config before)) [] (map (λ line. joined_line line.0 line.1) lines) saids → config_of (joined_text lines) ≡ Ok (config_with (declared_by_config (statements_said saids)))
joined_lines_read lines saids words says = ap (λ judged. judged >>= λ read. Ok (config_with (declared_by_config read))) (joined_read (λ before. line_says (declared_by_config before)) lines saids words says)

use Rattle.np_bdd.specs.declared.combining.Operation.TheVariants.{Join}
use Rattle.np_bdd.proofs.ValidLemmas.{combined_starts}
use Rattle.np_bdd.proofs.FieldLemmas.{starts_kept}
use Rattle.np_bdd.proofs.nodes.Nodes.or_lower.Goals as goal

pub returns-clause-starts : goal.returns-clause-starts
returns-clause-starts c =
    combined_starts Join 64 c.lower.new.self c.combined.new.self c.args.node.at c.in_ok-lower.lower.at c.in_ok-combined.field-0.at c.in_ok-combined.ensures.kept
    (starts_kept c.args.self.now c.lower.new.self 64 c.args.node.at c.in_ok-lower.ensures.kept c.requires.starts) c.in_ok-lower.ensures.starts c.in_ok-combined.ensures.exact

use Rattle.std.proofs.Common.{sym}
use Rattle.std.proofs.lemmas.Bool.{eqb-true}
use Rattle.np_bdd.proofs.CombiningLemmas.{no_is_part, part_of_yes}
use Rattle.np_bdd.proofs.nodes.Nodes.is_part.Goals as goal

pub returns-then-eq-clause-part : goal.returns-then-eq-clause-part
returns-then-eq-clause-part c e = no_is_part _ c.is_diagram.ensures _ _ (eqb-true c.args.x.at 0 (sym c.if-eq.ensures))

pub returns-then-eq-2-clause-part : goal.returns-then-eq-2-clause-part
returns-then-eq-2-clause-part c e = part_of_yes _ c.is_diagram.ensures _ _ (eqb-true c.args.y.at 1 (sym c.if-eq-2.ensures))

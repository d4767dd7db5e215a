use Rattle.std.proofs.Common.{sym}
use Rattle.std.proofs.lemmas.Bool.{eqb-true}
use Rattle.np_bdd.proofs.CombiningLemmas.{minus_first}
use Rattle.np_bdd.proofs.nodes.Nodes.settled_minus.Goals as goal

pub returns-then-eq-clause-settled : goal.returns-then-eq-clause-settled
returns-then-eq-clause-settled c = minus_first _ c.is_diagram.ensures _ _ c.requires.first c.requires.second (eqb-true c.args.y.at 0 (sym c.if-eq.ensures))

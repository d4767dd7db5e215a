use Rattle.std.proofs.Common.{refl, sym, ◌∙◌}
use Rattle.std.proofs.lemmas.Bool.{eqb-true}
use Rattle.np_bdd.proofs.NodeLaws.{no_headers}
use Rattle.np_bdd.proofs.nodes.Nodes.least.Goals as goal

pub returns-then-eq-clause-none : goal.returns-then-eq-clause-none
returns-then-eq-clause-none c = (
  (λ e. no_headers c.args.self.now c.is_diagram.ensures c.args.x (eqb-true c.args.x.at 0 (sym c.eq.ensures ∙ c.if-eq.true))),
  (λ none. refl),
)

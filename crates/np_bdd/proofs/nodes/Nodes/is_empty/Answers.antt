use Rattle.std.proofs.Common.{sym, ◌∙◌}
use Rattle.std.proofs.lemmas.Bool.{eqb-true, eq-eqb}
use Rattle.np_bdd.proofs.NodeLaws.{no_headers, none_is_no}
use Rattle.np_bdd.proofs.nodes.Nodes.is_empty.Goals as goal

pub returns : goal.returns
returns c = (
  (λ e. no_headers c.args.self.now c.is_diagram.ensures c.args.x (eqb-true c.args.x.at 0 (sym c.eq.ensures ∙ e))),
  (λ none. c.eq.ensures ∙ eq-eqb c.args.x.at 0 (none_is_no c.args.self.now c.is_diagram.ensures c.args.x c.requires none)),
)

use Rattle.std.proofs.Common.{sym, ◌∙◌, ap}
use Rattle.std.specs.Prelude.{◌&&◌}
use Rattle.std.proofs.lemmas.Bool.{eqb-true, eq-eqb}
use Rattle.np_space.specs.Header.{has_widths}
use Rattle.np_bdd.specs.Views.{bits_of_header, leads_to_yes}
use Rattle.np_bdd.proofs.NodeLaws.{same_headers}
use Rattle.np_bdd.proofs.nodes.Nodes.same.Goals as goal

pub returns-clause-exact : goal.returns-clause-exact
returns-clause-exact c = (
  (λ e h. ap (λ n. has_widths h && leads_to_yes c.args.self.now (bits_of_header h) n) (eqb-true c.args.x.at c.args.y.at (sym c.eq.ensures ∙ e))),
  (λ same. c.eq.ensures ∙ eq-eqb c.args.x.at c.args.y.at (same_headers c.args.self.now c.is_diagram.ensures c.args.x c.args.y c.requires.first c.requires.second same)),
)

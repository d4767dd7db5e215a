use Rattle.std.proofs.Common.{true, false, sym, ◌∙◌, ap, subst}
use Rattle.np_net.specs.Network.{IsNetwork}
use Rattle.np_traj.specs.Sighting.{IsBreachOf}
use Rattle.np_traj.proofs.BreachLaws.{breach_read}
use Rattle.np_traj.proofs.breaching.breach_of.Goals as goal

pub returns-then-is_meant : goal.returns-then-is_meant
returns-then-is_meant g c =
    let network : IsNetwork c.args.net.now = subst IsNetwork c.net.view_is c.net.invariant in
    subst (λ o. IsBreachOf c.args.net.now c.args.states.now c.args.g o) (sym c.first_breach.ensures)
    (breach_read c.args.net.now network c.args.states.now c.args.g c.index-as_slice-g.result c.as_slice.result.now (c.as_slice.ensures ∙ ap (λ net. net.ipgoals) c.net.view_is) c.requires.goal c.index-as_slice-g.is c.requires.some c.requires.plain
    c.index-states-0.result c.index-states-0.is c.args.arrivals.now c.args.exposed c.requires.areas c.requires.arrivals c.requires.exposed true (sym c.if-is_meant.true ∙ c.is_meant.ensures))

pub returns-else-is_meant : goal.returns-else-is_meant
returns-else-is_meant g c =
    let network : IsNetwork c.args.net.now = subst IsNetwork c.net.view_is c.net.invariant in
    breach_read c.args.net.now network c.args.states.now c.args.g c.index-as_slice-g.result c.as_slice.result.now (c.as_slice.ensures ∙ ap (λ net. net.ipgoals) c.net.view_is) c.requires.goal c.index-as_slice-g.is c.requires.some c.requires.plain
    c.index-states-0.result c.index-states-0.is c.args.arrivals.now c.args.exposed c.requires.areas c.requires.arrivals c.requires.exposed false (sym c.if-is_meant.false ∙ c.is_meant.ensures)

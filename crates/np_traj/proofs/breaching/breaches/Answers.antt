use Rattle.std.proofs.Common.{◌≡◌, ◌+◌, length, sym, ◌∙◌, ap, subst, arith}
use Rattle.np_traj.specs.Breaching.{AreBreaches}
use Rattle.np_traj.proofs.BreachLaws.{one_goal}
use Rattle.np_traj.proofs.breaching.breaches.Goals as goal

pub loop-g-preserved : goal.loop-g-preserved
loop-g-preserved g c =
    subst (λ l. AreBreaches c.args.net.now c.args.states.now (c.loop-g.g + 1) l) (sym c.in_ok-add.ensures)
    (one_goal c.args.net.now c.args.states.now c.loop-g.g c.loop-g.breaches c.loop-g.invariant c.breach_of-first.result c.breach_of-first.ensures)

pub returns : goal.returns
returns g c =
    let count : c.len-g-end.result ≡ length c.args.net.now.ipgoals = c.len-g-end.ensures ∙ ap (λ net. length net.ipgoals) c.net.view_is in
    let all : c.loop-g.g ≡ length c.args.net.now.ipgoals = omega arith in
    subst (λ n. AreBreaches c.args.net.now c.args.states.now n c.loop-g.breaches) all c.loop-g.invariant

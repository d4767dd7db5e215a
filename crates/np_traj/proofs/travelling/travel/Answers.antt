use Rattle.std.proofs.Common.{◌∷◌, [], ◌++◌, ◌+◌, sym, ◌∙◌, ap, subst}
use Rattle.np_ipsec.specs.declared.places.Motion.TheVariants as motions
use Rattle.np_traj.specs.Travelling.{AreTravelledSoFar}
use Rattle.np_traj.proofs.TravelLaws.{ended, one_more, stopped}
use Rattle.np_traj.proofs.travelling.travel.Goals as goal

pub returns-in-Err-clause-travelled : goal.returns-in-Err-clause-travelled
returns-in-Err-clause-travelled g c =
    stopped c.args.net.now g.row.N c.args.first c.args.moves.now c.loop-n.n c.loop-n.states c.loop-n.last c.loop-n.invariant (motions.Enter 0) c.in-Err.why c.loop-n-test.true c.in-Err.ensures.exact

pub loop-n-preserved : goal.loop-n-preserved
loop-n-preserved g c =
    let states_are = c.in_ok-push-2.ensures.ok ∙ ap (λ s. c.loop-n.states ++ s ∷ []) c.copy-in-loop-n.ensures in
    subst (λ l. AreTravelledSoFar c.args.net.now g.row.N c.args.first c.args.moves.now (c.loop-n.n + 1) l c.step.new.state) (sym states_are)
    (one_more c.args.net.now g.row.N c.args.first c.args.moves.now c.loop-n.n c.loop-n.states c.loop-n.last c.loop-n.invariant (motions.Enter 0) c.step.new.state c.loop-n-test.true c.in_default.ensures.ok c.step.ensures.fits)

pub returns-clause-travelled : goal.returns-clause-travelled
returns-clause-travelled g c =
    ended c.args.net.now g.row.N c.args.first c.args.moves.now c.loop-n.n c.loop-n.states c.loop-n.last c.loop-n.invariant c.loop-n-test.false

use Rattle.std.proofs.Common.{subst}
use Rattle.np_net.specs.Network.{IsNetwork}
use Rattle.np_traj.proofs.MotionLaws.{moved_fits}
use Rattle.np_traj.proofs.stepping.step.Goals as goal

pub returns-clause-fits : goal.returns-clause-fits
returns-clause-fits g c =
    let network : IsNetwork c.args.net.now = subst IsNetwork c.net.view_is c.net.invariant in
    moved_fits c.args.net.now network c.args.state.now c.requires.state g.row.N c.args.m c.moved.new.state c.moved.result c.requires.motion c.moved.ensures.exact c.moved.ensures.ok c.moved.ensures.err

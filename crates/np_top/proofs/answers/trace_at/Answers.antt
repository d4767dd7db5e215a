use Rattle.std.proofs.Common.{arith, subst}
use Rattle.np_net.specs.Network.{IsNetwork}
use Rattle.np_traj.proofs.ReplaysLaws.{replay_of}
use Rattle.np_top.proofs.TraceLaws.{goals_within}
use Rattle.np_top.proofs.answers.trace_at.Goals as goal

pub replay_report-requires : goal.replay_report-requires
replay_report-requires g c =
    let net = c.args.net.now in
    let network : IsNetwork net = subst IsNetwork c.net.view_is c.net.invariant in
    let replay = c.in_ok-replay.replay in (
      omega arith,
      (
        replay_of net _ c.args.script.now c.requires.fits network replay.states replay.stop c.in_ok-replay.ensures.replayed,
        goals_within net replay.states replay.breaches c.in_ok-replay.ensures.breaches,
      ),
    )

use Rattle.std.proofs.Common.{refl}
use Rattle.np_conf.proofs.NotingLaws.{way_added}
use Rattle.np_conf.proofs.noting.note_interface.Goals as goal

pub returns-in_ok-push-clause-ways : goal.returns-in_ok-push-clause-ways
returns-in_ok-push-clause-ways c =
    rw c.in_ok-push.ensures.ok
    (way_added c.args.net.now c.args.headers.now c.args.i c.args.ways.now c.requires.ways
    record { interface = c.args.i; bare = c.in_ok-bare.bare }
    record { way = c.is_way_out.ensures.0 c.if-is_way_out.true; bare = c.in_ok-bare.ensures.bare }
    refl)

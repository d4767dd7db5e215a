use Rattle.std.proofs.Common.{refl}
use Rattle.np_auth.proofs.PassageLaws.{mark_added}
use Rattle.np_auth.proofs.gathering.add_mark.Goals as goal

pub returns : goal.returns
returns c =
    rw c.in_ok-push.ensures.ok
    (mark_added c.args.net.now c.args.headers.now c.args.i c.args.mark c.args.list.now c.requires.before
    record { interface = c.args.i; mark = c.args.mark; passing = c.in_ok-passing.passing }
    record {
      doubtful = record { within = c.requires.interface; trusted = c.requires.device; forgeable = c.is_forgeable.ensures.0 c.if-not-is_forgeable.false };
      passing = c.in_ok-passing.ensures;
    }
    refl refl)

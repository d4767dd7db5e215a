use Rattle.std.proofs.Common.{length, ◌-◌, arith}
use Rattle.np_goals.proofs.MakingLaws.{forbidden_more}
use Rattle.np_goals.proofs.cases.all_forbidden.Goals as goal

pub loop-k-preserved : goal.loop-k-preserved
loop-k-preserved c =
    rw c.in_ok-push.ensures.ok (forbidden_more c.args.cuts.now c.args.atoms (length c.args.cuts.now - length c.args.goals.now) c.args.goals.now c.loop-k.k c.loop-k.bad c.index-goals-k.result c.in_ok-forbidden.field-0 (omega arith) c.index-goals-k.is c.loop-k.invariant c.in_ok-forbidden.ensures)

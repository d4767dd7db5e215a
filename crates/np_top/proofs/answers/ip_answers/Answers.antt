use Rattle.std.proofs.Common.{◌≡◌, ◌<◌, length, arith, subst}
use Rattle.np_top.proofs.IpsecAnswers.{right_more}
use Rattle.np_top.proofs.answers.ip_answers.Goals as goal

pub loop-k-preserved : goal.loop-k-preserved
loop-k-preserved c =
    let net = c.args.net.now in
    let goals : c.len-k-end.result ≡ length net.ipgoals = subst (λ n. c.len-k-end.result ≡ length n.ipgoals) c.net.view_is c.len-k-end.ensures in
    let below : c.loop-k.k < c.len-k-end.result = c.loop-k-test.true in
    rw c.in_ok-push.ensures.ok (right_more net c.loop-k.k c.loop-k.answers c.ip_answer.result (omega (arith, goals, below)) c.loop-k.invariant c.ip_answer.ensures.right)

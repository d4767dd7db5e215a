use Rattle.std.proofs.Common.{take}
use Rattle.np_top.specs.Ipsec.{AreRightAnswers}
use Rattle.np_top.proofs.answers.ip_answers.Given as goal

-- the answers on the goals so far
abbrev pub invariant-loop-k : goal.invariant-loop-k
invariant-loop-k l = AreRightAnswers l.net (take l.k l.net.ipgoals) l.answers

use Rattle.std.proofs.Common.{◌+◌, ◌*◌, length}
use Rattle.np_goals.proofs.halves.+halves.Given as goal

-- a half is shorter than the whole
abbrev pub decreases-judge_halves : goal.decreases-judge_halves
decreases-judge_halves g l = 2 * length l.sources.now

abbrev pub decreases-front : goal.decreases-front
decreases-front g l = 2 * length l.first.now + 1

abbrev pub decreases-back : goal.decreases-back
decreases-back g l = 2 * length l.second.now + 1

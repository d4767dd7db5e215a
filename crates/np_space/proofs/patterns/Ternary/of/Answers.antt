use Rattle.std.proofs.Common.{arith}
use Rattle.np_space.specs.Patterns.{pattern}
use Rattle.np_space.proofs.MadeLemmas.{same_ternary, value-pattern, wild-pattern}
use Rattle.np_space.proofs.PatternLemmas.{of_same}
use Rattle.np_space.proofs.patterns.Ternary.of.Goals as goal

pub returns-clause-is : goal.returns-clause-is
returns-clause-is c =
    same_ternary _ (pattern c.args.value c.args.wild)
    (value-pattern c.args.value c.args.wild (omega arith) (omega arith))
    (wild-pattern c.args.value c.args.wild (omega arith))

pub returns-clause-exact : goal.returns-clause-exact
returns-clause-exact c = λ x. of_same c.args.value c.args.wild x c.ranges.wild.fits

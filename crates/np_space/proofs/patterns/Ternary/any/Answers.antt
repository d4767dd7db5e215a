use Rattle.std.proofs.Common.{refl}
use Rattle.np_space.specs.Patterns.{any_address}
use Rattle.np_space.proofs.MadeLemmas.{same_ternary, widest_has}
use Rattle.np_space.proofs.patterns.Ternary.any.Goals as goal

pub returns-clause-is : goal.returns-clause-is
unfolding any_address
returns-clause-is c = same_ternary _ any_address refl refl

pub returns-clause-has : goal.returns-clause-has
returns-clause-has c = λ x. widest_has x

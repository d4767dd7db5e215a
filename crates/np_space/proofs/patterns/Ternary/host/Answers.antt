use Rattle.std.proofs.Common.{arith, ◌∙◌, ap}
use Rattle.np_space.specs.Ternary.{ternary_has}
use Rattle.np_space.proofs.MadeLemmas.{host-has}
use Rattle.np_space.proofs.patterns.Ternary.host.Goals as goal

pub returns-clause-has : goal.returns-clause-has
returns-clause-has c = λ x. ap (λ p. ternary_has p x) c.of.ensures.is ∙ host-has c.args.address x (omega arith)

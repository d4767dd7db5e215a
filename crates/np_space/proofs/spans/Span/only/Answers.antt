use Rattle.std.proofs.Common.{arith, ◌∙◌, ap}
use Rattle.np_space.specs.Span.{span_has}
use Rattle.np_space.proofs.MadeLemmas.{span_only-has}
use Rattle.np_space.proofs.spans.Span.only.Goals as goal

pub returns-clause-has : goal.returns-clause-has
returns-clause-has c = λ x. ap (λ s. span_has s x) c.from_to.ensures ∙ span_only-has c.args.number x (omega arith)

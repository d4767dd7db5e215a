use Rattle.std.proofs.Common.{arith}
use Rattle.np_space.proofs.AlgebraLemmas.{span_sum_of}
use Rattle.np_space.proofs.algebra.push_numbers.Goals as goal

pub returns-clause-exact : goal.returns-clause-exact
returns-clause-exact c = λ h.
    let sum = span_sum_of c.args.field c.args.whole.now h c.args.part.now c.span-span.result c.below.result c.above.result c.span-span.ensures c.requires c.below.ensures.exact c.above.ensures.exact in
    omega (arith, c.in_ok-push_span.ensures.exact h, c.in_ok-push_span-2.ensures.exact h)

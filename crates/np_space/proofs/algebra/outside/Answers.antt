use Rattle.std.proofs.Common.{ap, arith}
use Rattle.np_space.specs.Block.{count_having, block_has, has_with_address, has_with_span}
use Rattle.np_space.proofs.algebra.outside.Goals as goal

pub returns-clause-exact : goal.returns-clause-exact
unfolding block_has has_with_address has_with_span
returns-clause-exact c = λ h.
    let start = ap (λ l. count_having l h) c.new-pieces.ensures.items in
    omega (arith, c.in_ok-push_addresses.ensures.exact h, c.in_ok-push_addresses-2.ensures.exact h, c.in_ok-push_numbers.ensures.exact h, c.in_ok-push_numbers-2.ensures.exact h, c.in_ok-push_numbers-3.ensures.exact h, c.in_ok-push_numbers-4.ensures.exact h, c.in_ok-push_numbers-5.ensures.exact h)

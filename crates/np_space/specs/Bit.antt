-- One bit of a number.
use Rattle.std.specs.Prelude.{ℕ, Bool, ◌==◌}
use Rattle.std.specs.Int.{bit_at}

-- the bit of n that stands for 2 ^ i is set
unfoldable pub has_bit : ℕ → ℕ → Bool
has_bit n i = bit_at n i == 1

-- What a pattern of 32 bits has, said bit by bit.
use Rattle.std.specs.Prelude.{◌≡◌, ◌↔◌, ℕ, zero, suc, ◌<◌, ◌^◌, Bool, true, false, ◌&&◌, ◌||◌, nat_lt, IsTrue}
use Rattle.np_space.specs.Bit.{has_bit}
use Rattle.np_space.specs.Flag.{same_flag}
use Rattle.np_space.specs.declared.patterns.Ternary.{Ternary}

-- x and the value agree on the bit, unless it is wild
abbrev pub agrees_at : ℕ → ℕ → ℕ → ℕ → Bool
agrees_at value wild x i = has_bit wild i || same_flag (has_bit x i) (has_bit value i)

-- they agree on each bit below n that is not wild
unfoldable pub agrees_below : ℕ → ℕ → ℕ → ℕ → Bool
agrees_below value wild x zero = true
agrees_below value wild x (suc n) = agrees_at value wild x n && agrees_below value wild x n

-- x is a number of 32 bits that agrees with the value on each bit that is not wild
unfoldable pub pattern_has : ℕ → ℕ → ℕ → Bool
pattern_has value wild x = nat_lt x (2 ^ 32) && agrees_below value wild x 32

-- the pattern has the number x
abbrev pub ternary_has : Ternary → ℕ → Bool
ternary_has p x = pattern_has p.value p.wild x

-- the patterns have the same bit i, wild or not
pub record SameBit (p q : Ternary) (i : ℕ) : Type 0 where
  pub wild : has_bit p.wild i ≡ has_bit q.wild i
  pub value : has_bit p.value i ≡ has_bit q.value i

-- a bit that is not wild in the second is as there in the first
abbrev pub IsNarrower : Ternary → Ternary → Type 0
IsNarrower p q = (i : ℕ) → has_bit q.wild i ≡ false → SameBit p q i

-- a number has 32 bits and the value's bit wherever the pattern is not wild
pub record AgreesOnFixedBits (p : Ternary) (x : ℕ) : Type 0 where
  pub width : x < 2 ^ 32
  pub agrees : (i : ℕ) → i < 32 → has_bit p.wild i ≡ false → has_bit x i ≡ has_bit p.value i

-- a pattern has exactly such numbers
abbrev pub HasAsStated : Type 0
HasAsStated = (p : Ternary) (x : ℕ) → IsTrue (ternary_has p x) ↔ AgreesOnFixedBits p x

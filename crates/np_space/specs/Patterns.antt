-- The patterns that numbers make, and what several patterns have.
use Rattle.std.specs.Prelude.{◌≡◌, ℕ, ◌-◌, ◌*◌, ◌/◌, ◌%◌, ◌^◌, ◌<◌, ◌≤◌, ◌==◌, Bool, List, bit_and, count_ones}
use Rattle.std.specs.Int.Bits.{and_zero_l, and_lt}
use Rattle.std.specs.List.{list_any}
use Rattle.std.proofs.Common.{refl, arith, ◌∙◌}
use Rattle.std.proofs.Math.Nat.{mul-mod_left}
use Rattle.std.proofs.Math.Pow.{pow_mono}
use Rattle.std.proofs.lemmas.Bool.{ltb-true}
use Rattle.std.proofs.lemmas.Grind.{and-not_self}
use Rattle.std.proofs.lemmas.Nat.{and_mask, pow_pos}
use Rattle.np_space.specs.Ternary.{ternary_has}
use Rattle.np_space.specs.declared.patterns.Ternary.{Ternary}

-- every address: each of the 32 bits may be anything
unfoldable pub any_address : Ternary
any_address =
    record { value = 0; wild = 4294967295; cleared = and_zero_l 4294967295; value_width = ltb-true 0 (2 ^ 32) refl; wild_width = ltb-true 4294967295 (2 ^ 32) refl }

-- the wild bits are 32
pub wild_fits : (wild : ℕ) → wild % 2 ^ 32 ≤ 4294967295
wild_fits wild = omega arith

-- no bit is both set and wild
pub wild_cleared : (value wild : ℕ) → bit_and (bit_and (value % 2 ^ 32) (4294967295 - wild % 2 ^ 32)) (wild % 2 ^ 32) ≡ 0
wild_cleared value wild = and-not_self (value % 2 ^ 32) 4294967295 (wild % 2 ^ 32) (wild % 2 ^ 32) refl (wild_fits wild) refl

-- so are the fixed ones
pub rest_fits : (wild : ℕ) → 4294967295 - wild % 2 ^ 32 < 2 ^ 32
rest_fits wild = omega arith

-- a word has 32 bits
pub word_fits : (n : ℕ) → n % 2 ^ 32 < 2 ^ 32
word_fits n = omega arith

-- the numbers of 32 bits that agree with a value on each bit that isn't wild
unfoldable pub pattern : ℕ → ℕ → Ternary
pattern value wild =
    record {
      value = bit_and (value % 2 ^ 32) (4294967295 - wild % 2 ^ 32);
      wild = wild % 2 ^ 32;
      cleared = wild_cleared value wild;
      value_width = and_lt 32 (value % 2 ^ 32) (4294967295 - wild % 2 ^ 32) (word_fits value) (rest_fits wild);
      wild_width = word_fits wild;
    }

-- one address
abbrev pub host : ℕ → Ternary
host address = pattern address 0

-- ---- prefixes

-- the first bits of an address, as many as the length says, with 0 for each later bit
abbrev pub prefix_value : ℕ → ℕ → ℕ
prefix_value address length = address % 2 ^ 32 / 2 ^ (32 - length) * 2 ^ (32 - length)

-- the later bits, as many as the length leaves of 32
abbrev pub prefix_wild : ℕ → ℕ
prefix_wild length = 2 ^ (32 - length) - 1

-- no bit is both set and wild
pub prefix_cleared : (address length : ℕ) → bit_and (prefix_value address length) (prefix_wild length) ≡ 0
prefix_cleared address length =
    and_mask (prefix_value address length) (32 - length) ∙ mul-mod_left (address % 2 ^ 32 / 2 ^ (32 - length)) (2 ^ (32 - length))

-- the value has 32 bits
pub prefix_value_below : (address length : ℕ) → prefix_value address length < 2 ^ 32
prefix_value_below address length =
    let small : address % 2 ^ 32 < 2 ^ 32 = omega arith in
    let d : 0 < 2 ^ (32 - length) = pow_pos (32 - length) in
    let under : address % 2 ^ 32 / 2 ^ (32 - length) * 2 ^ (32 - length) ≤ address % 2 ^ 32 = omega (arith) in
    omega arith

-- so have the wild bits
pub prefix_wild_below : (length : ℕ) → prefix_wild length < 2 ^ 32
prefix_wild_below length =
    let few : 32 - length ≤ 32 = omega arith in
    let under : 2 ^ (32 - length) ≤ 2 ^ 32 = pow_mono few in
    let some : 0 < 2 ^ (32 - length) = pow_pos (32 - length) in
    omega arith

-- the addresses that have the first bits of the address, as many as the length says
unfoldable pub prefix_pattern : ℕ → ℕ → Ternary
prefix_pattern address length =
    record {
      value = prefix_value address length;
      wild = prefix_wild length;
      cleared = prefix_cleared address length;
      value_width = prefix_value_below address length;
      wild_width = prefix_wild_below length;
    }

-- the wild bits are the lowest ones
abbrev pub is_prefix : Ternary → Bool
is_prefix p = p.wild == 2 ^ count_ones p.wild - 1

-- ---- several patterns

-- some of the patterns has the address
abbrev pub any_pattern_has : List Ternary → ℕ → Bool
any_pattern_has patterns address = list_any (λ p. ternary_has p address) patterns

-- One bit of what the operators on numbers of 32 bits give, each stated over the bit's place.
use Rattle.std.proofs.Common.{◌≡◌, ℕ, zero, suc, ◌+◌, ◌-◌, ◌*◌, ◌%◌, ◌<◌, ◌≤◌, ◌^◌, true, false, refl, ◌∙◌, ap, arith, min, max, bit_and, bit_or, w32}
use Rattle.std.specs.Prelude.{◌&&◌, ◌||◌, not, ◌==◌, ◌≢◌, bit_xor}
use Rattle.std.specs.Int.{bit_at, trailing_zeros}
use Rattle.std.proofs.lemmas.Bool.{eq-eqb}
use Rattle.std.proofs.lemmas.Bool.Decides.{nat_tests}
use Rattle.std.proofs.lemmas.Nat.{one_shl}
use Rattle.std.proofs.lemmas.Nat.Bits.{bit_at_and, bit_at_or, bit_at_xor, bit_at_not, bit_at-lt, bit_at-zero, bit_at_above, bit_at-pow_same, bit_at-pow_other, same_from_bits_below, bit_at-trailing_zeros}
use Rattle.np_space.specs.Bit.{has_bit}
use Rattle.np_space.specs.Flag.{same_flag}

-- what a 0 or a 1 says, tested
and_bits : (m n : ℕ) → m < 2 → n < 2 → (min m n == 1) ≡ ((m == 1) && (n == 1))
and_bits zero zero l k = refl
and_bits zero (suc zero) l k = refl
and_bits zero (suc (suc n)) l k = absurd (omega arith)
and_bits (suc zero) zero l k = refl
and_bits (suc zero) (suc zero) l k = refl
and_bits (suc zero) (suc (suc n)) l k = absurd (omega arith)
and_bits (suc (suc m)) n l k = absurd (omega arith)

-- the same for the greater of two
or_bits : (m n : ℕ) → m < 2 → n < 2 → (max m n == 1) ≡ ((m == 1) || (n == 1))
or_bits zero zero l k = refl
or_bits zero (suc zero) l k = refl
or_bits zero (suc (suc n)) l k = absurd (omega arith)
or_bits (suc zero) zero l k = refl
or_bits (suc zero) (suc zero) l k = refl
or_bits (suc zero) (suc (suc n)) l k = absurd (omega arith)
or_bits (suc (suc m)) n l k = absurd (omega arith)

-- the same for the sum without carry
xor_bits : (m n : ℕ) → m < 2 → n < 2 → ((m + n) % 2 == 1) ≡ not (same_flag (m == 1) (n == 1))
xor_bits zero zero l k = refl
xor_bits zero (suc zero) l k = refl
xor_bits zero (suc (suc n)) l k = absurd (omega arith)
xor_bits (suc zero) zero l k = refl
xor_bits (suc zero) (suc zero) l k = refl
xor_bits (suc zero) (suc (suc n)) l k = absurd (omega arith)
xor_bits (suc (suc m)) n l k = absurd (omega arith)

-- the same for the other bit
not_bit : (m : ℕ) → m < 2 → (1 - m == 1) ≡ not (m == 1)
not_bit zero l = refl
not_bit (suc zero) l = refl
not_bit (suc (suc m)) l = absurd (omega arith)

-- bits of which the same test holds are equal
same_bit : (m n : ℕ) → m < 2 → n < 2 → (m == 1) ≡ (n == 1) → m ≡ n
same_bit m n l k e = grind (arith, nat_tests)

-- the bits of `&`
pub bit-and : (a b i : ℕ) → has_bit (bit_and a b) i ≡ (has_bit a i && has_bit b i)
unfolding has_bit
bit-and a b i = ap (λ n. n == 1) (bit_at_and a b i) ∙ and_bits (bit_at a i) (bit_at b i) (bit_at-lt a i) (bit_at-lt b i)

-- the bits of `|`
pub bit-or : (a b i : ℕ) → has_bit (bit_or a b) i ≡ (has_bit a i || has_bit b i)
unfolding has_bit
bit-or a b i = ap (λ n. n == 1) (bit_at_or a b i) ∙ or_bits (bit_at a i) (bit_at b i) (bit_at-lt a i) (bit_at-lt b i)

-- the bits of `^`
pub bit-xor : (a b i : ℕ) → has_bit (bit_xor a b) i ≡ not (same_flag (has_bit a i) (has_bit b i))
unfolding has_bit
bit-xor a b i = ap (λ n. n == 1) (bit_at_xor a b i) ∙ xor_bits (bit_at a i) (bit_at b i) (bit_at-lt a i) (bit_at-lt b i)

-- the bits of `!` at 32 bits
pub bit-not : (n i : ℕ) → n < 2 ^ 32 → i < 32 → has_bit (4294967295 - n) i ≡ not (has_bit n i)
unfolding has_bit
bit-not n i l k = ap (λ m. m == 1) (bit_at_not w32 n i l k) ∙ not_bit (bit_at n i) (bit_at-lt n i)

-- a number of 32 bits has none further up
pub bit-above : (n i : ℕ) → n < 2 ^ 32 → 32 ≤ i → has_bit n i ≡ false
unfolding has_bit
bit-above n i l k = ap (λ m. m == 1) (bit_at_above n 32 i l k)

-- 0 has no bit
pub bit-zero : (i : ℕ) → has_bit 0 i ≡ false
unfolding has_bit
bit-zero i = ap (λ m. m == 1) (bit_at-zero i)

-- the mask `1 << k`
pub bit-mask_same : (k : ℕ) → k < 32 → has_bit (1 * 2 ^ k % 4294967296) k ≡ true
unfolding has_bit
bit-mask_same k l = ap (λ m. bit_at m k == 1) (one_shl k 32 l) ∙ ap (λ m. m == 1) (bit_at-pow_same k)

-- the mask has no other bit
pub bit-mask_other : (k i : ℕ) → k < 32 → i ≢ k → has_bit (1 * 2 ^ k % 4294967296) i ≡ false
unfolding has_bit
bit-mask_other k i l ne = ap (λ m. bit_at m i == 1) (one_shl k 32 l) ∙ ap (λ m. m == 1) (bit_at-pow_other k i ne)

-- numbers of 32 bits with the same bits are equal
pub same_from_has_bit : (a b : ℕ) → a < 2 ^ 32 → b < 2 ^ 32 → ((i : ℕ) → i < 32 → has_bit a i ≡ has_bit b i) → a ≡ b
unfolding has_bit
same_from_has_bit a b la lb h = same_from_bits_below 32 a b la lb (λ i l. same_bit (bit_at a i) (bit_at b i) (bit_at-lt a i) (bit_at-lt b i) (h i l))

-- a number other than 0 has a bit
pub some_bit : (n : ℕ) → n < 2 ^ 32 → 0 < n → (i : ℕ) × (i < 32) × (has_bit n i ≡ true)
unfolding has_bit
some_bit n l pos =
    let first = bit_at-trailing_zeros w32 n pos l in
    (trailing_zeros w32 n, first.0, eq-eqb (bit_at n (trailing_zeros w32 n)) 1 first.1)

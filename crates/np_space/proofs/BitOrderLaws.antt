-- The order of headers is that of their bits.
use Rattle.std.proofs.Common.{◌≡◌, ℕ, zero, suc, ◌+◌, ◌-◌, ◌*◌, ◌%◌, ◌<◌, ◌^◌, List, [], ◌∷◌, ◌++◌, length, refl, sym, ◌∙◌, ap, arith, length-append, nat_cmp}
use Rattle.std.specs.Prelude.{map, slice_index_or}
use Rattle.std.specs.Int.{bit_at}
use Rattle.std.specs.Cmp.{nat_cmp_is}
use Rattle.std.specs.Cmp.Lexicographic.{slice_cmp}
use Rattle.std.specs.Ordering.{MatchOrdering, ordering_then}
use Rattle.std.specs.declared.cmp.Ordering.{Ordering}
use Rattle.std.specs.declared.cmp.Ordering.TheVariants.{Less, Equal, Greater}
use Rattle.std.proofs.lemmas.Cmp.{nat_list_cmp_total, ranked, tied_itself}
use Rattle.std.proofs.Math.Nat.{mod-eq_of_lt, mod-lt}
use Rattle.std.proofs.lemmas.List.{get_or-append-add}
use Rattle.std.proofs.lemmas.Nat.{mod-pow-add, pow_pos}
use Rattle.std.proofs.lemmas.Nat.Bits.{bit_at-lt}
use Rattle.np_space.specs.Flag.{flag_number}
use Rattle.np_space.specs.Header.{HasWidths, header_order}
use Rattle.np_space.specs.Bits.{low_bits, bits_of, width_of, header_fields, header_bits, HaveAllBits, OrderIsByBits, EqualFromBits, BitsAreInPlace}
use Rattle.np_space.specs.declared.headers.Header.{Header}
use Rattle.np_space.proofs.FlagLemmas.{flag_small}
use Rattle.np_space.proofs.HeaderLemmas.{order_ties}

-- ---- the order of one field

-- steps of an order may be grouped either way
then_then : (o p q : Ordering) → ordering_then o (ordering_then p q) ≡ ordering_then (ordering_then o p) q
then_then Less p q = refl
then_then Equal p q = refl
then_then Greater p q = refl

-- the same number added to both
below_same : (n x y : ℕ) → nat_cmp (n + x) (n + y) ≡ nat_cmp x y
below_same n x y = sym (nat_cmp_is (n + x) (n + y) (nat_cmp x y) (by (nat_cmp x y) (ranked x y (nat_cmp x y) refl)))
  where
    by : (o : Ordering) → MatchOrdering o (x < y) (x ≡ y) (y < x) → MatchOrdering o (n + x < n + y) (n + x ≡ n + y) (n + y < n + x)
    by Less lt = omega arith
    by Equal same = omega arith
    by Greater gt = omega arith

-- two numbers of two digits each, of which the first is 0 or 1
digits_order : (unit a b x y : ℕ) → a < 2 → b < 2 → x < unit → y < unit → nat_cmp (a * unit + x) (b * unit + y) ≡ ordering_then (nat_cmp a b) (nat_cmp x y)
digits_order unit zero zero x y la lb lx ly = below_same (0 * unit) x y
digits_order unit zero (suc zero) x y la lb lx ly = sym (nat_cmp_is (0 * unit + x) (1 * unit + y) Less (omega arith))
digits_order unit (suc zero) zero x y la lb lx ly = sym (nat_cmp_is (1 * unit + x) (0 * unit + y) Greater (omega arith))
digits_order unit (suc zero) (suc zero) x y la lb lx ly = below_same (1 * unit) x y
digits_order unit (suc (suc a)) b x y la lb lx ly = absurd (omega arith)
digits_order unit a (suc (suc b)) x y la lb lx ly = absurd (omega arith)

-- a number's lowest bits, the highest of them apart
top_bit : (n k : ℕ) → n % 2 ^ suc k ≡ bit_at n k * 2 ^ k + n % 2 ^ k
top_bit n k = ap (λ j. n % 2 ^ j) (omega arith) ∙ mod-pow-add n 1 k

-- the lowest bits of two numbers stand in the order of what they are worth
bits_order : (k x y : ℕ) (xs ys : List ℕ) → slice_cmp nat_cmp (low_bits k x ++ xs) (low_bits k y ++ ys) ≡ ordering_then (nat_cmp (x % 2 ^ k) (y % 2 ^ k)) (slice_cmp nat_cmp xs ys)
unfolding low_bits
bits_order zero x y xs ys = (λ i. ordering_then (nat_cmp (none x i) (none y i)) (slice_cmp nat_cmp xs ys))
  where
    none : (n : ℕ) → 0 ≡ n % 1
    none n = omega arith
bits_order (suc k) x y xs ys =
    ap (λ o. ordering_then (nat_cmp (bit_at x k) (bit_at y k)) o) (bits_order k x y xs ys)
    ∙ then_then (nat_cmp (bit_at x k) (bit_at y k)) (nat_cmp (x % 2 ^ k) (y % 2 ^ k)) (slice_cmp nat_cmp xs ys)
    ∙ ap (λ o. ordering_then o (slice_cmp nat_cmp xs ys)) (sym (
    (λ i. nat_cmp (top_bit x k i) (top_bit y k i))
    ∙ digits_order (2 ^ k) (bit_at x k) (bit_at y k) (x % 2 ^ k) (y % 2 ^ k) (bit_at-lt x k) (bit_at-lt y k) (mod-lt x (pow_pos k)) (mod-lt y (pow_pos k))))

-- the numbers of two lists of fields stand in the order of their bits
record InOrder (fields others : List (ℕ × ℕ)) : Type 0 where
  same : slice_cmp nat_cmp (map (λ field. field.1) fields) (map (λ field. field.1) others) ≡ slice_cmp nat_cmp (bits_of fields) (bits_of others)

-- none stand so
no_fields : InOrder [] []
unfolding bits_of
no_fields = record { same = refl }

-- one field more before them
before_fields : {fields others : List (ℕ × ℕ)} (width x y : ℕ) → x < 2 ^ width → y < 2 ^ width → InOrder fields others → InOrder ((width, x) ∷ fields) ((width, y) ∷ others)
unfolding bits_of
before_fields {fields = fields} {others = others} width x y lx ly rest = record {
  same =
      (λ i. ordering_then (nat_cmp (sym (mod-eq_of_lt lx) i) (sym (mod-eq_of_lt ly) i)) (rest.same i))
      ∙ sym (bits_order width x y (bits_of fields) (bits_of others));
}

-- so do the fields of two headers
header_fields_order : (x y : Header) → HasWidths x → HasWidths y → InOrder (header_fields x) (header_fields y)
header_fields_order x y v w =
    before_fields 32 x.src y.src v.src w.src (before_fields 32 x.dst y.dst v.dst w.dst (before_fields 8 x.proto y.proto v.proto w.proto (before_fields 16 x.a y.a v.a w.a (before_fields 16 x.b y.b v.b w.b (before_fields 1 (flag_number x.est) (flag_number y.est) (one x) (one y) (before_fields 6 x.dscp y.dscp v.dscp w.dscp no_fields))))))
  where
    one : (h : Header) → flag_number h.est < 2 ^ 1
    one h = omega (arith, flag_small h.est)

-- the order of two headers is that of their bits
pub order_by_bits : OrderIsByBits
unfolding header_order
order_by_bits x y v w = (header_fields_order x y v w).same

-- equal bits tie, and only equal headers do
pub equal_from_bits : EqualFromBits
equal_from_bits x y v w same =
    order_ties x y (order_by_bits x y v w ∙ ap (λ bits. slice_cmp nat_cmp (header_bits x) bits) (sym same) ∙ tied_itself nat_list_cmp_total (header_bits x))

-- ---- how many bits there are, and where each stands

-- as many bits as the width says
length-low_bits : (k n : ℕ) → length (low_bits k n) ≡ k
unfolding low_bits
length-low_bits zero n = refl
length-low_bits (suc k) n = ap suc (length-low_bits k n)

-- as many bits as the widths say together
length-bits_of : (fields : List (ℕ × ℕ)) → length (bits_of fields) ≡ width_of fields
unfolding bits_of width_of
length-bits_of [] = refl
length-bits_of (field ∷ fields) = length-append (low_bits field.0 field.1) (bits_of fields) ∙ (λ i. length-low_bits field.0 field.1 i + length-bits_of fields i)

-- the widths of a header come to 111
pub all_bits : HaveAllBits
unfolding width_of
all_bits h = length-bits_of (header_fields h)

-- the bit at a place of the first number
low_bit : (k n i d : ℕ) (rest : List ℕ) → i < k → slice_index_or (low_bits k n ++ rest) i d ≡ bit_at n (k - 1 - i)
unfolding low_bits
low_bit zero n i d rest l = absurd (omega arith)
low_bit (suc k) n zero d rest l = ap (λ j. bit_at n j) (omega arith)
low_bit (suc k) n (suc i) d rest l = low_bit k n i d rest (omega arith) ∙ ap (λ j. bit_at n j) (omega arith)

-- the bits of the numbers before it come first
in_place : (before after : List (ℕ × ℕ)) (width n i d : ℕ) → i < width → slice_index_or (bits_of (before ++ (width, n) ∷ after)) (width_of before + i) d ≡ bit_at n (width - 1 - i)
unfolding bits_of width_of
in_place [] after width n i d l =
    ap (λ j. slice_index_or (low_bits width n ++ bits_of after) j d) (omega arith) ∙ low_bit width n i d (bits_of after) l
in_place (field ∷ before) after width n i d l =
    let place : field.0 + width_of before + i ≡ length (low_bits field.0 field.1) + (width_of before + i) = omega (arith, length-low_bits field.0 field.1) in
    ap (λ j. slice_index_or (low_bits field.0 field.1 ++ bits_of (before ++ (width, n) ∷ after)) j d) place
    ∙ get_or-append-add (low_bits field.0 field.1) (bits_of (before ++ (width, n) ∷ after)) (width_of before + i) d
    ∙ in_place before after width n i d l

-- so it is in a header
pub bits_in_place : BitsAreInPlace
bits_in_place = in_place

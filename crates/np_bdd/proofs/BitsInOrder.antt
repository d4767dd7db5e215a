-- Headers stand in the order of the first bit in which they differ.
use Rattle.std.proofs.Common.{◌≡◌, ℕ, zero, suc, ◌<◌, true, false, List, [], ◌∷◌, ◌++◌, length, refl, sym, ◌∙◌, ap, arith, nat_cmp, ◌⊎◌, inl, inr}
use Rattle.std.specs.Prelude.{Bool, ◌==◌, slice_index_or}
use Rattle.std.specs.Cmp.{nat_cmp_is}
use Rattle.std.specs.Cmp.Lexicographic.{slice_cmp}
use Rattle.std.specs.Ordering.{ordering_then, is_le}
use Rattle.std.specs.declared.cmp.Ordering.TheVariants.{Less, Equal}
use Rattle.std.proofs.lemmas.Bool.{true≢false}
use Rattle.std.proofs.lemmas.Bool.Decides.{nat_tests}
use Rattle.std.proofs.lemmas.Cmp.{nat_list_cmp_total, tied_itself}
use Rattle.std.proofs.lemmas.Nat.Bits.{bit_at-lt}
use Rattle.np_space.specs.Header.{HasWidths, header_le}
use Rattle.np_space.specs.Bits.{low_bits, bits_of, header_fields, header_bits}
use Rattle.np_space.specs.declared.headers.Header.{Header}
use Rattle.np_space.proofs.BitOrderLaws.{order_by_bits, all_bits}
use Rattle.np_space.proofs.OrderLemmas.{le_both_ways}
use Rattle.np_bdd.specs.Views.{Bits, bits_of_header}
use Rattle.np_bdd.specs.Walking.{AgreeBelow, IsBefore}
use Rattle.np_bdd.proofs.WayLemmas.{agree_more, before_on}

-- ---- lists of numbers

-- the number at a place, and 0 past the end
abbrev at_place : List ℕ → ℕ → ℕ
at_place xs i = slice_index_or xs i 0

-- the first number that differs decides
first_less : (k : ℕ) (xs ys : List ℕ) → k < length xs → k < length ys → ((i : ℕ) → i < k → at_place xs i ≡ at_place ys i) → at_place xs k < at_place ys k → slice_cmp nat_cmp xs ys ≡ Less
first_less k [] ys lx ly same less = absurd (omega (arith, lx))
first_less k (x ∷ xs) [] lx ly same less = absurd (omega (arith, ly))
first_less zero (x ∷ xs) (y ∷ ys) lx ly same less = ap (λ o. ordering_then o (slice_cmp nat_cmp xs ys)) (sym (nat_cmp_is x y Less less))
first_less (suc k) (x ∷ xs) (y ∷ ys) lx ly same less =
    ap (λ o. ordering_then o (slice_cmp nat_cmp xs ys)) (sym (nat_cmp_is x y Equal (same zero (omega arith))))
    ∙ first_less k xs ys (omega (arith, lx)) (omega (arith, ly)) (λ i l. same (suc i) (omega (arith, l))) less

-- lists with the same numbers are equal
same_lists : (xs ys : List ℕ) → length xs ≡ length ys → ((i : ℕ) → i < length xs → at_place xs i ≡ at_place ys i) → xs ≡ ys
same_lists [] [] e same = refl
same_lists [] (y ∷ ys) e same = absurd (omega (arith, e))
same_lists (x ∷ xs) [] e same = absurd (omega (arith, e))
same_lists (x ∷ xs) (y ∷ ys) e same = λ i. same zero (omega arith) i ∷ same_lists xs ys (omega (arith, e)) (λ j l. same (suc j) (omega (arith, l))) i

-- ---- the numbers of a header's bits

small_low : (k n : ℕ) (rest : List ℕ) → ((i : ℕ) → at_place rest i < 2) → (i : ℕ) → at_place (low_bits k n ++ rest) i < 2
unfolding low_bits
small_low zero n rest small i = small i
small_low (suc k) n rest small zero = bit_at-lt n k
small_low (suc k) n rest small (suc i) = small_low k n rest small i

small_bits : (fields : List (ℕ × ℕ)) (i : ℕ) → at_place (bits_of fields) i < 2
unfolding bits_of
small_bits [] i = omega arith
small_bits (field ∷ fields) i = small_low field.0 field.1 (bits_of fields) (small_bits fields) i

small_header : (h : Header) (i : ℕ) → at_place (header_bits h) i < 2
small_header h i = small_bits (header_fields h) i

same_number : (m n : ℕ) → m < 2 → n < 2 → (m == 1) ≡ (n == 1) → m ≡ n
same_number m n l k e = grind (arith, nat_tests)

less_number : (m n : ℕ) → m < 2 → n < 2 → (m == 1) ≡ false → (n == 1) ≡ true → m < n
less_number m n l k e f = grind (arith, nat_tests)

-- ---- the order

-- bits of headers that agree are the same numbers
agree_numbers : (g h : Header) (n : ℕ) → AgreeBelow n (bits_of_header g) (bits_of_header h) → (i : ℕ) → i < n → at_place (header_bits g) i ≡ at_place (header_bits h) i
unfolding bits_of_header
agree_numbers g h n agree i l = same_number (at_place (header_bits g) i) (at_place (header_bits h) i) (small_header g i) (small_header h i) (agree i l)

before_less : (g h : Header) → IsBefore 111 (bits_of_header g) (bits_of_header h) → slice_cmp nat_cmp (header_bits g) (header_bits h) ≡ Less
unfolding bits_of_header
before_less g h b =
    first_less b.place (header_bits g) (header_bits h) (omega (arith, b.within, all_bits g)) (omega (arith, b.within, all_bits h)) (agree_numbers g h b.place b.same)
    (less_number (at_place (header_bits g) b.place) (at_place (header_bits h) b.place) (small_header g b.place) (small_header h b.place) b.zero_here b.one_there)

agree_equal : (g h : Header) → AgreeBelow 111 (bits_of_header g) (bits_of_header h) → slice_cmp nat_cmp (header_bits g) (header_bits h) ≡ Equal
agree_equal g h agree =
    let same : header_bits g ≡ header_bits h = same_lists (header_bits g) (header_bits h) (all_bits g ∙ sym (all_bits h)) (λ i l. agree_numbers g h 111 agree i (omega (arith, l, all_bits g))) in
    ap (λ bits. slice_cmp nat_cmp (header_bits g) bits) (sym same) ∙ tied_itself nat_list_cmp_total (header_bits g)

-- a header whose bits come before, or agree, is at most the other
pub le_by_bits : (g h : Header) → HasWidths g → HasWidths h → IsBefore 111 (bits_of_header g) (bits_of_header h) ⊎ AgreeBelow 111 (bits_of_header g) (bits_of_header h) → header_le g h ≡ true
unfolding header_le
le_by_bits g h v w (inl before) = ap is_le (order_by_bits g h v w ∙ before_less g h before)
le_by_bits g h v w (inr agree) = ap is_le (order_by_bits g h v w ∙ agree_equal g h agree)

-- ---- the bits of headers in order

-- bits that have the same number at the end, or not
one_further : (n : ℕ) (f g : Bits) (a b : Bool) → f n ≡ a → g n ≡ b → AgreeBelow n f g → AgreeBelow (suc n) f g ⊎ (IsBefore (suc n) f g ⊎ IsBefore (suc n) g f)
one_further n f g true true here there agree = inl (agree_more f g n (suc n) refl agree (here ∙ sym there))
one_further n f g false false here there agree = inl (agree_more f g n (suc n) refl agree (here ∙ sym there))
one_further n f g false true here there agree = inr (inl (record { place = n; within = omega arith; same = agree; zero_here = here; one_there = there }))
one_further n f g true false here there agree = inr (inr (record { place = n; within = omega arith; same = λ i l. sym (agree i l); zero_here = there; one_there = here }))

-- bits agree up to the end, or one comes before the other
either_first : (n : ℕ) (f g : Bits) → AgreeBelow n f g ⊎ (IsBefore n f g ⊎ IsBefore n g f)
either_first zero f g = inl (λ i l. absurd (omega (arith, l)))
either_first (suc n) f g = by (either_first n f g)
  where
    by : AgreeBelow n f g ⊎ (IsBefore n f g ⊎ IsBefore n g f) → AgreeBelow (suc n) f g ⊎ (IsBefore (suc n) f g ⊎ IsBefore (suc n) g f)
    by (inl agree) = one_further n f g (f n) (g n) refl refl agree
    by (inr (inl before)) = inr (inl (before_on f f g n (suc n) (omega arith) (λ i l. refl) before))
    by (inr (inr after)) = inr (inr (before_on g g f n (suc n) (omega arith) (λ i l. refl) after))

-- the bits of a header that is at most another come before those of the other, or agree
pub bits_by_le : (g h : Header) → HasWidths g → HasWidths h → header_le g h ≡ true → IsBefore 111 (bits_of_header g) (bits_of_header h) ⊎ AgreeBelow 111 (bits_of_header g) (bits_of_header h)
bits_by_le g h v w le = by (either_first 111 (bits_of_header g) (bits_of_header h))
  where
    never : IsBefore 111 (bits_of_header h) (bits_of_header g) → ⊥
    never after =
        let same : g ≡ h = le_both_ways g h le (le_by_bits h g w v (inl after)) in
        true≢false (sym after.one_there ∙ ap (λ x. bits_of_header x after.place) same ∙ after.zero_here)

    by : AgreeBelow 111 (bits_of_header g) (bits_of_header h) ⊎ (IsBefore 111 (bits_of_header g) (bits_of_header h) ⊎ IsBefore 111 (bits_of_header h) (bits_of_header g))
        → IsBefore 111 (bits_of_header g) (bits_of_header h) ⊎ AgreeBelow 111 (bits_of_header g) (bits_of_header h)
    by (inl agree) = inr agree
    by (inr (inl before)) = inl before
    by (inr (inr after)) = absurd (never after)

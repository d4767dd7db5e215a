-- The tests of several patterns, by the highest bit of the address.
use Rattle.std.proofs.Common.{◌≡◌, ℕ, zero, suc, ◌+◌, ◌-◌, ◌*◌, ◌%◌, ◌<◌, ◌≤◌, ◌^◌, Bool, true, false, List, [], ◌∷◌, length, get_or, cond, bit_and, nat_eq, refl, sym, ◌∙◌, ap, arith}
use Rattle.std.specs.Prelude.{◌&&◌, ◌||◌, ◌==◌}
use Rattle.std.specs.Int.{bit_at}
use Rattle.std.specs.List.{filter, list_all, list_any}
use Rattle.std.proofs.Math.Pow.{pow_mono}
use Rattle.std.proofs.lemmas.Bool.{and_parts, eqb-true}
use Rattle.std.proofs.lemmas.List.Folds.{list_any_at}
use Rattle.std.proofs.lemmas.Nat.{and_mask}
use Rattle.std.proofs.lemmas.Nat.Bits.{bit_at_ones}
use Rattle.np_space.specs.Bit.{has_bit}
use Rattle.np_space.specs.Flag.{same_flag}
use Rattle.np_space.specs.Header.{is_valid_header, HasWidths}
use Rattle.np_space.specs.declared.headers.Header.{Header}
use Rattle.np_space.specs.Block.{address_number}
use Rattle.np_space.specs.declared.blocks.AddressField.{AddressField}
use Rattle.np_space.specs.Patterns.{any_pattern_has}
use Rattle.np_space.specs.Ternary.{agrees_below, ternary_has}
use Rattle.np_space.specs.declared.patterns.Ternary.{Ternary}
use Rattle.np_space.proofs.FlagLemmas.{or_false}
use Rattle.np_bdd.specs.declared.views.View.{View}
use Rattle.np_bdd.specs.Views.{bits_of_header, leads_to_yes}
use Rattle.np_bdd.specs.Nodes.{KeepsNodes, StartsAt, Chooses}
use Rattle.np_bdd.specs.Fields.{AreBitsOf, TestsField, HasHeaders, AlwaysAnswers, IsField, pattern_below, any_below, allows}
use Rattle.np_bdd.proofs.AddressLemmas.{bit_above, bit_more, bit_less, agree_alike, none_before, one_more, pattern_whole, wild_same}
use Rattle.np_bdd.proofs.FieldLemmas.{bit_of_rest, rest_bits, split_field, field_kept, starts_kept, has_alike, has_field}

-- ---- the tests

-- tests with the same answers find one in the same lists
any_alike : {X : Type 0} (p q : X → Bool) → ((x : X) → p x ≡ q x) → (xs : List X) → list_any p xs ≡ list_any q xs
any_alike p q e [] = refl
any_alike p q e (x ∷ xs) = λ i. e x i || any_alike p q e xs i

-- a test of those that pass another
any_filtered : {X : Type 0} (p q : X → Bool) (xs : List X) → list_any (λ x. p x && q x) xs ≡ list_any q (filter p xs)
any_filtered p q [] = refl
any_filtered p q (x ∷ xs) = ap (λ b. (p x && q x) || b) (any_filtered p q xs) ∙ by (p x) where
  by : (b : Bool) → ((b && q x) || list_any q (filter p xs)) ≡ list_any q (cond b (x ∷ filter p xs) (filter p xs))
  by false = refl
  by true = refl

-- with a bit more only the patterns that allow it are left
any_split : (k : ℕ) (b : Bool) (n : ℕ) → has_bit n k ≡ b → (ps : List Ternary) → any_below ps (k + 1) n ≡ any_below (filter (allows k b) ps) k n
any_split k b n e ps =
    any_alike (λ p. pattern_below p (k + 1) n) (λ p. allows k b p && pattern_below p k n)
    (λ p. one_more p k n ∙ ap (λ c. (has_bit p.wild k || same_flag c (has_bit p.value k)) && pattern_below p k n) e) ps
    ∙ any_filtered (allows k b) (λ p. pattern_below p k n) ps

-- the numbers whose highest bit is clear
any_clear : (k : ℕ) (ps : List Ternary) (n : ℕ) → n < 2 ^ k → any_below ps (k + 1) n ≡ any_below (filter (allows k false) ps) k n
any_clear k ps n l = any_split k false n (bit_above n k l) ps

-- those where it is set
any_set : (k : ℕ) (ps : List Ternary) (n : ℕ) → n < 2 ^ k → any_below ps (k + 1) (2 ^ k + n) ≡ any_below (filter (allows k true) ps) k n
any_set k ps n l =
    any_split k true (2 ^ k + n) (bit_more n k l) ps
    ∙ any_alike (λ p. pattern_below p k (2 ^ k + n)) (λ p. pattern_below p k n) (λ p. agree_alike p.value p.wild (2 ^ k + n) n k (λ i h. bit_less n k i h)) (filter (allows k true) ps)

-- the whole test
any_whole : (ps : List Ternary) (n : ℕ) → n < 2 ^ 32 → any_below ps 32 n ≡ any_pattern_has ps n
any_whole ps n l = any_alike (λ p. pattern_below p 32 n) (λ p. ternary_has p n) (λ p. pattern_whole p n l) ps

-- ---- wild bits

-- a number with all of the lowest bits under their mask has each of them
pub lowest_set : (n m width ones : ℕ) → m ≡ n → ones ≡ 2 ^ width - 1 → nat_eq (bit_and m ones) ones ≡ true → (i : ℕ) → i < width → has_bit n i ≡ true
unfolding has_bit
lowest_set n m width ones e o masked i l =
    let all : n % 2 ^ width ≡ 2 ^ width - 1 = sym (and_mask n width) ∙ (rw (e, o) at (eqb-true (bit_and m ones) ones masked)) in
    sym (bit_of_rest n width i l) ∙ ap (λ r. bit_at r i == 1) all ∙ ap (λ b. b == 1) (bit_at_ones width i l)

-- the mask as the code makes it
pub mask_is : (width : ℕ) → width ≤ 32 → 1 * 2 ^ width % 18446744073709551616 - 1 ≡ 2 ^ width - 1
mask_is width narrow = let small : 2 ^ width ≤ 2 ^ 32 = pow_mono narrow in omega arith

-- a pattern with wild bits alone has every number
wild_has : (p : Ternary) (k n : ℕ) → ((i : ℕ) → i < k → has_bit p.wild i ≡ true) → pattern_below p k n ≡ true
unfolding agrees_below
wild_has p zero n wild = refl
wild_has p (suc k) n wild = λ j. (wild k (omega arith) j || same_flag (has_bit n k) (has_bit p.value k)) && wild_has p k n (λ i l. wild i (omega arith)) j

-- so has a list with it
pub some_wild : (ps : List Ternary) (at width : ℕ) (p d : Ternary) → at < length ps → p ≡ get_or ps at d → ((i : ℕ) → i < width → has_bit p.wild i ≡ true)
    → (n : ℕ) → any_below ps width n ≡ true
some_wild ps at width p d there is wild n =
    list_any_at (λ q. pattern_below q width n) ps at d there (ap (λ q. pattern_below q width n) (sym is) ∙ wild_has p width n wild)

-- ---- the nodes

-- no pattern has anything
pub no_pattern : (first width : ℕ) (ps : List Ternary) (views : List View) (tail x : ℕ) → ps ≡ [] → first + 32 ≤ 111 → AlwaysAnswers false views x
    → IsField (any_below ps width) (first + (32 - width)) width views tail x
no_pattern first width ps views tail x e fits none = record {
  starts = record { there = none.starts.there; from = omega (arith, none.starts.from) };
  tests = λ bits n are. none.leads bits ∙ ap (λ l. any_below l width n && leads_to_yes views bits tail) (sym e);
}

-- one pattern is a list's test
one_pattern : (p : Ternary) (ps : List Ternary) → length ps ≡ 1 → p ≡ get_or ps 0 p → (width n : ℕ) → pattern_below p width n ≡ any_below ps width n
one_pattern p [] one is width n = absurd (omega (arith, one))
one_pattern p (q ∷ []) one is width n = ap (λ r. pattern_below r width n) is ∙ sym (or_false (pattern_below q width n))
one_pattern p (q ∷ r ∷ ps) one is width n = absurd (omega (arith, one))

-- so its node tests the list
pub of_one_pattern : (first width : ℕ) (p : Ternary) (ps : List Ternary) (views : List View) (tail x : ℕ) → length ps ≡ 1 → p ≡ get_or ps 0 p
    → IsField (pattern_below p width) first width views tail x → IsField (any_below ps width) first width views tail x
of_one_pattern first width p ps views tail x one is field = record {
  starts = field.starts;
  tests = λ bits n are. field.tests bits n are ∙ ap (λ b. b && leads_to_yes views bits tail) (one_pattern p ps one is width n);
}

-- where one has everything nothing is tested
pub every_number : (first width : ℕ) (ps : List Ternary) (views : List View) (tail : ℕ) → ((n : ℕ) → any_below ps width n ≡ true) → StartsAt views (first + 32) tail
    → IsField (any_below ps width) (first + (32 - width)) width views tail tail
every_number first width ps views tail all starts = record {
  starts = record { there = starts.there; from = omega (arith, starts.from) };
  tests = λ bits n are. ap (λ b. b && leads_to_yes views bits tail) (sym (all n));
}

-- a bit that is wild in each of the patterns says nothing
wild_in_each : (k : ℕ) (ps : List Ternary) → list_all (λ p. has_bit p.wild k) ps ≡ true → (n : ℕ) → any_below ps (k + 1) n ≡ any_below ps k (n % 2 ^ k)
wild_in_each k [] all n = refl
wild_in_each k (p ∷ ps) all n =
    let both = and_parts (has_bit p.wild k) (list_all (λ q. has_bit q.wild k) ps) all in
    λ i. wild_same p k both.0 n i || wild_in_each k ps both.1 n i

-- so it is passed over
passed : (at k : ℕ) (ps : List Ternary) (views : List View) (tail x : ℕ) → list_all (λ p. has_bit p.wild k) ps ≡ true → IsField (any_below ps k) (1 + at) k views tail x
    → IsField (any_below ps (k + 1)) at (k + 1) views tail x
passed at k ps views tail x all field = record {
  starts = record { there = field.starts.there; from = omega (arith, field.starts.from) };
  tests = λ bits n are.
      field.tests bits (n % 2 ^ k) (rest_bits bits at k n (rw next at are))
      ∙ ap (λ b. b && leads_to_yes views bits tail) (sym (wild_in_each k ps all n));
}
  where
    next : k + 1 ≡ 1 + k
    next = omega arith

-- the same with the numbers as the code has them
pub passed_over : (first width k : ℕ) (ps : List Ternary) (views : List View) (tail x : ℕ) → width ≡ k + 1 → width ≤ 32 → list_all (λ p. has_bit p.wild k) ps ≡ true
    → IsField (any_below ps k) (first + (32 - k)) k views tail x → IsField (any_below ps width) (first + (32 - width)) width views tail x
passed_over first width k ps views tail x e narrow all field = rw e (passed (first + (32 - (k + 1))) k ps views tail x all (rw same at field))
  where
    same : first + (32 - k) ≡ 1 + (first + (32 - (k + 1)))
    same = omega arith

-- a branch tests bits after this one alone
pub side_starts : (first width : ℕ) (old new : List View) (x : ℕ) → 0 < width → width ≤ 32 → KeepsNodes old new → StartsAt old (first + (32 - (width - 1))) x
    → StartsAt new (1 + (first + (32 - width))) x
side_starts first width old new x more narrow kept starts = starts_kept old new (1 + (first + (32 - width))) x kept (rw same at starts)
  where
    same : first + (32 - (width - 1)) ≡ 1 + (first + (32 - width))
    same = omega arith

-- a node of both branches
pub both_sides : (first width k : ℕ) (ps zeros ones : List Ternary) (next last new : List View) (tail low high x : ℕ) → width ≡ k + 1 → width ≤ 32
    → zeros ≡ filter (allows k false) ps → ones ≡ filter (allows k true) ps → tail < length next → KeepsNodes next last → KeepsNodes last new
    → IsField (any_below zeros k) (first + (32 - k)) k next tail low → IsField (any_below ones k) (first + (32 - k)) k last tail high
    → StartsAt new (first + (32 - width)) x → Chooses new (first + (32 - width)) low high x → IsField (any_below ps width) (first + (32 - width)) width new tail x
both_sides first width k ps zeros ones next last new tail low high x e narrow below above there a b low_field high_field starts chooses = record {
  starts = starts;
  tests =
      split_field (any_below ps width) (any_below zeros k) (any_below ones k) (first + (32 - width)) width k (omega arith)
      (λ n l. rw (e, below) (any_clear k ps n l)) (λ n l. rw (e, above) (any_set k ps n l)) new tail low high x
      (field_kept (any_below zeros k) (1 + (first + (32 - width))) k last new tail low b (a.there tail there) (a.there low low_at.starts.there)
      (field_kept (any_below zeros k) (1 + (first + (32 - width))) k next last tail low a there low_at.starts.there low_at.tests))
      (field_kept (any_below ones k) (1 + (first + (32 - width))) k last new tail high b (a.there tail there) high_at.starts.there high_at.tests)
      chooses;
}
  where
    same : first + (32 - k) ≡ 1 + (first + (32 - width))
    same = omega arith

    low_at : IsField (any_below zeros k) (1 + (first + (32 - width))) k next tail low
    low_at = rw same at low_field

    high_at : IsField (any_below ones k) (1 + (first + (32 - width))) k last tail high
    high_at = rw same at high_field

-- all bits of the address are tested
pub any_field_tests : (ps all : List Ternary) (first : ℕ) (views : List View) (tail x : ℕ) → all ≡ ps → IsField (any_below all 32) (first + (32 - 32)) 32 views tail x
    → StartsAt views first x × TestsField (any_pattern_has ps) first 32 views tail x
any_field_tests ps all first views tail x e field =
    let at_first = (rw (e, none_before first) at field) in
    (at_first.starts, λ bits n are. at_first.tests bits n are ∙ ap (λ b. b && leads_to_yes views bits tail) (any_whole ps n are.small))

-- ---- before the valid headers

-- they test no bit of an address
pub starts_later : (first : ℕ) (views : List View) (x : ℕ) → first ≤ 32 → StartsAt views 64 x → StartsAt views (first + 32) x
starts_later first views x early starts = record { there = starts.there; from = omega (arith, starts.from) }

-- with the addresses before them
pub valid_with_has : (field : AddressField) (ps : List Ternary) (first : ℕ) (old new : List View) (valid x : ℕ) → ((h : Header) → HasWidths h → AreBitsOf (bits_of_header h) first 32 (address_number field h))
    → KeepsNodes old new → StartsAt old 64 valid → HasHeaders is_valid_header old valid → TestsField (any_pattern_has ps) first 32 new valid x
    → HasHeaders (λ h. is_valid_header h && any_pattern_has ps (address_number field h)) new x
valid_with_has field ps first old new valid x are kept starts has tests =
    has_alike (λ h. any_pattern_has ps (address_number field h) && is_valid_header h) (λ h. is_valid_header h && any_pattern_has ps (address_number field h)) new x
    (λ h. turned (any_pattern_has ps (address_number field h)) (is_valid_header h))
    (has_field (address_number field) first 32 are (any_pattern_has ps) is_valid_header old new valid x kept starts.there has tests)
  where
    turned : (s t : Bool) → (s && t) ≡ (t && s)
    turned false false = refl
    turned false true = refl
    turned true false = refl
    turned true true = refl

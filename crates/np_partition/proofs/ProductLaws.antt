-- The product tells apart what either of its factors does.
use Rattle.std.proofs.Common.{◌≡◌, ℕ, zero, suc, ◌<◌, Bool, false, List, [], ◌∷◌, ◌++◌, length, Some, refl, sym, ◌∙◌, ap, arith, ◌⊎◌, inl, inr}
use Rattle.std.specs.Prelude.{◌&&◌, slice_get, slice_index_or, None}
use Rattle.std.specs.List.{AllByRecursion, IsDistinct}
use Rattle.std.proofs.lemmas.Bool.{true≢false, eq-eqb}
use Rattle.std.proofs.lemmas.List.{length-map, get_or-map, map-append}
use Rattle.std.proofs.lemmas.List.Elements.{All-append}
use Rattle.std.proofs.lemmas.Map.Keys.{IsDistinct-head, IsDistinct-tail}
use Rattle.std.proofs.lemmas.Option.{slice_get_within, slice_get-get_or, get_or_from_slice_get}
use Rattle.np_space.specs.Classes.{cuts_say}
use Rattle.np_space.specs.Header.{HasWidths}
use Rattle.np_space.specs.declared.headers.Header.{Header}
use Rattle.np_atomset.specs.AtomSet.{has_member}
use Rattle.np_bdd.specs.Views.{Bits, bits_of_header}
use Rattle.np_bdd.proofs.HeaderOfBits.{header_of, header_widths, header_of_bits}
use Rattle.np_partition.specs.declared.partition.Partition.{Partition}
use Rattle.np_partition.specs.declared.pairing.Pairing.{Pairing}
use Rattle.np_partition.specs.declared.shows.Show.{Show}
use Rattle.np_partition.specs.Diagram.{class_at}
use Rattle.np_partition.specs.Partition.{class_of, row, IsPartition}
use Rattle.np_partition.specs.Pairing.{AreReached, pair_of, same_pair, AddsReached, AreAllReached}
use Rattle.np_partition.specs.Product.{sets_at, firsts, seconds, IsProduct}
use Rattle.np_partition.proofs.BitLaws.{reads_from}
use Rattle.np_partition.proofs.SetLaws.{row_at, sizes_at}

-- ---- pairs

-- where there were none, each is reached
pub all_reached : (first second : List Show) (x y : ℕ) (old new : Pairing) → old.pairs.keys ≡ [] → AddsReached first second x y old new → AreAllReached first second x y new
all_reached first second x y old new none adds = record { each = λ n pair e. by n pair (adds.only n pair e) }
  where
    by : (n : ℕ) (pair : ℕ × ℕ) → (pair_of old n ≡ Some pair) ⊎ AreReached first second x y pair → AreReached first second x y pair
    by n pair (inl before) = let empty : pair_of old n ≡ None = ap (λ pairs. slice_get pairs n) none in absurd (cc)
    by n pair (inr reached) = reached

-- a pair that differs from all others is none of them
none_same : (pair : ℕ × ℕ) (pairs : List (ℕ × ℕ)) (n : ℕ) → AllByRecursion (λ other. same_pair pair other ≡ false) pairs → slice_get pairs n ≡ Some pair → ⊥
none_same pair [] n differ e = cc
none_same pair (other ∷ pairs) zero differ e =
    let same : other ≡ pair = cc in
    true≢false (sym (λ i. eq-eqb pair.0 pair.0 refl i && eq-eqb pair.1 pair.1 refl i) ∙ ap (λ o. same_pair pair o) (sym same) ∙ differ.0)
none_same pair (other ∷ pairs) (suc n) differ e = none_same pair pairs n differ.1 e

-- no pair stands at two places
pub pairs_unique : (pairs : List (ℕ × ℕ)) → IsDistinct same_pair pairs → (m n : ℕ) (pair : ℕ × ℕ) → slice_get pairs m ≡ Some pair → slice_get pairs n ≡ Some pair → m ≡ n
pairs_unique [] distinct m n pair e f = cc
pairs_unique (other ∷ pairs) distinct zero zero pair e f = refl
pairs_unique (other ∷ pairs) distinct zero (suc n) pair e f =
    let same : other ≡ pair = cc in
    absurd (none_same other pairs n (IsDistinct-head same_pair other pairs distinct) (f ∙ ap Some (sym same)))
pairs_unique (other ∷ pairs) distinct (suc m) zero pair e f =
    let same : other ≡ pair = cc in
    absurd (none_same other pairs m (IsDistinct-head same_pair other pairs distinct) (e ∙ ap Some (sym same)))
pairs_unique (other ∷ pairs) distinct (suc m) (suc n) pair e f = ap suc (pairs_unique pairs (IsDistinct-tail same_pair other pairs distinct) m n pair e f)

-- ---- rows

-- the row of a class is that of both of its pair
row_of_pair : (first second : List (List Bool)) (pairs : List (ℕ × ℕ)) (n : ℕ) (pair : ℕ × ℕ) → slice_get pairs n ≡ Some pair
    → row (sets_at first (firsts pairs) ++ sets_at second (seconds pairs)) n ≡ row first pair.0 ++ row second pair.1
row_of_pair first second pairs n pair e =
    map-append (λ set. has_member set n) (sets_at first (firsts pairs)) (sets_at second (seconds pairs))
    ∙ (λ i. row_at first (firsts pairs) n within_first i ++ row_at second (seconds pairs) n within_second i)
    ∙ (λ i. row first (number_first i) ++ row second (number_second i))
  where
    within : n < length pairs
    within = slice_get_within pairs n pair e

    within_first : n < length (firsts pairs)
    within_first = omega (arith, within, length-map pairs (λ (p : ℕ × ℕ). p.0))

    within_second : n < length (seconds pairs)
    within_second = omega (arith, within, length-map pairs (λ (p : ℕ × ℕ). p.1))

    number_first : slice_index_or (firsts pairs) n 0 ≡ pair.0
    number_first = get_or-map (λ (p : ℕ × ℕ). p.0) pairs n (0, 0) 0 within ∙ ap (λ p. p.0) (get_or_from_slice_get pairs n pair (0, 0) e)

    number_second : slice_index_or (seconds pairs) n 0 ≡ pair.1
    number_second = get_or-map (λ (p : ℕ × ℕ). p.1) pairs n (0, 0) 0 within ∙ ap (λ p. p.1) (get_or_from_slice_get pairs n pair (0, 0) e)

-- lists that begin with as many are equal where they are equal from both
parts_equal : (a b c d : List Bool) → length a ≡ length b → a ++ c ≡ b ++ d → (a ≡ b) × (c ≡ d)
parts_equal [] [] c d long e = (refl, e)
parts_equal [] (y ∷ b) c d long e = absurd (omega (arith, long))
parts_equal (x ∷ a) [] c d long e = absurd (omega (arith, long))
parts_equal (x ∷ a) (y ∷ b) c d long e =
    let head : x ≡ y = cc in
    let tail : a ++ c ≡ b ++ d = cc in
    let rest = parts_equal a b c d (omega (arith, long)) tail in
    ((λ i. head i ∷ rest.0 i), rest.1)

-- ---- the partition

-- the class to which bits lead is below the classes, since a header has the bits
bits_within : (tests : List (Header → Bool)) (p : Partition) → IsPartition tests p → (f : Bits) → class_at f p.shows p.root < p.classes
bits_within tests p is f = rw (← same) (is.within (header_of f) (header_widths f))
  where
    same : class_of p (header_of f) ≡ class_at f p.shows p.root
    same = reads_from p.shows is.diagram 0 (bits_of_header (header_of f)) f (λ i from below. header_of_bits f i below) p.root is.there (omega arith)

module _ (first second : Partition) (pairs : List (ℕ × ℕ)) (p : Partition) (product : IsProduct first second pairs p)
    (xs ys : List (Header → Bool)) (is_first : IsPartition xs first) (is_second : IsPartition ys second) where
  -- the pair of a header's class
  pair_of_header : (h : Header) → slice_get pairs (class_of p h) ≡ Some (class_of first h, class_of second h)
  pair_of_header h = product.exact (bits_of_header h)

  row_is : (n : ℕ) (pair : ℕ × ℕ) → slice_get pairs n ≡ Some pair → row p.sets n ≡ row first.sets pair.0 ++ row second.sets pair.1
  row_is n pair e = ap (λ sets. row sets n) product.sets ∙ row_of_pair first.sets second.sets pairs n pair e

  says_both : (h : Header) → HasWidths h → row p.sets (class_of p h) ≡ cuts_say (xs ++ ys) h
  says_both h w =
      row_is (class_of p h) (class_of first h, class_of second h) (pair_of_header h)
      ∙ (λ i. is_first.says h w i ++ is_second.says h w i)
      ∙ sym (map-append (λ test. test h) xs ys)

  first_within : (pair : ℕ × ℕ) → AreReached first.shows second.shows first.root second.root pair → pair.0 < first.classes
  first_within pair r = rw (← ap (λ q. q.0) r.exact) (bits_within xs first is_first r.bits)

  second_within : (pair : ℕ × ℕ) → AreReached first.shows second.shows first.root second.root pair → pair.1 < second.classes
  second_within pair r = rw (← ap (λ q. q.1) r.exact) (bits_within ys second is_second r.bits)

  -- classes of the same row stand for the same pair
  same_class : (m n : ℕ) (a b : ℕ × ℕ) → slice_get pairs m ≡ Some a → slice_get pairs n ≡ Some b → row p.sets m ≡ row p.sets n → m ≡ n
  same_class m n a b at_m at_n rows = product.unique m n a at_m (at_n ∙ ap Some (sym same))
    where
      parts : (row first.sets a.0 ≡ row first.sets b.0) × (row second.sets a.1 ≡ row second.sets b.1)
      parts =
          parts_equal (row first.sets a.0) (row first.sets b.0) (row second.sets a.1) (row second.sets b.1)
          (length-map first.sets (λ set. has_member set a.0) ∙ sym (length-map first.sets (λ set. has_member set b.0)))
          (sym (row_is m a at_m) ∙ rows ∙ row_is n b at_n)

      reached_a : AreReached first.shows second.shows first.root second.root a
      reached_a = product.reached m a at_m

      reached_b : AreReached first.shows second.shows first.root second.root b
      reached_b = product.reached n b at_n

      same : a ≡ b
      same = λ i. (
        is_first.apart a.0 b.0 (first_within a reached_a) (first_within b reached_b) parts.0 i,
        is_second.apart a.1 b.1 (second_within a reached_a) (second_within b reached_b) parts.1 i,
      )

  pub product_partition : IsPartition (xs ++ ys) p
  product_partition = record {
    diagram = product.diagram;
    there = product.there;
    within = λ h w. rw product.classes (slice_get_within pairs (class_of p h) (class_of first h, class_of second h) (pair_of_header h));
    says = says_both;
    sizes = rw (product.sets, product.classes)
        (All-append (λ set. length set ≡ length pairs) (sets_at first.sets (firsts pairs)) (sets_at second.sets (seconds pairs))
        (sizes_at first.sets (firsts pairs) (length pairs) (length-map pairs (λ (q : ℕ × ℕ). q.0)))
        (sizes_at second.sets (seconds pairs) (length pairs) (length-map pairs (λ (q : ℕ × ℕ). q.1))));
    apart = λ m n below_m below_n rows. same_class m n (slice_index_or pairs m (0, 0)) (slice_index_or pairs n (0, 0))
        (slice_get-get_or pairs m (0, 0) (rw product.classes at below_m)) (slice_get-get_or pairs n (0, 0) (rw product.classes at below_n)) rows;
  }

-- Which classes of a partition are the atoms of its tests, where the first test is whether a header is valid.
use Rattle.std.proofs.Common.{◌≡◌, ℕ, ◌+◌, ◌<◌, Bool, true, false, List, [], ◌∷◌, length, get_or, map, drop, refl, sym, ◌∙◌, ap, subst, arith, zero-add, Option, Some, None, eq-eqb}
use Rattle.std.specs.Prelude.{◌==◌, ◌&&◌, nat_lt, sum_by}
use Rattle.std.specs.List.Sorted.{IsPermutation, IsSortedBy}
use Rattle.std.specs.Option.{is_some}
use Rattle.std.proofs.lemmas.Bool.{true≢false, eqb-true, and_parts, lt-ltb}
use Rattle.std.proofs.lemmas.List.{length-map, get_or-map as get_or_inside, get_or_default}
use Rattle.std.proofs.lemmas.List.Elements.{All-map, All-weaker}
use Rattle.std.proofs.lemmas.List.Sorted.{All-permutation}
use Rattle.std.proofs.lemmas.List.Sums.{sum_by-cons}
use Rattle.np_space.specs.Flag.{flag_number}
use Rattle.np_space.specs.Classes.{cuts_say, IsAlike}
use Rattle.np_space.specs.Header.{is_valid_header, IsValid, HasWidths, zeros}
use Rattle.np_space.specs.declared.headers.Header.{Header}
use Rattle.np_space.proofs.ClassLaws.{zeros_valid}
use Rattle.np_space.proofs.FlagLemmas.{and_both}
use Rattle.np_space.proofs.HeaderLemmas.{valid_widths}
use Rattle.np_atomset.specs.AtomSet.{has_member}
use Rattle.np_partition.specs.Partition.{class_of, row, IsPartition, IsLeastMember, AreLeastMembers}
use Rattle.np_partition.specs.declared.partition.Partition.{Partition}
use Rattle.np_atomizer.specs.AtomList.{regions_of, is_before}
use Rattle.np_atomizer.specs.ClassAtoms.{valid_classes, class_has, IsListed, is_listed, AreListed, IsClassOf, IsClassAtom, AreClassAtoms}
use Rattle.np_atomizer.specs.Splitting.{count_having, IsClass, AreClasses, IsRead}
use Rattle.np_atomizer.specs.declared.atom_list.Atom.{Atom}
use Rattle.np_atomizer.proofs.AtomLaws.{atoms_sorted}

-- ---- sums over classes

-- where the first condition holds, a sum over the regions is one over the atoms
sum_of_regions : (c : ℕ) (atoms : List (Atom ℕ)) → sum_by (λ k. flag_number (c == k)) (regions_of atoms) ≡ sum_by (λ (a : Atom ℕ). flag_number (c == a.region)) atoms
sum_of_regions c [] = refl
sum_of_regions c (a ∷ atoms) =
    sum_by-cons (λ k. flag_number (c == k)) a.region (regions_of atoms)
    ∙ ap (λ m. flag_number (c == a.region) + m) (sum_of_regions c atoms)
    ∙ sym (sum_by-cons (λ (x : Atom ℕ). flag_number (c == x.region)) a atoms)

-- and where it doesn't, nothing counts
sum_of_none : (c : ℕ) (ks : List ℕ) → sum_by (λ k. flag_number (false && (c == k))) ks ≡ 0
sum_of_none c [] = refl
sum_of_none c (k ∷ ks) =
    sum_by-cons (λ i. flag_number (false && (c == i))) k ks ∙ zero-add (sum_by (λ i. flag_number (false && (c == i))) ks) ∙ sum_of_none c ks

-- what a mapped list has after its first element
rest_of_map : {X Y : Type 0} (f : X → Y) (xs : List X) (y : Y) (ys : List Y) → map f xs ≡ y ∷ ys → map f (drop 1 xs) ≡ ys
rest_of_map f [] y ys e = absurd (omega (arith, ap length e))
rest_of_map f (x ∷ xs) y ys e = ap (drop 1) e

module _ (p : Partition) (tests : List (Header → Bool)) (is : IsPartition (is_valid_header ∷ tests) p) where
  -- ---- what the sets say

  -- there is a set for validity, and one for each other test
  pub sets_counted : length p.sets ≡ 1 + length tests
  sets_counted =
      let said : length (row p.sets (class_of p zeros)) ≡ length (cuts_say (is_valid_header ∷ tests) zeros) =
      ap length (is.says zeros (valid_widths zeros zeros_valid)) in
      let left : length (row p.sets (class_of p zeros)) ≡ length p.sets =
      length-map p.sets (λ (set : List Bool). has_member set (class_of p zeros)) in
      let right : length (cuts_say tests zeros) ≡ length tests = length-map tests (λ (test : Header → Bool). test zeros) in
      omega arith

  -- the set that stands first
  pub first_set : (sets : List (List Bool)) (x : List Bool) → sets ≡ p.sets → x ≡ get_or sets 0 x → x ≡ valid_classes p
  first_set sets x same at = at ∙ ap (λ xs. get_or xs 0 x) same ∙ get_or_default p.sets 0 x [] (omega (arith, sets_counted))

  -- the first is as long as there are classes
  pub valid_counted : length (valid_classes p) ≡ p.classes
  valid_counted = is.sizes 0 [] (omega (arith, sets_counted))

  -- whether the headers of a class are valid
  pub valid_said : (h : Header) → HasWidths h → has_member (valid_classes p) (class_of p h) ≡ is_valid_header h
  valid_said h w =
      let there : 0 < length p.sets = omega (arith, sets_counted) in
      sym (get_or_inside (λ (set : List Bool). has_member set (class_of p h)) p.sets 0 [] false there)
      ∙ ap (λ bs. get_or bs 0 false) (is.says h w)

  -- what the tests say of them
  pub rest_said : (h : Header) → HasWidths h → row (drop 1 p.sets) (class_of p h) ≡ cuts_say tests h
  rest_said h w =
      rest_of_map (λ (set : List Bool). has_member set (class_of p h)) p.sets (is_valid_header h) (cuts_say tests h) (is.says h w)

  -- valid headers that are alike are in one class
  class_same : (g h : Header) → IsValid g → IsValid h → IsAlike tests g h → class_of p g ≡ class_of p h
  class_same g h v w alike =
      let wg = valid_widths g v in
      let wh = valid_widths h w in
      is.apart (class_of p g) (class_of p h) (is.within g wg) (is.within h wh)
      (is.says g wg ∙ (λ i. (v ∙ sym w) i ∷ alike i) ∙ sym (is.says h wh))

  -- and those of one class are alike
  alike_inside : (n : ℕ) (g h : Header) → class_has p n g ≡ true → class_has p n h ≡ true → IsAlike tests g h
  alike_inside n g h a b =
      let x = and_parts (is_valid_header g) (class_of p g == n) a in
      let y = and_parts (is_valid_header h) (class_of p h == n) b in
      sym (rest_said g (valid_widths g x.0))
      ∙ ap (row (drop 1 p.sets)) (eqb-true (class_of p g) n x.1 ∙ sym (eqb-true (class_of p h) n y.1))
      ∙ rest_said h (valid_widths h y.0)

  -- ---- one atom

  -- a class of valid headers has its least member
  pub has_own : (a : Atom ℕ) → IsClassAtom p a → class_has p a.region a.least ≡ true
  has_own a c =
      and_both (is_valid_header a.least) (class_of p a.least == a.region)
      (sym (valid_said a.least c.widths) ∙ ap (has_member (valid_classes p)) c.own ∙ c.valid)
      (eq-eqb (class_of p a.least) a.region c.own)

  module _ (leasts : List (Option Header)) (are : AreLeastMembers p leasts) where
    -- the least header of a listed class
    least_member : (a : Atom ℕ) → IsListed (valid_classes p) leasts a → IsLeastMember p a.region (Some a.least)
    least_member a l = subst (IsLeastMember p a.region) l.least (are.each a.region (subst (λ n. a.region < n) are.count l.within))

    -- a listed class is one of valid headers
    class_atom : (a : Atom ℕ) → IsListed (valid_classes p) leasts a → IsClassAtom p a
    class_atom a l =
        let m = least_member a l in
        record { within = subst (λ n. a.region < n) are.count l.within; valid = l.member; widths = m.0; own = m.1 }

    -- it is a class of the tests
    class_of_tests : (a : Atom ℕ) → IsListed (valid_classes p) leasts a → IsClass IsClassOf class_has p tests a.region
    class_of_tests a l =
        let c = class_atom a l in
        record {
          fit = c.within;
          some = λ none. true≢false (sym (has_own a c) ∙ none a.least);
          only = alike_inside a.region;
          all = λ h g has v alike.
              let parts = and_parts (is_valid_header h) (class_of p h == a.region) has in
              and_both (is_valid_header g) (class_of p g == a.region) v
              (eq-eqb (class_of p g) a.region (sym (class_same h g parts.0 v alike) ∙ eqb-true (class_of p h) a.region parts.1));
        }

    -- with its least member
    read_of_tests : (a : Atom ℕ) → IsListed (valid_classes p) leasts a → IsRead class_has p a
    read_of_tests a l =
        record {
          has = has_own a (class_atom a l);
          least = λ h has.
              let parts = and_parts (is_valid_header h) (class_of p h == a.region) has in
              (least_member a l).2 h (valid_widths h parts.0) (eqb-true (class_of p h) a.region parts.1);
        }

    -- ---- all atoms

    module _ (atoms : List (Atom ℕ)) (listed : AreListed (valid_classes p) leasts (length leasts) atoms) where
      -- the class of a valid header is listed
      is_there : (h : Header) → IsValid h → is_listed (valid_classes p) leasts (length leasts) (class_of p h) ≡ true
      is_there h v =
          and_both (nat_lt k (length leasts) && has_member (valid_classes p) k) (is_some (get_or leasts k None))
          (and_both (nat_lt k (length leasts)) (has_member (valid_classes p) k) (lt-ltb k (length leasts) (subst (λ n. k < n) (sym are.count) below)) (valid_said h w ∙ v))
          (some (get_or leasts k None) (are.each k below))
        where
          k : ℕ
          k = class_of p h

          w : HasWidths h
          w = valid_widths h v

          below : k < p.classes
          below = is.within h w

          some : (least : Option Header) → IsLeastMember p k least → is_some least ≡ true
          some None none = absurd (none h w refl)
          some (Some x) member = refl

      -- each valid header is in exactly one of them
      counted : (h : Header) → count_having class_has p (regions_of atoms) h ≡ flag_number (is_valid_header h)
      counted h = by (is_valid_header h) refl
        where
          c : ℕ
          c = class_of p h

          by : (b : Bool) → is_valid_header h ≡ b → sum_by (λ k. flag_number (b && (c == k))) (regions_of atoms) ≡ flag_number b
          by true e = sum_of_regions c atoms ∙ listed.count c ∙ ap flag_number (is_there h e)
          by false e = sum_of_none c (regions_of atoms)

      -- they are the classes of the tests
      classes_of_tests : AreClasses IsClassOf class_has p tests (regions_of atoms)
      classes_of_tests =
          record {
            each =
                All-map (IsClass IsClassOf class_has p tests) (λ (a : Atom ℕ). a.region) atoms
                (All-weaker (IsListed (valid_classes p) leasts) (λ (a : Atom ℕ). IsClass IsClassOf class_has p tests a.region) class_of_tests atoms listed.each);
            count = counted;
          }

      -- once they are sorted, they are the atoms of the tests
      pub class_atoms_sorted : (after : List (Atom ℕ)) → IsPermutation atoms after → IsSortedBy is_before after → AreClassAtoms p tests after
      class_atoms_sorted after moved sorted =
          record {
            ordered =
                atoms_sorted IsClassOf class_has (λ s k h fits has. (and_parts (is_valid_header h) (class_of s h == k) has).0) p (regions_of atoms) atoms after refl
                (All-weaker (IsListed (valid_classes p) leasts) (IsRead class_has p) read_of_tests atoms listed.each)
                moved sorted tests classes_of_tests;
            each = All-permutation (IsClassAtom p) atoms after moved (All-weaker (IsListed (valid_classes p) leasts) (IsClassAtom p) class_atom atoms listed.each);
          }

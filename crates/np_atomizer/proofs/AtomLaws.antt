-- What is read of the classes, the order of the atoms, and the numbers of their regions.
use Rattle.std.proofs.Common.{◌≡◌, ℕ, suc, zero, ◌<◌, ◌≤◌, Bool, true, false, List, [], ◌∷◌, ◌++◌, length, get_or, refl, sym, ◌∙◌, ap, subst, inl, inr, arith, append_assoc, eq-eqb}
use Rattle.std.specs.Prelude.{◌==◌, ◌&&◌, IsTrue, sum_by}
use Rattle.std.specs.List.{All, AllPairs, Any, position_or_len}
use Rattle.std.specs.List.Sorted.{IsPermutation, IsSortedBy, IsStrictlySortedBy}
use Rattle.std.specs.Ordering.{is_lt}
use Rattle.std.specs.declared.cmp.Ordering.TheVariants.{Less}
use Rattle.std.proofs.Math.ListN.{get_or-map}
use Rattle.std.proofs.lemmas.Bool.{true≢false, cases_lt, eqb-true, and_parts}
use Rattle.std.proofs.lemmas.List.{map-append, length-map, get_or-map as get_or_inside}
use Rattle.std.proofs.lemmas.List.Elements.{All-nil, All-head, All-tail, All-push, All-map, All-weaker, recursion_from_All}
use Rattle.std.proofs.lemmas.List.Sorted.{All-permutation, IsPermutation-map, sum_by-IsPermutation, sorted_far, ranks_by}
use Rattle.std.proofs.lemmas.List.Sums.{sum_by-cons, fails_before_first, passes_at_first, position_or_len_is}
use Rattle.np_space.specs.Flag.{flag_number}
use Rattle.np_space.specs.Classes.{IsAlike, IsLeastAlike, HasAlike, AreLeasts}
use Rattle.np_space.specs.Header.{is_valid_header, IsValid, IsLeast, header_order}
use Rattle.np_space.specs.declared.headers.Header.{Header}
use Rattle.np_space.proofs.ClassLaws.{before_from_distinct}
use Rattle.np_space.proofs.FlagLemmas.{flag_small, same_answers, and_both}
use Rattle.np_space.proofs.HeaderLemmas.{order_total}
use Rattle.np_region.specs.Keeping.{KeepsRegions, EachFits, tests_of}
use Rattle.np_region.proofs.KeepingLemmas.{tests_kept}
use Rattle.np_atoms.specs.Atoms.{cut_sets, AreAtoms}
use Rattle.np_atomizer.specs.Splitting.{DivideValid, number_in, count_having, HasSome, IsClass, AreClasses, IsRead, AreInOrder}
use Rattle.np_atomizer.specs.AtomList.{regions_of, leasts_of, is_before}
use Rattle.np_atomizer.specs.declared.atom_list.Atom.{Atom}
use Rattle.np_atomizer.proofs.SplitLaws.{count_cons}

-- ---- numbers

-- where one passes, there is a first that does
pub first_within : {X : Type 0} (p : X → Bool) (xs : List X) (n : ℕ) (d : X) → n < length xs → p (get_or xs n d) ≡ true → position_or_len p xs < length xs
first_within p xs n d l e = elim (cases_lt (position_or_len p xs) (length xs)) [
  | inl below ↦ below
  | inr past ↦ absurd (true≢false (sym e ∙ fails_before_first p xs n d (omega arith)))
]

-- an element that passes counts
passing_counted : {X : Type 0} (p : X → Bool) (xs : List X) (n : ℕ) (d : X) → n < length xs → p (get_or xs n d) ≡ true → 1 ≤ sum_by (λ x. flag_number (p x)) xs
passing_counted p [] n d l e = absurd (omega arith)
passing_counted p (x ∷ xs) zero d l e =
    let first = sum_by-cons (λ y. flag_number (p y)) x xs in
    let one : flag_number (p x) ≡ 1 = ap flag_number e in
    omega arith
passing_counted p (x ∷ xs) (suc n) d l e =
    let first = sum_by-cons (λ y. flag_number (p y)) x xs in
    let rest = passing_counted p xs n d (omega arith) e in
    omega arith

-- where one alone passes, it stands at one place
pub one_place : {X : Type 0} (p : X → Bool) (xs : List X) (i j : ℕ) (d : X) → sum_by (λ x. flag_number (p x)) xs ≤ 1 → i < length xs → j < length xs → p (get_or xs i d) ≡ true → p (get_or xs j d) ≡ true → i ≡ j
one_place p [] i j d once l m e f = absurd (omega arith)
one_place p (x ∷ xs) zero zero d once l m e f = refl
one_place p (x ∷ xs) zero (suc j) d once l m e f =
    let first = sum_by-cons (λ y. flag_number (p y)) x xs in
    let one : flag_number (p x) ≡ 1 = ap flag_number e in
    let rest = passing_counted p xs j d (omega arith) f in
    absurd (omega arith)
one_place p (x ∷ xs) (suc i) zero d once l m e f =
    let first = sum_by-cons (λ y. flag_number (p y)) x xs in
    let one : flag_number (p x) ≡ 1 = ap flag_number f in
    let rest = passing_counted p xs i d (omega arith) e in
    absurd (omega arith)
one_place p (x ∷ xs) (suc i) (suc j) d once l m e f =
    let first = sum_by-cons (λ y. flag_number (p y)) x xs in
    ap suc (one_place p xs i j d (omega arith) (omega arith) (omega arith) e f)

-- the n-th of the regions that divide the valid headers has those whose number is n
pub numbered_region : {R : Type 0} (fits : R → Type 0) (has : R → Header → Bool) (valid : (r : R) (h : Header) → fits r → IsTrue (has r h) → IsValid h) (regions : List R) (n : ℕ) (d : R) (h : Header) → DivideValid fits has regions → n < length regions → has (get_or regions n d) h ≡ (is_valid_header h && (number_in has regions h == n))
numbered_region {R} fits has valid regions n d h divide l = same_answers (has (get_or regions n d) h) (is_valid_header h && (number == n)) to from
  where
    number : ℕ
    number = number_in has regions h

    once : sum_by (λ r. flag_number (has r h)) regions ≤ 1
    once = let c = divide.count h in let f = flag_small (is_valid_header h) in omega arith

    to : has (get_or regions n d) h ≡ true → (is_valid_header h && (number == n)) ≡ true
    to e =
        let below = first_within (λ r. has r h) regions n d l e in
        let first = passes_at_first (λ r. has r h) regions d below in
        and_both (is_valid_header h) (number == n) (valid (get_or regions n d) h (divide.fit n d l) e) (eq-eqb number n (one_place (λ r. has r h) regions number n d once below l first e))

    from : (is_valid_header h && (number == n)) ≡ true → has (get_or regions n d) h ≡ true
    from e =
        let same : number ≡ n = eqb-true number n (and_parts (is_valid_header h) (number == n) e).1 in
        ap (λ k. has (get_or regions k d) h) (sym same) ∙ passes_at_first (λ r. has r h) regions d (subst (λ k. k < length regions) (sym same) l)

module _ {S R : Type 0} (fits : S → R → Type 0) (has : S → R → Header → Bool) where
  -- ---- reading the classes

  -- While the classes are read: which regions are left, and which atoms stand already.
  pub record AreReadTo (s : S) (regions left : List R) (atoms : List (Atom R)) : Type 0 where
    pub fit : EachFits fits s left
    pub some : All (HasSome has s) left
    pub same : regions_of atoms ++ left ≡ regions
    pub read : All (IsRead has s) atoms

  -- before the first class
  pub read_none : (s : S) (regions left : List R) (atoms : List (Atom R)) → left ≡ regions → atoms ≡ [] → EachFits fits s regions → All (HasSome has s) regions → AreReadTo s regions left atoms
  read_none s regions left atoms e p fit some =
      subst (λ l. AreReadTo s regions l atoms) (sym e) (subst (λ l. AreReadTo s regions regions l) (sym p) (record {
        fit = fit;
        some = some;
        same = refl;
        read = All-nil (IsRead has s);
      }))

  -- the next class fits the store and is not empty
  pub next_fits : (s : S) (regions left rest : List R) (r : R) (atoms : List (Atom R)) → left ≡ r ∷ rest → AreReadTo s regions left atoms → fits s r × HasSome has s r
  next_fits s regions left rest r atoms e so_far =
      (All-head (fits s) r rest (subst (EachFits fits s) e so_far.fit), All-head (HasSome has s) r rest (subst (All (HasSome has s)) e so_far.some))

  -- one class more
  pub read_more : (s : S) (regions left rest : List R) (r : R) (atoms after : List (Atom R)) (a : Atom R) → left ≡ r ∷ rest → after ≡ atoms ++ a ∷ [] → AreReadTo s regions left atoms → a.region ≡ r → IsRead has s a → AreReadTo s regions rest after
  read_more s regions left rest r atoms after a e p so_far at read =
      subst (λ l. AreReadTo s regions rest l) (sym p) (record {
        fit = All-tail (fits s) r rest (subst (EachFits fits s) e so_far.fit);
        some = All-tail (HasSome has s) r rest (subst (All (HasSome has s)) e so_far.some);
        same =
            ap (λ l. l ++ rest) (map-append (λ x. x.region) atoms (a ∷ []))
            ∙ append_assoc (regions_of atoms) (a.region ∷ []) rest
            ∙ (λ i. regions_of atoms ++ at i ∷ rest)
            ∙ ap (λ l. regions_of atoms ++ l) (sym e)
            ∙ so_far.same;
        read = All-push (IsRead has s) atoms a so_far.read read;
      })

  -- after the last class
  pub read_all : (s : S) (regions left : List R) (atoms : List (Atom R)) → length left ≡ 0 → AreReadTo s regions left atoms → regions_of atoms ≡ regions
  read_all s regions [] atoms none so_far = sym (append-nil (regions_of atoms)) ∙ so_far.same
    where
      append-nil : (xs : List R) → xs ++ [] ≡ xs
      append-nil [] = refl
      append-nil (x ∷ xs) = ap (λ l. x ∷ l) (append-nil xs)
  read_all s regions (r ∷ left) atoms none so_far = absurd (omega arith)

  -- ---- how many atoms have a header

  -- an atom that has the header counts
  some_counted : (s : S) (atoms : List (Atom R)) (n : ℕ) (d : Atom R) (h : Header) → n < length atoms → has s (get_or atoms n d).region h ≡ true → 1 ≤ count_having has s (regions_of atoms) h
  some_counted s [] n d h l p = absurd (omega arith)
  some_counted s (a ∷ atoms) zero d h l p =
      let first = count_cons fits has s a.region (regions_of atoms) h in
      let one : flag_number (has s a.region h) ≡ 1 = ap flag_number p in
      omega arith
  some_counted s (a ∷ atoms) (suc n) d h l p =
      let first = count_cons fits has s a.region (regions_of atoms) h in
      let below : n < length atoms = omega arith in
      let rest = some_counted s atoms n d h below p in
      omega arith

  -- and where some count, one has it
  counted_some : (s : S) (atoms : List (Atom R)) (h : Header) → 1 ≤ count_having has s (regions_of atoms) h → Any (λ a. has s a.region h ≡ true) atoms
  counted_some s [] h l = absurd (omega arith)
  counted_some s (a ∷ atoms) h l =
      by (has s a.region h) refl (counted_some s atoms h)
    where
      by : (b : Bool) → has s a.region h ≡ b → (1 ≤ count_having has s (regions_of atoms) h → Any (λ x. has s x.region h ≡ true) atoms) → Any (λ x. has s x.region h ≡ true) (a ∷ atoms)
      by true e rest = (0, a, omega arith, refl, e)
      by false e rest =
          let first = count_cons fits has s a.region (regions_of atoms) h in
          let none : flag_number (has s a.region h) ≡ 0 = ap flag_number e in
          let found = rest (omega arith) in
          let below : found.0 < length atoms = found.2 in
          (suc found.0, found.1, omega arith, found.3, found.4)

  -- ---- the order of the atoms

  -- the first atom does not stand after the second
  abbrev IsNotAfter : Atom R → Atom R → Type 0
  IsNotAfter x y = is_lt (header_order y.least x.least) ≡ false

  -- so it is with any two of a sorted list
  pairs_from_sorted : (atoms : List (Atom R)) → IsSortedBy is_before atoms → AllPairs IsNotAfter atoms
  pairs_from_sorted atoms sorted i j d l m =
      sorted_far (λ x y. is_lt (header_order x.least y.least)) (ranks_by order_total (λ (x : Atom R). x.least)) atoms sorted i j d (omega arith) m

  -- the least members of atoms in order ascend, since no header is in two of them
  ascend : (s : S) (atoms : List (Atom R)) → AllPairs IsNotAfter atoms → ((h : Header) → count_having has s (regions_of atoms) h ≤ 1) → All (λ a. has s a.region a.least ≡ true) atoms → IsStrictlySortedBy header_order (leasts_of atoms)
  unfolding IsStrictlySortedBy
  ascend s [] pairs once own = tt
  ascend s (a ∷ atoms) pairs once own = (
    recursion_from_All (λ y. header_order a.least y ≡ Less) (leasts_of atoms) (All-map (λ y. header_order a.least y ≡ Less) (λ x. x.least) atoms below),
    ascend s atoms (λ i j d l m. pairs (suc i) (suc j) d (omega arith) (omega arith)) fewer (All-tail (λ x. has s x.region x.least ≡ true) a atoms own),
  )
    where
      fewer : (h : Header) → count_having has s (regions_of atoms) h ≤ 1
      fewer h =
          let first = count_cons fits has s a.region (regions_of atoms) h in
          let all = once h in
          omega arith

      apart : (k : ℕ) (d : Atom R) → k < length atoms → a.least ≡ (get_or atoms k d).least → ⊥
      apart k d l e =
          let h = (get_or atoms k d).least in
          let first = count_cons fits has s a.region (regions_of atoms) h in
          let own_here : has s a.region a.least ≡ true = All-head (λ x. has s x.region x.least ≡ true) a atoms own in
          let one : flag_number (has s a.region h) ≡ 1 = ap (λ x. flag_number (has s a.region x)) (sym e) ∙ ap flag_number own_here in
          let own_there : has s (get_or atoms k d).region h ≡ true =
          All-tail (λ x. has s x.region x.least ≡ true) a atoms own k d l in
          let rest = some_counted s atoms k d h l own_there in
          let all = once h in
          omega arith

      below : All (λ x. header_order a.least x.least ≡ Less) atoms
      below k d l = before_from_distinct a.least (get_or atoms k d).least (pairs 0 (suc k) d (omega arith) (omega arith)) (apart k d l)

  -- ---- the atoms

  -- what holds of each atom
  pub record IsAtom (s : S) (tests : List (Header → Bool)) (a : Atom R) : Type 0 where
    pub class : IsClass fits has s tests a.region
    pub least : IsLeast (has s a.region) a.least

  -- what is read of classes is atoms
  all_atoms : (s : S) (tests : List (Header → Bool)) (atoms : List (Atom R)) → All (IsClass fits has s tests) (regions_of atoms) → All (IsRead has s) atoms → All (IsAtom s tests) atoms
  all_atoms s tests atoms classes read = λ k d l.
      let a = get_or atoms k d in
      let at : get_or (regions_of atoms) k d.region ≡ a.region = get_or-map (λ x. x.region) atoms k d in
      record {
        class = subst (IsClass fits has s tests) at (classes k d.region (subst (λ n. k < n) (sym (length-map atoms (λ (x : Atom R). x.region))) l));
        least = read k d l;
      }

  module _ (valid : (s : S) (r : R) (h : Header) → fits s r → IsTrue (has s r h) → IsValid h) where
    -- the least member of an atom is the least that is alike
    least_alike : (s : S) (tests : List (Header → Bool)) (a : Atom R) → IsAtom s tests a → IsLeastAlike tests a.least
    least_alike s tests a atom =
        record {
          valid = valid s a.region a.least atom.class.fit atom.least.has;
          least = λ h v alike. atom.least.least h (atom.class.all a.least h atom.least.has v alike);
        }

    -- sorted atoms are the atoms of the tests
    pub atoms_in_order : (s : S) (tests : List (Header → Bool)) (atoms : List (Atom R)) → All (IsAtom s tests) atoms → ((h : Header) → count_having has s (regions_of atoms) h ≡ flag_number (is_valid_header h)) → IsSortedBy is_before atoms → AreInOrder fits has s tests atoms
    atoms_in_order s tests atoms all count sorted =
        record {
          leasts = record {
            each = All-map (IsLeastAlike tests) (λ x. x.least) atoms (All-weaker (IsAtom s tests) (λ x. IsLeastAlike tests x.least) (least_alike s tests) atoms all);
            ascending = ascend s atoms (pairs_from_sorted atoms sorted) (λ h. let c = count h in let f = flag_small (is_valid_header h) in omega arith) (All-weaker (IsAtom s tests) (λ x. has s x.region x.least ≡ true) (λ a p. p.least.has) atoms all);
            reached = reached;
          };
          regions = record {
            fit = All-map (fits s) (λ x. x.region) atoms (All-weaker (IsAtom s tests) (λ x. fits s x.region) (λ a p. p.class.fit) atoms all);
            count = count;
          };
          numbers = record {
            within = λ h v. subst (λ k. number h < k) (length-map atoms (λ (x : Atom R). x.region) ∙ sym (length-map atoms (λ (x : Atom R). x.least))) (numbered h v);
            alike = numbered_alike;
          };
        }
      where
        number : Header → ℕ
        number h = number_in (has s) (regions_of atoms) h

        found : (h : Header) → IsValid h → Any (λ a. IsTrue (has s a.region h)) atoms
        found h v =
            let c = count h in
            let one : flag_number (is_valid_header h) ≡ 1 = ap flag_number v in
            counted_some s atoms h (omega arith)

        reached : (h : Header) → IsValid h → HasAlike tests (leasts_of atoms) h
        reached h v =
            let f = found h v in
            let a = f.1 in
            let atom : IsAtom s tests a = subst (IsAtom s tests) f.3 (all f.0 a f.2) in
            record {
              one = a.least;
              listed = (f.0, subst (λ n. f.0 < n) (sym (length-map atoms (λ (x : Atom R). x.least))) f.2, get_or-map (λ x. x.least) atoms f.0 a ∙ ap (λ x. x.least) f.3);
              alike = atom.class.only a.least h atom.least.has f.4;
            }

        -- some region has the header, so there is a first one
        numbered : (h : Header) → IsValid h → number h < length (regions_of atoms)
        numbered h v =
            let f = found h v in
            first_within (λ r. has s r h) (regions_of atoms) f.0 f.1.region (subst (λ n. f.0 < n) (sym (length-map atoms (λ (x : Atom R). x.region))) f.2)
            (ap (λ r. has s r h) (get_or-map (λ x. x.region) atoms f.0 f.1 ∙ ap (λ x. x.region) f.3) ∙ f.4)

        numbered_alike : (h d : Header) → IsValid h → IsAlike tests (get_or (leasts_of atoms) (number h) d) h
        numbered_alike h d v =
            let n = number h in
            let e = (found h v).1 in
            let below : n < length atoms = subst (λ k. n < k) (length-map atoms (λ (x : Atom R). x.region)) (numbered h v) in
            let a = get_or atoms n e in
            let atom : IsAtom s tests a = all n e below in
            let here : has s a.region h ≡ true = ap (λ r. has s r h) (sym (get_or-map (λ x. x.region) atoms n e)) ∙ passes_at_first (λ r. has s r h) (regions_of atoms) e.region (numbered h v) in
            subst (λ x. IsAlike tests x h) (sym (get_or_inside (λ (x : Atom R). x.least) atoms n e d below)) (atom.class.only a.least h atom.least.has here)

    -- the atoms that are read of the classes, once they are sorted
    pub atoms_sorted : (s : S) (classes : List R) (before after : List (Atom R)) → regions_of before ≡ classes → All (IsRead has s) before → IsPermutation before after → IsSortedBy is_before after → (tests : List (Header → Bool)) → AreClasses fits has s tests classes → AreInOrder fits has s tests after
    atoms_sorted s classes before after same read moved sorted tests are =
        let all : All (IsAtom s tests) before =
        all_atoms s tests before (subst (All (IsClass fits has s tests)) (sym same) are.each) read in
        atoms_in_order s tests after (All-permutation (IsAtom s tests) before after moved all)
        (λ h.
        sum_by-IsPermutation (λ r. flag_number (has s r h)) (regions_of before) (regions_of after) (IsPermutation-map (λ x. x.region) before after moved)
        ∙ ap (λ l. count_having has s l h) same
        ∙ are.count h)
        sorted

  -- with the sets of the cuts they are the atoms of the cuts
  pub atoms_with_sets : (old s : S) (cuts : List R) (atoms : List (Atom R)) (leasts : List Header) (sets : List (List Bool)) → EachFits fits old cuts → KeepsRegions fits has old s → AreInOrder fits has s (tests_of has old cuts) atoms → leasts ≡ leasts_of atoms → sets ≡ cut_sets (tests_of has s cuts) leasts → AreAtoms (tests_of has old cuts) (record { leasts = leasts; cuts = sets })
  atoms_with_sets old s cuts atoms leasts sets fc k are read said =
      record {
        leasts = subst (AreLeasts (tests_of has old cuts)) (sym read) are.leasts;
        sets = said ∙ ap (λ tests. cut_sets tests leasts) (tests_kept fits has old s cuts k fc);
      }

  -- ---- the region that has a header

  -- it is the first one of which the header is asked with success
  pub first_is : (s : S) (regions : List R) (n : ℕ) (r : R) (h : Header) → n < length regions → ((k : ℕ) (d : R) → k < n → has s (get_or regions k d) h ≡ false) → r ≡ get_or regions n r → has s r h ≡ true → n ≡ number_in (has s) regions h
  first_is s regions n r h within none at e =
      sym (position_or_len_is (λ x. has s x h) regions n r (omega arith) (λ k l. none k r l) (λ _. ap (λ x. has s x h) (sym at) ∙ e))

  -- and none is, where all are asked without
  pub first_is_none : (s : S) (regions : List R) (n : ℕ) (h : Header) → n ≡ length regions → ((k : ℕ) (d : R) → k < n → has s (get_or regions k d) h ≡ false) → length regions ≡ number_in (has s) regions h
  first_is_none s [] n h all none = refl
  first_is_none s (r ∷ regions) n h all none =
      sym (position_or_len_is (λ x. has s x h) (r ∷ regions) (length (r ∷ regions)) r (omega arith) (λ k l. none k r (omega arith)) (λ l. absurd (omega arith)))

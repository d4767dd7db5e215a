-- How the classes of some tests are cut by one test more.
use Rattle.std.proofs.Common.{◌≡◌, ℕ, ◌+◌, Bool, true, false, List, [], ◌∷◌, ◌++◌, refl, sym, ◌∙◌, ap, subst, arith, zero-add, add-zero, length}
use Rattle.std.specs.Prelude.{◌&&◌, not}
use Rattle.std.specs.List.{All}
use Rattle.std.proofs.lemmas.Bool.{true≢false, and_parts}
use Rattle.std.proofs.lemmas.List.{map-append}
use Rattle.std.proofs.lemmas.List.Elements.{All-nil, All-cons, All-head, All-tail, All-append, All-weaker}
use Rattle.std.proofs.lemmas.List.Sums.{sum_by-cons, sum_by-append}
use Rattle.np_space.specs.Flag.{flag_number}
use Rattle.np_space.specs.Header.{is_valid_header, zeros}
use Rattle.np_space.specs.declared.headers.Header.{Header}
use Rattle.np_space.proofs.ClassLaws.{alike_more, alike_fewer, zeros_valid}
use Rattle.np_space.proofs.FlagLemmas.{flag_apart, and_both, and_true}
use Rattle.np_region.specs.Keeping.{KeepsRegions, EachFits, tests_of}
use Rattle.np_region.proofs.KeepingLemmas.{keeps_itself, keeps_chained, each_fits_kept}
use Rattle.np_atomizer.specs.Splitting.{count_having, HasSome, IsClass, AreClasses, AreParts, HasParts}

-- ---- tests of two flags

-- the first of two alone is set
one_not : (r c : Bool) → (r && not c) ≡ true → (r ≡ true) × (c ≡ false)
one_not true false e = (refl, refl)
one_not true true e = absurd (true≢false (sym e))
one_not false c e = absurd (true≢false (sym e))

-- and the test holds where it is
and_not : (r c : Bool) → r ≡ true → c ≡ false → (r && not c) ≡ true
and_not r c er ec = (λ i. er i && not (ec i))

-- and not alone, so both are
other_true : (r c : Bool) → r ≡ true → (r && not c) ≡ false → c ≡ true
other_true r true er e = refl
other_true r false er e = absurd (true≢false (sym er ∙ sym (and_true r) ∙ e))

module _ {S R : Type 0} (fits : S → R → Type 0) (has : S → R → Header → Bool) where
  -- ---- counts

  -- one region
  pub count_one : (s : S) (r : R) (h : Header) → count_having has s (r ∷ []) h ≡ flag_number (has s r h)
  count_one s r h = zero-add (flag_number (has s r h))

  -- a region more at the start
  pub count_cons : (s : S) (r : R) (rs : List R) (h : Header) → count_having has s (r ∷ rs) h ≡ flag_number (has s r h) + count_having has s rs h
  count_cons s r rs h = sum_by-cons (λ x. flag_number (has s x h)) r rs

  -- the regions of two lists
  pub count_append : (s : S) (xs ys : List R) (h : Header) → count_having has s (xs ++ ys) h ≡ count_having has s xs h + count_having has s ys h
  count_append s xs ys h = sum_by-append (λ x. flag_number (has s x h)) xs ys

  -- a call that keeps the regions keeps the count
  count_kept : (s t : S) (rs : List R) (h : Header) → KeepsRegions fits has s t → EachFits fits s rs → count_having has t rs h ≡ count_having has s rs h
  count_kept s t [] h k each = refl
  count_kept s t (r ∷ rs) h k each =
      count_cons t r rs h
      ∙ (λ i. flag_number (k.same r (All-head (fits s) r rs each) h i) + count_kept s t rs h k (All-tail (fits s) r rs each) i)
      ∙ sym (count_cons s r rs h)

  -- ---- one class

  -- a class stays one over a call that keeps the regions
  pub class_kept : (s t : S) (tests : List (Header → Bool)) (r : R) → KeepsRegions fits has s t → IsClass fits has s tests r → IsClass fits has t tests r
  class_kept s t tests r k c =
      record {
        fit = k.fit r c.fit;
        some = λ none. c.some (λ h. sym (k.same r c.fit h) ∙ none h);
        only = λ h g p q. c.only h g (sym (k.same r c.fit h) ∙ p) (sym (k.same r c.fit g) ∙ q);
        all = λ h g p v alike. k.same r c.fit g ∙ c.all h g (sym (k.same r c.fit h) ∙ p) v alike;
      }

  -- the headers of a class for which a cut answers the same
  part_class : (s t : S) (cut r z : R) (answer : Bool) (tests : List (Header → Bool)) → IsClass fits has s tests r → fits t z → HasSome has t z → ((h : Header) → has t z h ≡ true → (has s r h ≡ true) × (has s cut h ≡ answer)) → ((h : Header) → has s r h ≡ true → has s cut h ≡ answer → has t z h ≡ true) → IsClass fits has t (tests ++ has s cut ∷ []) z
  part_class s t cut r z answer tests c fz some from to =
      record {
        fit = fz;
        some = some;
        only = λ h g p q.
            alike_more tests (has s cut) h g (c.only h g (from h p).0 (from g q).0) ((from h p).1 ∙ sym (from g q).1);
        all = λ h g p v alike.
            let fewer = alike_fewer tests (has s cut) h g alike in
            to g (c.all h g (from h p).0 v fewer.0) (sym fewer.1 ∙ (from h p).1);
      }

  -- ---- the parts of one region

  -- a cut that answers the same for all headers leaves the region
  pub one_part : (s t : S) (cut r : R) (answer : Bool) → KeepsRegions fits has s t → fits s r → ((h : Header) → has s r h ≡ true → has s cut h ≡ answer) → AreParts fits has s t cut r (r ∷ [])
  one_part s t cut r answer k fr same =
      record {
        fit = All-cons (fits t) r [] (k.fit r fr) (All-nil (fits t));
        each = λ tests c.
            All-cons (IsClass fits has t (tests ++ has s cut ∷ [])) r []
            (part_class s t cut r r answer tests c (k.fit r fr)
            (λ none. c.some (λ h. sym (k.same r fr h) ∙ none h))
            (λ h p. (sym (k.same r fr h) ∙ p, same h (sym (k.same r fr h) ∙ p)))
            (λ h p a. k.same r fr h ∙ p))
            (All-nil (IsClass fits has t (tests ++ has s cut ∷ [])));
        count = λ h. count_one t r h ∙ ap flag_number (k.same r fr h);
      }

  -- so does a cut that has all of them
  pub no_outside : (s t u : S) (cut r outside : R) → KeepsRegions fits has s t → KeepsRegions fits has t u → fits s r → fits s cut → ((h : Header) → has u outside h ≡ (has t r h && not (has t cut h))) → ((h : Header) → has u outside h ≡ false) → AreParts fits has s u cut r (r ∷ [])
  no_outside s t u cut r outside k l fr fc exact none =
      one_part s u cut r true (keeps_chained fits has s t u k l) fr (λ h p.
      other_true (has s r h) (has s cut h) p ((λ i. sym (k.same r fr h) i && not (sym (k.same cut fc h) i)) ∙ sym (exact h) ∙ none h))

  -- any other cut makes two parts of it
  pub two_parts : (s t u : S) (cut r inside outside : R) → KeepsRegions fits has s t → KeepsRegions fits has t u → fits s r → fits s cut → fits t inside → ((h : Header) → has t inside h ≡ (has s r h && has s cut h)) → HasSome has t inside → fits u outside → ((h : Header) → has u outside h ≡ (has t r h && not (has t cut h))) → HasSome has u outside → AreParts fits has s u cut r ((inside ∷ []) ++ outside ∷ [])
  two_parts s t u cut r inside outside k l fr fc fi exact_in some_in fo exact_out some_out =
      record {
        fit = All-append (fits u) (inside ∷ []) (outside ∷ []) (single (fits u) inside (l.fit inside fi)) (single (fits u) outside fo);
        each = λ tests c.
            let P : R → Type 0 = IsClass fits has u (tests ++ has s cut ∷ []) in
            All-append P (inside ∷ []) (outside ∷ [])
            (single P inside (part_class s u cut r inside true tests c (l.fit inside fi)
            (λ none. some_in (λ h. sym (l.same inside fi h) ∙ none h))
            (λ h p. and_parts (has s r h) (has s cut h) (sym (in_u h) ∙ p))
            (λ h p a. in_u h ∙ and_both (has s r h) (has s cut h) p a)))
            (single P outside (part_class s u cut r outside false tests c fo some_out
            (λ h p. one_not (has s r h) (has s cut h) (sym (out_u h) ∙ p))
            (λ h p a. out_u h ∙ and_not (has s r h) (has s cut h) p a)));
        count = λ h.
            count_append u (inside ∷ []) (outside ∷ []) h
            ∙ (λ i. (count_one u inside h ∙ ap flag_number (in_u h)) i + (count_one u outside h ∙ ap flag_number (out_u h)) i)
            ∙ flag_apart (has s r h) (has s cut h);
      }
    where
      single : (P : R → Type 0) (x : R) → P x → All P (x ∷ [])
      single P x p = All-cons P x [] p (All-nil P)

      in_u : (h : Header) → has u inside h ≡ (has s r h && has s cut h)
      in_u h = l.same inside fi h ∙ exact_in h

      out_u : (h : Header) → has u outside h ≡ (has s r h && not (has s cut h))
      out_u h = exact_out h ∙ (λ i. k.same r fr h i && not (k.same cut fc h i))

  -- ---- the parts of many regions

  -- While some classes are cut: which regions are left, and which parts stand already.
  pub record IsSplit (old s : S) (cut : R) (classes left parts : List R) : Type 0 where
    pub kept : KeepsRegions fits has old s
    pub left_fit : EachFits fits old left
    pub fit : EachFits fits s parts
    pub each : (tests : List (Header → Bool)) → All (IsClass fits has old tests) classes → All (IsClass fits has old tests) left × All (IsClass fits has s (tests ++ has old cut ∷ [])) parts
    pub count : (h : Header) → count_having has s parts h + count_having has old left h ≡ count_having has old classes h

  -- before the first class
  split_none : (s : S) (cut : R) (classes : List R) → EachFits fits s classes → IsSplit s s cut classes classes []
  split_none s cut classes each =
      record {
        kept = keeps_itself fits has s;
        left_fit = each;
        fit = All-nil (fits s);
        each = λ tests all. (all, All-nil (IsClass fits has s (tests ++ has s cut ∷ [])));
        count = λ h. zero-add (count_having has s classes h);
      }

  -- after one class more
  split_more : (old s t : S) (cut r : R) (classes left parts after : List R) → fits old cut → IsSplit old s cut classes (r ∷ left) parts → KeepsRegions fits has s t → HasParts fits has s t cut r parts after → IsSplit old t cut classes left after
  split_more old s t cut r classes left parts after fc so_far k new =
      record {
        kept = keeps_chained fits has old s t so_far.kept k;
        left_fit = All-tail (fits old) r left so_far.left_fit;
        fit = subst (EachFits fits t) (sym new.is) (All-append (fits t) parts new.more (each_fits_kept fits has s t parts k so_far.fit) new.parts.fit);
        each = λ tests all.
            let P : R → Type 0 = IsClass fits has t (tests ++ has old cut ∷ []) in
            let before = so_far.each tests all in
            let first : IsClass fits has s tests r =
            class_kept old s tests r so_far.kept (All-head (IsClass fits has old tests) r left before.0) in
            let added : All P new.more =
            subst (λ (f : Header → Bool). All (IsClass fits has t (tests ++ f ∷ [])) new.more) (λ i h. so_far.kept.same cut fc h i) (new.parts.each tests first) in (
              All-tail (IsClass fits has old tests) r left before.0,
              subst (All P) (sym new.is) (All-append P parts new.more (All-weaker (IsClass fits has s (tests ++ has old cut ∷ [])) P (λ x c. class_kept s t (tests ++ has old cut ∷ []) x k c) parts before.1) added),
            );
        count = λ h.
            let whole = ap (λ l. count_having has t l h) new.is ∙ count_append t parts new.more h in
            let same = count_kept s t parts h k so_far.fit in
            let one : count_having has t new.more h ≡ flag_number (has old r h) =
            new.parts.count h ∙ ap flag_number (so_far.kept.same r (All-head (fits old) r left so_far.left_fit) h) in
            let before = so_far.count h in
            let cut_off = count_cons old r left h in
            sums _ _ _ _ _ _ _ _ whole same one before cut_off;
      }
    where
      sums : (after parts' parts more first left both all : ℕ) → after ≡ parts' + more → parts' ≡ parts → more ≡ first → parts + both ≡ all → both ≡ first + left → after + left ≡ all
      sums after parts' parts more first left both all whole same one before cut_off = omega arith

  -- the same, where the lists are known by equations
  pub split_start : (s : S) (cut : R) (classes left parts : List R) → left ≡ classes → parts ≡ [] → EachFits fits s classes → IsSplit s s cut classes left parts
  split_start s cut classes left parts e p each =
      subst (λ l. IsSplit s s cut classes l parts) (sym e) (subst (λ l. IsSplit s s cut classes classes l) (sym p) (split_none s cut classes each))

  -- the next class fits the store
  pub next_fits : (old s : S) (cut r : R) (classes left rest parts : List R) → IsSplit old s cut classes left parts → left ≡ r ∷ rest → fits s r
  next_fits old s cut r classes left rest parts so_far e =
      so_far.kept.fit r (All-head (fits old) r rest (subst (EachFits fits old) e so_far.left_fit))

  -- one class more
  pub split_next : (old s t : S) (cut r : R) (classes left rest parts after : List R) → left ≡ r ∷ rest → fits old cut → IsSplit old s cut classes left parts → KeepsRegions fits has s t → HasParts fits has s t cut r parts after → IsSplit old t cut classes rest after
  split_next old s t cut r classes left rest parts after e fc so_far k new =
      split_more old s t cut r classes rest parts after fc (subst (λ l. IsSplit old s cut classes l parts) e so_far) k new

  -- after the last class
  pub split_all : (old s : S) (cut : R) (classes left parts : List R) → IsSplit old s cut classes left parts → length left ≡ 0 → (tests : List (Header → Bool)) → AreClasses fits has old tests classes → AreClasses fits has s (tests ++ has old cut ∷ []) parts
  split_all old s cut classes [] parts split none tests are =
      record {
        each = (split.each tests are.each).1;
        count = λ h. sym (add-zero (count_having has s parts h)) ∙ split.count h ∙ are.count h;
      }
  split_all old s cut classes (r ∷ left) parts split none tests are = absurd (omega arith)

  -- ---- the classes of the first cuts

  -- the classes of the first cuts, after calls that keep the regions
  pub record AreClassesOf (old s : S) (cuts classes : List R) : Type 0 where
    pub kept : KeepsRegions fits has old s
    pub are : AreClasses fits has s (tests_of has old cuts) classes

  -- one cut more
  pub classes_more : (old s t : S) (cuts : List R) (cut : R) (classes parts : List R) → fits old cut → AreClassesOf old s cuts classes → KeepsRegions fits has s t → ((tests : List (Header → Bool)) → AreClasses fits has s tests classes → AreClasses fits has t (tests ++ has s cut ∷ []) parts) → AreClassesOf old t (cuts ++ cut ∷ []) parts
  classes_more old s t cuts cut classes parts fc so_far k step =
      record {
        kept = keeps_chained fits has old s t so_far.kept k;
        are =
            subst (λ (tests : List (Header → Bool)). AreClasses fits has t tests parts)
            ((λ i. tests_of has old cuts ++ (λ h. so_far.kept.same cut fc h i) ∷ []) ∙ sym (map-append (has old) cuts (cut ∷ [])))
            (step (tests_of has old cuts) so_far.are);
      }

  -- ---- the one class of no cut

  -- all valid headers are one class
  pub whole_class : (s : S) (r : R) → fits s r → ((h : Header) → has s r h ≡ is_valid_header h) → AreClasses fits has s [] (r ∷ [])
  whole_class s r fr exact =
      record {
        each = All-cons (IsClass fits has s []) r [] (record {
          fit = fr;
          some = λ none. true≢false (sym zeros_valid ∙ sym (exact zeros) ∙ none zeros);
          only = λ h g p q. refl;
          all = λ h g p v alike. exact g ∙ v;
        }) (All-nil (IsClass fits has s []));
        count = λ h. count_one s r h ∙ ap flag_number (exact h);
      }

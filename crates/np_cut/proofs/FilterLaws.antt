-- Cuts that are the tests of lists and predicates, one after another.
use Rattle.std.proofs.Common.{◌≡◌, ℕ, zero, suc, ◌<◌, Bool, List, [], ◌∷◌, ◌++◌, length, map, get_or, Some, sym, ◌∙◌, ap, append_assoc, arith}
use Rattle.std.specs.Prelude.{slice_get}
use Rattle.std.proofs.lemmas.List.{map-append}
use Rattle.np_space.specs.declared.headers.Header.{Header}
use Rattle.np_region.specs.Keeping.{KeepsRegions, tests_of}
use Rattle.np_region.proofs.KeepingLemmas.{keeps_chained, each_fits_kept, each_fits_more, tests_kept}
use Rattle.np_cut.specs.FilterCuts.{AreCuts}

module _ {S R : Type 0} (fits : S → R → Type 0) (has : S → R → Header → Bool) where
  -- one more region
  pub cuts_more : {X : Type 0} (test : X → Header → Bool) (before : List (Header → Bool)) (old s t : S) (xs ys : List X) (x : X) (cuts : List R) (cut : R) →
      AreCuts fits has (before ++ map test xs) old s cuts → KeepsRegions fits has s t → fits t cut → ((h : Header) → has t cut h ≡ test x h) → ys ≡ xs ++ x ∷ [] →
      AreCuts fits has (before ++ map test ys) old t (cuts ++ cut ∷ [])
  cuts_more test before old s t xs ys x cuts cut so_far k f e more =
      record {
        kept = keeps_chained fits has old s t so_far.kept k;
        fit = each_fits_more fits has t cuts cut (each_fits_kept fits has s t cuts k so_far.fit) f;
        exact =
            map-append (λ c. has t c) cuts (cut ∷ [])
            ∙ (λ i. (tests_kept fits has s t cuts k so_far.fit ∙ so_far.exact) i ++ (λ h. e h i) ∷ [])
            ∙ append_assoc before (map test xs) (test x ∷ [])
            ∙ ap (λ l. before ++ l) (sym (map-append test xs (x ∷ [])))
            ∙ ap (λ l. before ++ map test l) (sym more);
      }

  -- the region at the place of a list among those that were made into regions
  pub cut_at : {X : Type 0} (test : X → Header → Bool) (s : S) (xs : List X) (cuts : List R) (n : ℕ) (x : X) →
      tests_of has s cuts ≡ map test xs → slice_get xs n ≡ Some x → (n < length cuts) × ((d : R) (h : Header) → has s (get_or cuts n d) h ≡ test x h)
  cut_at test s [] cuts n x e at = cc
  cut_at test s (y ∷ ys) [] n x e at = cc
  cut_at test s (y ∷ ys) (c ∷ cs) zero x e at =
      let same : y ≡ x = cc in
      let first : has s c ≡ test y = cc in
      (omega arith, λ d h. ap (λ f. f h) first ∙ ap (λ z. test z h) same)
  cut_at test s (y ∷ ys) (c ∷ cs) (suc n) x e at =
      let others : tests_of has s cs ≡ map test ys = cc in
      let rest = cut_at test s ys cs n x others at in
      let within = rest.0 in
      (omega arith, rest.1)

-- Calls that keep the regions of a store, one after another, and lists of regions that fit it.
use Rattle.std.proofs.Common.{◌≡◌, List, [], ◌∷◌, ◌++◌, get_or, refl, ◌∙◌}
use Rattle.std.specs.Prelude.{Bool}
use Rattle.std.proofs.lemmas.List.Elements.{All-head, All-push, All-tail}
use Rattle.np_space.specs.declared.headers.Header.{Header}
use Rattle.np_region.specs.Keeping.{KeepsRegions, EachFits, tests_of}

module _ {S R : Type 0} (fits : S → R → Type 0) (has : S → R → Header → Bool) where
  -- a store that is left as it is keeps its regions
  pub keeps_itself : (s : S) → KeepsRegions fits has s s
  keeps_itself s = record { fit = λ x f. f; same = λ x f h. refl }

  -- so do two calls that keep them, one after the other
  pub keeps_chained : (s t u : S) → KeepsRegions fits has s t → KeepsRegions fits has t u → KeepsRegions fits has s u
  keeps_chained s t u k l =
      record { fit = λ x f. l.fit x (k.fit x f); same = λ x f h. l.same x (k.fit x f) h ∙ k.same x f h }

  -- regions that fit do so after a call that keeps them
  pub each_fits_kept : (s t : S) (xs : List R) → KeepsRegions fits has s t → EachFits fits s xs → EachFits fits t xs
  each_fits_kept s t xs k each = λ i d l. k.fit (get_or xs i d) (each i d l)

  -- one more region that fits
  pub each_fits_more : (s : S) (xs : List R) (x : R) → EachFits fits s xs → fits s x → EachFits fits s (xs ++ x ∷ [])
  each_fits_more s xs x each f = All-push (fits s) xs x each f

  -- regions that fit are the same tests after a call that keeps them
  pub tests_kept : (s t : S) (cuts : List R) → KeepsRegions fits has s t → EachFits fits s cuts → tests_of has t cuts ≡ tests_of has s cuts
  tests_kept s t [] k each = refl
  tests_kept s t (x ∷ xs) k each = λ i. (λ h. k.same x (All-head (fits s) x xs each) h i) ∷ tests_kept s t xs k (All-tail (fits s) x xs each) i

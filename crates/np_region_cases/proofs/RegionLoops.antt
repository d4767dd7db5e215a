-- What a loop over regions of a store has done for the first of them.
use Rattle.std.proofs.Common.{◌≡◌, Bool, true, false, List, [], ◌∷◌, ◌++◌, refl, sym, ◌∙◌, ap}
use Rattle.std.proofs.Math.Bool.{or_assoc}
use Rattle.std.specs.Prelude.{◌&&◌, ◌||◌}
use Rattle.std.proofs.lemmas.Bool.{and_right}
use Rattle.std.proofs.lemmas.List.Elements.{All-head, All-tail}
use Rattle.np_space.specs.declared.headers.Header.{Header}
use Rattle.np_space.proofs.FlagLemmas.{or_false, and_true}
use Rattle.np_region.specs.Keeping.{KeepsRegions, EachFits, some_has_header}
use Rattle.np_region.proofs.KeepingLemmas.{keeps_chained, each_fits_kept, each_fits_more}

module _ {S R : Type 0} (fits : S → R → Type 0) (has : S → R → Header → Bool) where
  -- after a call that keeps the regions some of them has the headers that some of them had
  pub some_has_kept : (s t : S) (xs : List R) → KeepsRegions fits has s t → EachFits fits s xs → (h : Header) → some_has_header has t xs h ≡ some_has_header has s xs h
  some_has_kept s t [] k each h = refl
  some_has_kept s t (x ∷ xs) k each h =
      λ i. k.same x (All-head (fits s) x xs each) h i || some_has_kept s t xs k (All-tail (fits s) x xs each) h i

  -- some of the regions with one more has the headers of either
  pub some_has_more : (s : S) (xs : List R) (x : R) (h : Header) → some_has_header has s (xs ++ x ∷ []) h ≡ (some_has_header has s xs h || has s x h)
  some_has_more s [] x h = or_false (has s x h)
  some_has_more s (y ∷ xs) x h = ap (λ b. has s y h || b) (some_has_more s xs x h) ∙ sym (or_assoc (has s y h) (some_has_header has s xs h) (has s x h))

  -- Between two stores the regions are kept, and the region has what some of the regions had in the
  -- first.
  pub record HasThoseOf (old new : S) (xs : List R) (x : R) : Type 0 where
    pub kept : KeepsRegions fits has old new
    pub fit : fits new x
    pub exact : (h : Header) → has new x h ≡ some_has_header has old xs h

  -- Between two stores the regions are kept, and some of the new ones have what some of the old ones had
  -- of a third.
  pub record HasCommon (old new : S) (cut : R) (xs zs : List R) : Type 0 where
    pub kept : KeepsRegions fits has old new
    pub fit : EachFits fits new zs
    pub exact : (h : Header) → some_has_header has new zs h ≡ (some_has_header has old xs h && has old cut h)

  -- one more region of each
  pub common_more : (old mid new : S) (cut : R) (xs zs : List R) (x z : R) → HasCommon old mid cut xs zs → fits old x → fits old cut → KeepsRegions fits has mid new → fits new z → ((h : Header) → has new z h ≡ (has mid x h && has mid cut h)) → HasCommon old new cut (xs ++ x ∷ []) (zs ++ z ∷ [])
  common_more old mid new cut xs zs x z so_far fx fc k fz exact =
      record {
        kept = keeps_chained fits has old mid new so_far.kept k;
        fit = each_fits_more fits has new zs z (each_fits_kept fits has mid new zs k so_far.fit) fz;
        exact = λ h.
            some_has_more new zs z h
            ∙ (λ i. (some_has_kept mid new zs k so_far.fit h ∙ so_far.exact h) i || (exact h ∙ (λ j. so_far.kept.same x fx h j && so_far.kept.same cut fc h j)) i)
            ∙ spread (some_has_header has old xs h) (has old x h) (has old cut h)
            ∙ ap (λ b. b && has old cut h) (sym (some_has_more old xs x h));
      }
    where
      spread : (a b c : Bool) → ((a && c) || (b && c)) ≡ ((a || b) && c)
      spread a b true = (λ i. and_true a i || and_true b i) ∙ sym (and_true (a || b))
      spread a b false = (λ i. and_right a false refl i || and_right b false refl i) ∙ sym (and_right (a || b) false refl)

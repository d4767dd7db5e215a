-- Of the least members of classes, the first of which a statement holds is the least of all headers of which it does.
use Rattle.std.proofs.Common.{◌≡◌, ◌∙◌, ℕ, ◌<◌, Bool, true, List, length, get_or, Option, Some, None, sym, subst, inl, inr, arith}
use Rattle.std.proofs.lemmas.Bool.{cases_lt}
use Rattle.std.proofs.lemmas.List.{get_or_default}
use Rattle.std.proofs.lemmas.List.Elements.{All-contains}
use Rattle.std.proofs.lemmas.Map.Keys.{Less-from_sorted}
use Rattle.np_space.specs.Classes.{AreLeasts, IsAlike, IsLeastAlike}
use Rattle.np_space.specs.Header.{IsLeastOf, IsValid, header_le, header_order, zeros}
use Rattle.np_space.specs.declared.headers.Header.{Header}
use Rattle.np_space.proofs.OrderLemmas.{le_chained, le_from_less, le_itself}
use Rattle.np_ipsec.specs.Searching.{Finds, FindsListed, IsFirstListed}

module _ (tests : List (Header → Bool)) (leasts : List Header) (are : AreLeasts tests leasts) where
  -- the listed header at a place
  abbrev least_at : ℕ → Header
  least_at n = get_or leasts n zeros

  -- it is the least of its class
  pub alike_at : (n : ℕ) → n < length leasts → IsLeastAlike tests (least_at n)
  alike_at n lt = are.each n zeros lt

  -- of two places the header at the one that isn't later isn't above the other
  le_upto : (n m : ℕ) → m < length leasts → (m < n → ⊥) → header_le (least_at n) (least_at m) ≡ true
  le_upto n m within not = elim (cases_lt n m) [
    | inl below ↦ le_from_less (least_at n) (least_at m) (Less-from_sorted header_order leasts n m zeros are.ascending below within)
    | inr from ↦
        elim (cases_lt m n) [
          | inl above ↦ absurd (not above)
          | inr upto ↦ (let same : n ≡ m = omega arith in subst (λ k. header_le (least_at n) (least_at k) ≡ true) same (le_itself (least_at n)))
        ]
  ]

  module _ (P : Header → Type 0) (valid : (h : Header) → P h → IsValid h) (alike : (h k : Header) → IsValid h → IsValid k → IsAlike tests h k → P k → P h) where
    -- with a header, the statement holds of the least of those alike to it, and this one is listed
    record Stands (h : Header) : Type 0 where
      place : ℕ
      within : place < length leasts
      holds : P (least_at place)
      upto : header_le (least_at place) h ≡ true

    stands : (h : Header) → P h → Stands h
    stands h p =
        let found = are.reached h (valid h p) in
        let n = found.listed.0 in
        let lt : n < length leasts = found.listed.1 in
        let at : found.one ≡ least_at n = sym (get_or_default leasts n zeros found.one lt ∙ found.listed.2) in
        let least : IsLeastAlike tests found.one = All-contains (IsLeastAlike tests) leasts found.one are.each found.listed in
        record {
          place = n;
          within = lt;
          holds = subst P at (alike found.one h least.valid (valid h p) found.alike p);
          upto = subst (λ x. header_le x h ≡ true) at (least.least h (valid h p) found.alike);
        }

    -- where a statement on places says the same of the listed headers, the first of which it holds is the least of all, and where it holds of
    -- none, there is none
    module _ (Q : ℕ → Type 0) (there : (n : ℕ) → n < length leasts → P (least_at n) → Q n) (back : (n : ℕ) → n < length leasts → Q n → P (least_at n)) where
      least_first : (x : Header) → IsFirstListed Q leasts x → IsLeastOf P x
      least_first x found =
          subst (IsLeastOf P) (sym found.is) record {
            has = back found.place found.within found.first.holds;
            least = λ h p.
                let one = stands h p in
                le_chained (least_at found.place) (least_at one.place) h
                (le_upto found.place one.place one.within (λ earlier. found.first.first one.place earlier (there one.place one.within one.holds))) one.upto;
          }

      pub found_least : (found : Option Header) → FindsListed Q leasts found → Finds P found
      found_least None none = λ h p. (let one = stands h p in none one.place one.within (there one.place one.within one.holds))
      found_least (Some x) found = least_first x found

-- The least of some distances, and the first of these.
use Rattle.std.proofs.Common.{◌≡◌, ◌⊎◌, ℕ, zero, suc, ◌+◌, ◌<◌, ◌≤◌, Bool, true, false, cond, Option, Some, None, sym, ◌∙◌, ap, subst, inl, inr, refl, arith, add-one}
use Rattle.std.proofs.lemmas.Bool.{cases_eq, cases_lt, ltb-true, ltb-false}
use Rattle.std.specs.Prelude.{nat_lt}
use Rattle.np_flow.specs.Distances.{nearer, first_least}

pub first_least_more : (at : ℕ → Option ℕ) (n : ℕ) → first_least at (n + 1) ≡ nearer (first_least at n) (at n) n
first_least_more at n = ap (first_least at) (add-one n)

-- what was found among the first n
pub record IsLeast (at : ℕ → Option ℕ) (n : ℕ) (f : ℕ × ℕ) : Type 0 where
  pub within : f.1 < n
  pub here : at f.1 ≡ Some f.0
  pub least : (k m : ℕ) → k < n → at k ≡ Some m → (f.0 < m) ⊎ ((f.0 ≡ m) × (f.1 ≤ k))

abbrev pub IsFound : (ℕ → Option ℕ) → ℕ → Option (ℕ × ℕ) → Type 0
IsFound at n None = (k : ℕ) → k < n → at k ≡ None
IsFound at n (Some f) = IsLeast at n f

found_by : (at : ℕ → Option ℕ) (n : ℕ) (f : ℕ × ℕ) (m : ℕ) (b : Bool) → nat_lt m f.0 ≡ b → at n ≡ Some m → IsLeast at n f
    → IsFound at (suc n) (cond b (Some (m, n)) (Some f))
found_by at n f m true less here was =
    let lt : m < f.0 = ltb-true m f.0 less in
    record {
      within = omega arith;
      here = here;
      least = λ k m' below is. elim (cases_eq k n) [
        | inl last ↦
            let e : Some m ≡ Some m' = sym here ∙ subst (λ j. at j ≡ Some m') last is in
            let same : m ≡ m' = cc in
            inr (same, omega arith)
        | inr other ↦ elim (was.least k m' (omega arith) is) [
          | inl more ↦ inl (omega arith)
          | inr same ↦ let e : f.0 ≡ m' = same.0 in inl (omega arith)
        ]
      ];
    }
found_by at n f m false less here was =
    let le : f.0 ≤ m = ltb-false m f.0 less in
    let inside : f.1 < n = was.within in
    record {
      within = omega arith;
      here = was.here;
      least = λ k m' below is. elim (cases_eq k n) [
        | inl last ↦
            let e : Some m ≡ Some m' = sym here ∙ subst (λ j. at j ≡ Some m') last is in
            let same : m ≡ m' = cc in
            elim (cases_lt f.0 m') [ inl lt ↦ inl lt | inr ge ↦ inr (omega arith, omega arith) ]
        | inr other ↦ was.least k m' (omega arith) is
      ];
    }

found_next : (at : ℕ → Option ℕ) (n : ℕ) (found : Option (ℕ × ℕ)) (o : Option ℕ) → at n ≡ o → IsFound at n found
    → IsFound at (suc n) (nearer found o n)
found_next at n None None here was = λ k below. elim (cases_eq k n) [
  | inl last ↦ subst (λ j. at j ≡ None) (sym last) here
  | inr other ↦ was k (omega arith)
]
found_next at n None (Some m) here was = record {
  within = omega arith;
  here = here;
  least = λ k m' below is. elim (cases_eq k n) [
    | inl last ↦
        let e : Some m ≡ Some m' = sym here ∙ subst (λ j. at j ≡ Some m') last is in
        let same : m ≡ m' = cc in
        inr (same, omega arith)
    | inr other ↦ let no : None ≡ Some m' = sym (was k (omega arith)) ∙ is in cc
  ];
}
found_next at n (Some f) None here was = record {
  within = let inside : f.1 < n = was.within in omega arith;
  here = was.here;
  least = λ k m' below is. elim (cases_eq k n) [
    | inl last ↦ let no : None ≡ Some m' = sym here ∙ subst (λ j. at j ≡ Some m') last is in cc
    | inr other ↦ was.least k m' (omega arith) is
  ];
}
found_next at n (Some f) (Some m) here was = found_by at n f m (nat_lt m f.0) refl here was

pub is_found : (at : ℕ → Option ℕ) (n : ℕ) → IsFound at n (first_least at n)
is_found at zero = λ k below. absurd (omega arith)
is_found at (suc n) = found_next at n (first_least at n) (at n) refl (is_found at n)

-- Where a statement is decided, there is a first number and a least header of which it holds, or none.
use Rattle.std.proofs.Common.{◌≡◌, ◌⊎◌, ℕ, zero, suc, ◌<◌, Bool, true, false, refl, subst, inl, inr, arith}
use Rattle.std.proofs.lemmas.Bool.{cases_eq, cases_lt}
use Rattle.np_space.specs.Header.{IsValid, IsLeastOf}
use Rattle.np_space.specs.declared.headers.Header.{Header}
use Rattle.np_space.proofs.HeaderLemmas.{valid_widths}
use Rattle.np_space.proofs.Listing.{least_or_none}
use Rattle.np_ipsec.specs.Searching.{IsFirst}

-- it holds, or it doesn't
abbrev pub Decided : Type 0 → Type 0
Decided P = P ⊎ (P → ⊥)

-- a statement that says the same is decided too
pub decided_as : {P Q : Type 0} → (P → Q) → (Q → P) → Decided P → Decided Q
decided_as there back (inl p) = inl (there p)
decided_as there back (inr none) = inr (λ q. none (back q))

-- a number is below a bound or isn't
pub below_or_not : (n bound : ℕ) → Decided (n < bound)
below_or_not n bound = elim (cases_lt n bound) [ inl lt ↦ inl lt | inr past ↦ inr (λ lt. let none : ⊥ = omega arith in none) ]

-- a truth is false or isn't
pub false_or_not : (b : Bool) → Decided (b ≡ false)
false_or_not true = inr (λ e. let both : true ≡ false = e in cc)
false_or_not false = inl refl

-- ---- numbers

module _ (P : ℕ → Type 0) (decided : (n : ℕ) → Decided (P n)) where
  -- one of the numbers below a bound is the first, or it holds of none of them
  first_below : (bound : ℕ) → ((n : ℕ) × IsFirst P n) ⊎ ((n : ℕ) → n < bound → P n → ⊥)
  first_below zero = inr (λ n less. absurd (omega arith))
  first_below (suc bound) =
      elim (first_below bound) [
        | inl found ↦ inl found
        | inr none ↦
            elim (decided bound) [
              | inl holds ↦ inl (bound, record { holds = holds; first = none })
              | inr fails ↦
                  inr (λ n less p. elim (cases_eq n bound) [
                    | inl last ↦ fails (subst P last p)
                    | inr other ↦ none n (omega arith) p
                  ])
            ]
      ]

  -- where it holds of numbers below a bound alone, some number is the first, or it holds of none
  pub first_or_none : (bound : ℕ) → ((n : ℕ) → P n → n < bound) → ((n : ℕ) × IsFirst P n) ⊎ ((n : ℕ) → P n → ⊥)
  first_or_none bound within = elim (first_below bound) [ inl found ↦ inl found | inr none ↦ inr (λ n p. none n (within n p) p) ]

  -- and whether it holds of some is decided
  pub some_or_none : (bound : ℕ) → ((n : ℕ) → P n → n < bound) → Decided ((n : ℕ) × P n)
  some_or_none bound within = elim (first_or_none bound within) [ inl found ↦ inl (found.0, found.1.holds) | inr none ↦ inr (λ some. none some.0 some.1) ]

-- ---- headers at numbers

-- the first number with a header, and its least header
pub record IsFirstWithLeast (P : ℕ → Header → Type 0) (n : ℕ) (x : Header) : Type 0 where
  pub first : IsFirst (λ m. (h : Header) × P m h) n
  pub least : IsLeastOf (P n) x

module _ (P : ℕ → Header → Type 0) (decided : (n : ℕ) (h : Header) → Decided (P n h)) (valid : (n : ℕ) (h : Header) → P n h → IsValid h) where
  -- the least header at a number, or there is none
  pub least_at : (n : ℕ) → ((x : Header) × IsLeastOf (P n) x) ⊎ ((h : Header) → P n h → ⊥)
  least_at n = least_or_none (P n) (decided n) (λ h p. valid_widths h (valid n h p))

  -- so whether there is one is decided
  pub some_header : (n : ℕ) → Decided ((h : Header) × P n h)
  some_header n = elim (least_at n) [ inl found ↦ inl (found.0, found.1.has) | inr none ↦ inr (λ some. none some.0 some.1) ]

  with_least : (n : ℕ) → IsFirst (λ m. (h : Header) × P m h) n → (m : ℕ) × (x : Header) × IsFirstWithLeast P m x
  with_least n first = elim (least_at n) [
    | inl found ↦ (n, found.0, record { first = first; least = found.1 })
    | inr none ↦ absurd (none first.holds.0 first.holds.1)
  ]

  -- the first number with its least header, or it holds nowhere
  pub first_and_least : (bound : ℕ) → ((n : ℕ) (h : Header) → P n h → n < bound) → ((n : ℕ) × (x : Header) × IsFirstWithLeast P n x) ⊎ ((n : ℕ) (h : Header) → P n h → ⊥)
  first_and_least bound within =
      elim (first_or_none (λ n. (h : Header) × P n h) some_header bound (λ n some. within n some.0 some.1)) [
        | inl found ↦ inl (with_least found.0 found.1)
        | inr none ↦ inr (λ n h p. none n (h, p))
      ]

-- What a search finds: the first number, the first header of a list, or the least header of all.
use Rattle.std.specs.Prelude.{◌≡◌, ℕ, ◌<◌, List, length, slice_index_or, MatchOption, Option, Some, None}
use Rattle.np_space.specs.Header.{IsLeastOf, zeros}
use Rattle.np_space.specs.declared.headers.Header.{Header}

-- the first number of which the statement holds
pub record IsFirst (P : ℕ → Type 0) (n : ℕ) : Type 0 where
  pub holds : P n
  pub first : (k : ℕ) → k < n → P k → ⊥

-- what was found is the first such number, and nothing where there is none
abbrev pub FindsFirst : (ℕ → Type 0) → Option ℕ → Type 0
FindsFirst P found = MatchOption found ((n : ℕ) → P n → ⊥) (λ n. IsFirst P n)

-- the header at the first place of a list of which the statement holds
pub record IsFirstListed (P : ℕ → Type 0) (headers : List Header) (h : Header) : Type 0 where
  pub place : ℕ
  pub within : place < length headers
  pub is : h ≡ slice_index_or headers place zeros
  pub first : IsFirst P place

-- it was found, or the statement holds of no place of the list
abbrev pub FindsListed : (ℕ → Type 0) → List Header → Option Header → Type 0
FindsListed P headers None = (n : ℕ) → n < length headers → P n → ⊥
FindsListed P headers (Some h) = IsFirstListed P headers h

-- the least header of which the statement holds was found, or there is none
abbrev pub Finds : (Header → Type 0) → Option Header → Type 0
Finds P None = (h : Header) → P h → ⊥
Finds P (Some h) = IsLeastOf P h

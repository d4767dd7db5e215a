-- What a store of regions keeps in each call, and what is said of several of its regions.
use Rattle.std.specs.Prelude.{◌≡◌, Bool, List, map}
use Rattle.std.specs.List.{All, list_any}
use Rattle.np_space.specs.declared.headers.Header.{Header}

-- each region that fitted the store before fits it still, and has the headers that it had
pub record KeepsRegions {S R : Type 0} (fits : S → R → Type 0) (has : S → R → Header → Bool) (old new : S) : Type 0 where
  pub fit : (x : R) → fits old x → fits new x
  pub same : (x : R) → fits old x → (h : Header) → has new x h ≡ has old x h

-- each of the regions fits the store
abbrev pub EachFits : {S R : Type 0} → (S → R → Type 0) → S → List R → Type 0
EachFits fits s xs = All (fits s) xs

-- the tests that the regions are, as the store keeps them
abbrev pub tests_of : {S R : Type 0} → (S → R → Header → Bool) → S → List R → List (Header → Bool)
tests_of has s xs = map (λ x. has s x) xs

-- some of the regions has the header
abbrev pub some_has_header : {S R : Type 0} → (S → R → Header → Bool) → S → List R → Header → Bool
some_has_header has s xs h = list_any (λ x. has s x h) xs

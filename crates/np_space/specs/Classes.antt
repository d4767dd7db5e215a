-- The classes of valid headers that no cut tells apart, and their least members. A cut stands for its
-- test: whether it has a header.
use Rattle.std.specs.Prelude.{◌≡◌, ℕ, ◌<◌, Bool, IsTrue, List, [], ◌∷◌, map, length, slice_index_or}
use Rattle.std.specs.List.{All, Contains}
use Rattle.std.specs.List.Sorted.{IsStrictlySortedBy}
use Rattle.np_space.specs.Header.{IsValid, header_order, header_le, zeros}
use Rattle.np_space.specs.declared.headers.Header.{Header}

-- what the cuts say of a header, one after another
abbrev pub cuts_say : List (Header → Bool) → Header → List Bool
cuts_say tests h = map (λ test. test h) tests

-- every cut says the same of both headers
abbrev pub IsAlike : List (Header → Bool) → Header → Header → Type 0
IsAlike tests h k = cuts_say tests h ≡ cuts_say tests k

-- a valid header, the least of the valid headers that are alike to it
pub record IsLeastAlike (tests : List (Header → Bool)) (x : Header) : Type 0 where
  pub valid : IsValid x
  pub least : (h : Header) → IsValid h → IsAlike tests x h → IsTrue (header_le x h)

-- one of the listed headers is alike to the header
pub record HasAlike (tests : List (Header → Bool)) (xs : List Header) (h : Header) : Type 0 where
  pub one : Header
  pub listed : Contains xs one
  pub alike : IsAlike tests one h

-- the least members of the classes, one for each class, in ascending order
pub record AreLeasts (tests : List (Header → Bool)) (leasts : List Header) : Type 0 where
  pub each : All (IsLeastAlike tests) leasts
  pub ascending : IsStrictlySortedBy header_order leasts
  pub reached : (h : Header) → IsValid h → HasAlike tests leasts h

-- they are determined by the tests
abbrev pub LeastsAreUnique : Type 0
LeastsAreUnique = (tests : List (Header → Bool)) (xs ys : List Header) → AreLeasts tests xs → AreLeasts tests ys → xs ≡ ys

-- no two of them are alike
abbrev pub OneForEachClass : Type 0
OneForEachClass = (tests : List (Header → Bool)) (leasts : List Header) → AreLeasts tests leasts → (i j : ℕ) (d : Header) → i < length leasts → j < length leasts → IsAlike tests (slice_index_or leasts i d) (slice_index_or leasts j d) → i ≡ j

-- without cuts there is one class, whose least member is the header of zeros
abbrev pub OneClassWithoutCuts : Type 0
OneClassWithoutCuts = (leasts : List Header) → AreLeasts [] leasts → leasts ≡ zeros ∷ []

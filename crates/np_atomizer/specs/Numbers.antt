-- The numbers of the atoms that headers are in.
use Rattle.std.specs.Prelude.{ℕ, ◌<◌, Bool, List, length, slice_index_or}
use Rattle.np_space.specs.Classes.{IsAlike}
use Rattle.np_space.specs.Header.{IsValid}
use Rattle.np_space.specs.declared.headers.Header.{Header}

-- each valid header has the number of one of the atoms, whose least member is alike to it
pub record AreNumbers (tests : List (Header → Bool)) (leasts : List Header) (number : Header → ℕ) : Type 0 where
  pub within : (h : Header) → IsValid h → number h < length leasts
  pub alike : (h d : Header) → IsValid h → IsAlike tests (slice_index_or leasts (number h) d) h

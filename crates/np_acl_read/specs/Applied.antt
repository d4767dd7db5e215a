-- The lists that are applied at interfaces.
use Rattle.std.specs.Prelude.{ℕ, List}

-- the name of the list at each interface that has one, for both ways
pub record Applied : Type 0 where
  pub inward : List (List ℕ × List ℕ)
  pub outward : List (List ℕ × List ℕ)

-- What a shelf keeps in each call.
use Rattle.std.specs.Prelude.{◌≡◌, ℕ, ◌≤◌, Option}
use Rattle.np_outside.specs.Files.{Files}

-- the files that it tells and the bound on its breaks stay, and its counts do not fall
pub record KeepsShelf {S : Type 0} (files_of : S → Option Files) (cap_of : S → Option ℕ) (faults breaks : S → ℕ) (old new : S) : Type 0 where
  pub files : files_of new ≡ files_of old
  pub cap : cap_of new ≡ cap_of old
  pub grows : faults old ≤ faults new
  pub breaks_grow : breaks old ≤ breaks new

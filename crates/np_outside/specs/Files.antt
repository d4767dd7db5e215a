-- Named files.
use Rattle.std.specs.Prelude.{◌≡◌, ℕ, ◌≤◌, List, drop, Option, None, ◌⊎◌}
use Rattle.std.specs.Option.{option_map}
use Rattle.std.specs.Ordering.{nat_cmp}
use Rattle.std.specs.Cmp.Lexicographic.{slice_cmp}
use Rattle.std.specs.FinMap.{FinMap}

-- the files of a shelf: a finite map from names to bytes
abbrev pub Files : Type 0
Files = FinMap (slice_cmp nat_cmp) (List ℕ)

-- rest is what a file has behind at most this many of its bytes, or no file is begun
abbrev pub IsLeftOf : Option (List ℕ) → ℕ → Option (List ℕ) → Type 0
IsLeftOf file most rest = (rest ≡ None) ⊎ ((n : ℕ) × (n ≤ most) × (rest ≡ option_map (drop n) file))

-- The runs of a set's members, as a reader would check them.
use Rattle.std.specs.Prelude.{◌≡◌, ℕ, ◌+◌, ◌^◌, ◌<◌, ◌≤◌, Bool, true, List, length, slice_index_or}
use Rattle.np_atomset.specs.AtomSet.{has_member}
use Rattle.np_report.specs.Synthesis.{runs_from}

-- the first member of the run of this number
abbrev pub first_of : List (ℕ × ℕ) → ℕ → ℕ
first_of runs n = (slice_index_or runs n (0, 0)).0

-- its last one
abbrev pub last_of : List (ℕ × ℕ) → ℕ → ℕ
last_of runs n = (slice_index_or runs n (0, 0)).1

-- Each run goes up, and all of it are members; each member lies in a run; and between a run and the next one there is a place that is no member.
pub record AreRuns (set : List Bool) (runs : List (ℕ × ℕ)) : Type 0 where
  pub ascending : (n : ℕ) → n < length runs → first_of runs n ≤ last_of runs n
  pub only : (n k : ℕ) → n < length runs → first_of runs n ≤ k → k ≤ last_of runs n → has_member set k ≡ true
  pub all : (k : ℕ) → has_member set k ≡ true → (n : ℕ) × (n < length runs) × (first_of runs n ≤ k) × (k ≤ last_of runs n)
  pub apart : (n : ℕ) → n + 1 < length runs → last_of runs n + 1 < first_of runs (n + 1)

-- this is the case of every set
abbrev pub RunsAreMaximal : Type 0
RunsAreMaximal = (set : List Bool) → AreRuns set (runs_from 0 set)

-- the numbers of a run have ones after them
abbrev pub HasNumbers : ℕ × ℕ → Type 0
HasNumbers run = (run.0 + 1 < 2 ^ 64) × (run.1 + 1 < 2 ^ 64)

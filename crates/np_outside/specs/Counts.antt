-- Counts of failures.
use Rattle.std.specs.Prelude.{ℕ, ◌+◌, ◌-◌, ◌^◌, ◌≤◌, min}

-- A count rose from before to now. A counter stands still at 2 ^ 64 - 1, the last value of its type,
-- and counts as risen there.
abbrev pub Rose : ℕ → ℕ → Type 0
Rose before now = min (before + 1) (2 ^ 64 - 1) ≤ now

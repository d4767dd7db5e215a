-- What follows from the rise of a count.
use Rattle.std.proofs.Common.{ℕ, ◌≤◌, arith}
use Rattle.np_outside.specs.Counts.{Rose}

-- a rise stays one where the count after it is higher
pub Rose_later : (before mid now : ℕ) → Rose before mid → mid ≤ now → Rose before now
Rose_later before mid now rose grown = omega arith

-- and where the count before it is lower
pub Rose_earlier : (before mid now : ℕ) → before ≤ mid → Rose mid now → Rose before now
Rose_earlier before mid now grown rose = omega arith

-- what rose from nothing is at least one
pub Rose_from_zero : (now : ℕ) → Rose 0 now → 1 ≤ now
Rose_from_zero now rose = omega arith

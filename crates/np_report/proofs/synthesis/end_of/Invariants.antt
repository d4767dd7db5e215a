use Rattle.std.proofs.Common.{◌≡◌, ℕ, ◌<◌, ◌≤◌}
use Rattle.np_report.specs.Drops.{slot_at}
use Rattle.np_report.proofs.synthesis.end_of.Given as goal

-- all drops so far are at the slot
abbrev pub invariant-loop-n : goal.invariant-loop-n
invariant-loop-n l = (k : ℕ) → l.first ≤ k → k < l.n → slot_at l.drops k ≡ l.slot

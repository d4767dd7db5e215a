use Rattle.std.proofs.Common.{◌≡◌, ◌-◌, drop, reverse}
use Rattle.np_report.specs.Synthesis.{runs_from}
use Rattle.np_report.proofs.sets.runs_backwards.Given as goal

-- the runs of the members from a place on
abbrev pub invariant-loop-k : goal.invariant-loop-k
invariant-loop-k l = reverse l.runs.items ≡ runs_from (l.len - l.k) (drop (l.len - l.k) l.set)

use Rattle.std.proofs.Common.{◌≡◌, ◌+◌, ◌*◌, ◌≤◌, drop}
use Rattle.std.specs.Prelude.{count_by}
use Rattle.np_net.specs.Plan.{Plan}
use Rattle.np_report.specs.Summary.{is_hop_line}
use Rattle.np_report.specs.Verdicts.{goals_lines}
use Rattle.np_report.proofs.summary.hops.Given as goal

-- the hops so far, with those of the goals that are left, are all; and a goal has fewer than 2 ^ 64
abbrev pub invariant-loop-n : goal.invariant-loop-n
invariant-loop-n l = record {
  counted : (net : Plan) → l.count + count_by is_hop_line (goals_lines net (l.n + 1) (drop l.n l.verdicts)) ≡ count_by is_hop_line (goals_lines net 1 l.verdicts);
  small : l.count ≤ l.n * 18446744073709551615;
}

use Rattle.std.proofs.Common.{◌≡◌, ◌-◌, ◌++◌}
use Rattle.np_generate.specs.Drawing.{in_turn}
use Rattle.np_generate.specs.Drawn.{a_goal, some_goals}
use Rattle.np_text.specs.Joined.{text_of_lines}
use Rattle.np_generate.specs.NetLines.{goal_lines}
use Rattle.np_generate.proofs.net_lines.put_goals.Given as goal

-- what is appended, with the lines that are left, is the whole, and the draws that are left end in the whole's last state
abbrev pub invariant-loop-k : goal.invariant-loop-k
invariant-loop-k l = record {
  text : l.out.items ++ text_of_lines (goal_lines l.k (in_turn a_goal l.k (16 - l.k) l.draws.state).0) ≡ l.initial.out.items ++ text_of_lines (goal_lines 0 (some_goals l.initial.draws.state).0);
  state : (in_turn a_goal l.k (16 - l.k) l.draws.state).1 ≡ (some_goals l.initial.draws.state).1;
}

use Rattle.std.proofs.Common.{◌≡◌, ◌-◌, ◌++◌}
use Rattle.np_generate.specs.Drawing.{in_turn}
use Rattle.np_generate.specs.Drawn.{far_area, some_far_areas}
use Rattle.np_text.specs.Joined.{text_of_lines}
use Rattle.np_generate.specs.NetLines.{chord_lines}
use Rattle.np_generate.proofs.net_lines.put_chords.Given as goal

-- what is appended, with the lines that are left, is the whole, and the draws that are left end in the whole's last state
abbrev pub invariant-loop-k : goal.invariant-loop-k
invariant-loop-k l = record {
  text : l.out.items ++ text_of_lines (chord_lines l.k (in_turn far_area l.k (24 - l.k) l.draws.state).0) ≡ l.initial.out.items ++ text_of_lines (chord_lines 16 (some_far_areas l.initial.draws.state).0);
  state : (in_turn far_area l.k (24 - l.k) l.draws.state).1 ≡ (some_far_areas l.initial.draws.state).1;
}

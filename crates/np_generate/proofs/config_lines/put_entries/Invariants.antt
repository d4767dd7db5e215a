use Rattle.std.proofs.Common.{◌≡◌, ◌-◌, ◌++◌}
use Rattle.np_text.specs.Joined.{joined_text}
use Rattle.np_generate.specs.ConfigLines.{entry_lines}
use Rattle.np_generate.specs.Drawing.{in_turn}
use Rattle.np_generate.specs.Drawn.{an_entry, some_entries}
use Rattle.np_generate.proofs.config_lines.put_entries.Given as goal

-- what is appended, with the lines that are left, is the whole, and the draws that are left end in the whole's last state
abbrev pub invariant-loop-number : goal.invariant-loop-number
invariant-loop-number l = record {
  text : l.out.items ++ joined_text (entry_lines (in_turn (λ n. an_entry) l._number (40 - l._number) l.draws.state).0) ≡ l.initial.out.items ++ joined_text (entry_lines (some_entries l.initial.draws.state).0);
  state : (in_turn (λ n. an_entry) l._number (40 - l._number) l.draws.state).1 ≡ (some_entries l.initial.draws.state).1;
}

use Rattle.std.proofs.Common.{◌≡◌, ◌++◌, drop}
use Rattle.np_net_text.specs.CanonicalText.{lines_text}
use Rattle.np_ipsec_report.specs.Replays.{state_lines}
use Rattle.np_ipsec_report.proofs.replays.put_states.Given as goal

-- what is appended, with the lines that are left, is the whole
abbrev pub invariant-loop-n : goal.invariant-loop-n
invariant-loop-n g l = l.text.items ++ lines_text (state_lines l.net l.n (drop l.n l.replay.states)) ≡ l.initial.text.items ++ lines_text (state_lines l.net 0 l.replay.states)

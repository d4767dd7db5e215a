use Rattle.std.proofs.Common.{◌≡◌, ◌++◌, drop}
use Rattle.np_net_text.specs.CanonicalText.{lines_text}
use Rattle.np_report.specs.Synthesis.{slots_lines}
use Rattle.np_report.specs.Drops.{AreBefore}
use Rattle.np_report.proofs.synthesis.put_slots.Given as goal

-- what is appended, with the lines that are left, is the whole; and so many drops are at the slots before this one
abbrev pub invariant-loop-slot : goal.invariant-loop-slot
invariant-loop-slot l =
    (l.text.items ++ lines_text (slots_lines l.net l.sets l.drops l.slot (drop l.slot l.net.free)) ≡ l.initial.text.items ++ lines_text (slots_lines l.net l.sets l.drops 0 l.net.free))
    × AreBefore l.slot l.before l.drops

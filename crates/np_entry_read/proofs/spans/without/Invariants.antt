use Rattle.std.proofs.Common.{◌≡◌, take}
use Rattle.np_entry_read.specs.Spans.{spans_without}
use Rattle.np_entry_read.proofs.spans.without.Given as goal

abbrev pub invariant-loop-part : goal.invariant-loop-part
invariant-loop-part l = l.left ≡ spans_without (take l.part-index l.spans) l.number

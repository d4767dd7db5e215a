use Rattle.std.proofs.Common.{◌≡◌, length}
use Rattle.np_lines.specs.Answers.{texts}
use Rattle.np_entry_read.specs.Entries.{options_from, options_of}
use Rattle.np_entry_read.proofs.options.options.Given as goal

-- what is asked for so far and the words that are left give what all words give
abbrev pub invariant-loop-left : goal.invariant-loop-left
invariant-loop-left l = options_from l.kind l.asked (texts l.left) ≡ options_of l.kind (texts l.fn.words)

abbrev pub decreases-loop-left : goal.decreases-loop-left
decreases-loop-left l = length l.left

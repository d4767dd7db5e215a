use Rattle.std.proofs.Common.{◌≡◌, true, length}
use Rattle.std.specs.List.{slice_split}
use Rattle.np_pred.specs.Patterns.{is_comma, are_prefixes, patterns_of}
use Rattle.np_pred.proofs.PatternLaws.{with_front}
use Rattle.np_pred.proofs.address_lists.patterns.Given as goal

abbrev pub invariant-loop-part : goal.invariant-loop-part
invariant-loop-part l =
    (with_front l.patterns.items (patterns_of (slice_split is_comma l.rest)) ≡ patterns_of (slice_split is_comma l.word)) × (are_prefixes l.patterns.items ≡ true)

abbrev pub decreases-loop-part : goal.decreases-loop-part
decreases-loop-part l = length l.rest

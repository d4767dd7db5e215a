use Rattle.std.proofs.Common.{◌≡◌, map}
use Rattle.std.specs.List.{list_any}
use Rattle.np_text.specs.Words.{words_of}
use Rattle.np_notes.specs.Shape as shape
use Rattle.np_notes.proofs.shape.has_action.Given as goal

-- the words that are left have an action where those of the line have one
abbrev pub invariant-loop-word : goal.invariant-loop-word
invariant-loop-word l = list_any shape.is_action (map (λ word. word.1) l.word-iterator) ≡ list_any shape.is_action (words_of l.line)

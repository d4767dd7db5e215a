use Rattle.std.proofs.Common.{◌≡◌, ◌++◌, map}
use Rattle.np_text.specs.Views.{word_view}
use Rattle.np_text.specs.Words.{placed_words}
use Rattle.np_text.proofs.cutting.word_list.Given as goal

-- the words so far and those that are left are all of them
abbrev pub invariant-loop-word : goal.invariant-loop-word
invariant-loop-word l = map word_view l.list.items ++ l.word-iterator ≡ placed_words 0 l.line

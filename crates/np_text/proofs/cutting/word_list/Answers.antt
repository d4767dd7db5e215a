use Rattle.std.proofs.Common.{◌≡◌, ◌++◌, map, sym, ap, ◌∙◌, append-nil}
use Rattle.np_text.specs.Views.{word_view}
use Rattle.np_text.specs.Words.{placed_words}
use Rattle.np_text.proofs.WordLaws.{listed_words}
use Rattle.np_text.proofs.cutting.word_list.Goals as goal

pub returns-clause-words : goal.returns-clause-words
returns-clause-words c =
    let so_far = map word_view c.loop-word.list.items in
    let all : so_far ≡ placed_words 0 c.args.line.now = sym (append-nil so_far) ∙ ap (λ left. so_far ++ left) (sym c.in-None.ensures.steps.0) ∙ c.loop-word.invariant in
    listed_words c.loop-word.list.items c.args.line.now all

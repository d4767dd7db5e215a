use Rattle.std.proofs.Common.{◌+◌, ◌∙◌, sym, ap, length, arith, rules}
use Rattle.std.proofs.lemmas.List.Sums.{prefix_len_is}
use Rattle.std.proofs.lemmas.List.{take_rest, drop_all}
use Rattle.np_text.specs.Words.{is_blank, placed_words}
use Rattle.np_text.proofs.WordLaws.{placed_words_skip}
use Rattle.np_text.proofs.cutting.skip_blanks.Goals as goal

pub returns-in-Some-clause-words : goal.returns-in-Some-clause-words
returns-in-Some-clause-words c =
    let bytes = c.args.bytes.now in
    let found = prefix_len_is is_blank bytes c.in-Some.blanks 0 (search rules) (search rules) (search rules) in
    placed_words_skip c.args.at bytes c.in-Some.blanks found
    ∙ ap (placed_words (c.args.at + c.in-Some.blanks)) (sym (take_rest bytes c.in-Some.blanks))

pub returns-in-None-clause-words : goal.returns-in-None-clause-words
returns-in-None-clause-words c =
    let bytes = c.args.bytes.now in
    let found = prefix_len_is is_blank bytes (length bytes) 0 (omega arith) (search rules) (search rules) in
    placed_words_skip c.args.at bytes (length bytes) found
    ∙ ap (placed_words (c.args.at + length bytes)) (drop_all (length bytes) bytes (omega arith))

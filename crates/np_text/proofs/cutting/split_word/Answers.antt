use Rattle.std.proofs.Common.{◌≡◌, ◌+◌, ◌∷◌, ◌∙◌, sym, ap, length, take, drop, arith, rules, take_all}
use Rattle.std.specs.List.{position_or_len}
use Rattle.std.proofs.lemmas.List.Sums.{position_or_len_is}
use Rattle.std.proofs.lemmas.List.{take_rest, drop_all}
use Rattle.np_text.specs.Words.{is_blank, placed_words}
use Rattle.np_text.proofs.WordLaws.{placed_words_split, some_word}
use Rattle.np_text.proofs.cutting.split_word.Goals as goal

pub returns-in-Some-clause-first : goal.returns-in-Some-clause-first
returns-in-Some-clause-first c at =
    let bytes = c.args.bytes.now in
    let end = c.in-Some.end in
    let found : position_or_len is_blank bytes ≡ end = position_or_len_is is_blank bytes end 0 (search rules) (search rules) (search rules) in
    let some = some_word bytes c.requires.some c.requires.word in
    placed_words_split at bytes end found (omega arith)
    ∙ ap (λ rest. (at, take end bytes) ∷ placed_words (at + length (take end bytes)) rest) (sym (take_rest bytes end))

pub returns-in-None-clause-first : goal.returns-in-None-clause-first
returns-in-None-clause-first c at =
    let bytes = c.args.bytes.now in
    let found : position_or_len is_blank bytes ≡ length bytes = position_or_len_is is_blank bytes (length bytes) 0 (omega arith) (search rules) (search rules) in
    placed_words_split at bytes (length bytes) found c.requires.some
    ∙ ap (λ word. (at, word) ∷ placed_words (at + length word) (drop (length bytes) bytes)) (take_all (length bytes) bytes (omega arith))
    ∙ ap (λ rest. (at, bytes) ∷ placed_words (at + length bytes) rest) (drop_all (length bytes) bytes (omega arith))

use Rattle.np_notes.proofs.WordLaws.{second_word_is, third_word_is}
use Rattle.np_notes.proofs.shape.first_words.Goals as goal

pub returns-clause-second : goal.returns-clause-second
returns-clause-second c =
    second_word_is c.words-words.result _ c.args.line.now c.next_word-second.result.now
    c.words-words.ensures.all c.next_word-first.ensures.rest c.next_word-second.ensures.word

pub returns-clause-third : goal.returns-clause-third
returns-clause-third c =
    third_word_is c.words-words.result _ _ c.args.line.now c.next_word-third.result.now
    c.words-words.ensures.all c.next_word-first.ensures.rest c.next_word-second.ensures.rest c.next_word-third.ensures.word

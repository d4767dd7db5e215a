use Rattle.np_text.proofs.WrittenLaws.{is_word-decimal, is_word-dotted, is_word-prefix}
use Rattle.np_text.proofs.laws.written_forms_are_words.Goals as goal

pub returns : goal.returns
returns c = record { numbers = is_word-decimal; addresses = is_word-dotted; prefixes = is_word-prefix }

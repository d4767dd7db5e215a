use Rattle.np_text.proofs.JoinedLaws.{lines_of-joined_text, length-joined_text, words_of-joined_text}
use Rattle.np_text.proofs.laws.joined_words_read_back.Goals as goal

pub returns : goal.returns
returns c = record { lines = lines_of-joined_text; count = length-joined_text; words = words_of-joined_text }

use Rattle.np_text.proofs.PlaceLaws.{concat-words_of, words_of-runs}
use Rattle.np_text.proofs.laws.words_leave_out_blanks.Goals as goal

pub returns : goal.returns
returns c = record { rest = concat-words_of; runs = words_of-runs }

use Rattle.np_text.proofs.LineLaws.{ended_lines-lines_of, lines_of-no_end}
use Rattle.np_text.proofs.laws.lines_make_up_the_text.Goals as goal

pub returns : goal.returns
returns c = record { text = ended_lines-lines_of; no_end = lines_of-no_end }

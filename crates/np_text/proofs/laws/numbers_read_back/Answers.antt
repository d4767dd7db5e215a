use Rattle.np_text.proofs.NumberLaws.{number_of-decimal, decimal_shortest}
use Rattle.np_text.proofs.laws.numbers_read_back.Goals as goal

pub returns : goal.returns
returns c = record { back = number_of-decimal; shortest = decimal_shortest }

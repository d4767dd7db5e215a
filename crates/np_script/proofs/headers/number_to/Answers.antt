use Rattle.np_text.proofs.NumberLaws.{number_of-le}
use Rattle.np_script.proofs.headers.number_to.Goals as goal

pub returns-in-Some-clause-within : goal.returns-in-Some-clause-within
returns-in-Some-clause-within c = number_of-le c.args.word.now c.args.max c.in-Some.value c.in-Some.ensures

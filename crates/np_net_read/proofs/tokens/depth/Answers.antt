use Rattle.std.proofs.Common.{◌≡◌, Some, ap, ◌∙◌, rules}
use Rattle.np_text.proofs.NumberLaws.{number_of-le}
use Rattle.np_text.specs.Numbers.{number_of}
use Rattle.np_net_read.proofs.tokens.depth.Goals as goal

pub overflow_cast-result : goal.overflow_cast-result
overflow_cast-result c =
    let read : Some c.in-Some.value ≡ number_of c.args.word.now 16 = c.in-Some.ensures ∙ ap (number_of c.args.word.now) c.from.ensures in
    let low = number_of-le c.args.word.now 16 c.in-Some.value read in search rules

pub returns-in-Some-clause-deep : goal.returns-in-Some-clause-deep
returns-in-Some-clause-deep c = number_of-le c.args.word.now 16 c.in-Some.value (c.in-Some.ensures ∙ ap (number_of c.args.word.now) c.from.ensures)

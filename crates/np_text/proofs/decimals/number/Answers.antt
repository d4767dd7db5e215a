use Rattle.std.proofs.Common.{sym, rules}
use Rattle.np_text.proofs.NumberLaws.{number_of-read, number_of_empty}
use Rattle.np_text.proofs.decimals.number.Goals as goal

pub returns-then-is_empty : goal.returns-then-is_empty
returns-then-is_empty c = sym (number_of_empty c.args.word.now c.args.max (search rules))

pub loop-byte-init : goal.loop-byte-init
loop-byte-init c = number_of-read c.args.word.now c.args.max (search rules)

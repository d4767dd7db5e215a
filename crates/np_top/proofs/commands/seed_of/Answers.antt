use Rattle.std.proofs.Common.{arith}
use Rattle.np_text.proofs.NumberLaws.{number_of-le}
use Rattle.np_top.proofs.commands.seed_of.Goals as goal

pub overflow_cast-seed : goal.overflow_cast-seed
overflow_cast-seed c = let within = number_of-le c.args.word.now 4294967295 c.in_ok-seed.field-0 c.in_ok-seed.ensures in omega arith

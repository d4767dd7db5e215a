use Rattle.std.proofs.Common.{rules}
use Rattle.np_text.proofs.NumberLaws.{number_of-le}
use Rattle.np_entry_read.proofs.messages.octet.Goals as goal

pub overflow_cast-result : goal.overflow_cast-result
overflow_cast-result c = let low = number_of-le c.args.word.now 255 c.in-Some.value c.in-Some.ensures in search rules

use Rattle.std.proofs.Common.{rules}
use Rattle.np_text.proofs.NumberLaws.{number_of-le}
use Rattle.np_acl_read.proofs.list_entries.sequence_number.Goals as goal

pub overflow_cast-value : goal.overflow_cast-value
overflow_cast-value c = let low = number_of-le c.args.word.now c.from.result c.in-Some.value c.in-Some.ensures in search rules

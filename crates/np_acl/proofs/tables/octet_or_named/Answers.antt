use Rattle.std.proofs.Common.{rules}
use Rattle.np_text.proofs.NumberLaws.{number_of-le}
use Rattle.np_acl.proofs.tables.octet_or_named.Goals as goal

pub overflow_cast-result : goal.overflow_cast-result
overflow_cast-result c = let within = number_of-le c.args.word.now c.from.result c.in-Some.value c.in-Some.ensures in search rules

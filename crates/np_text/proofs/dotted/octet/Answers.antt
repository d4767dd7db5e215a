use Rattle.std.proofs.Common.{sym, ◌∙◌, arith, rules}
use Rattle.np_text.proofs.AddressLaws.{octet_of-short, octet_of-long}
use Rattle.np_text.proofs.NumberLaws.{number_of-le}
use Rattle.np_text.proofs.dotted.octet.Goals as goal

pub returns-then-part-gt3 : goal.returns-then-part-gt3
returns-then-part-gt3 c = sym (octet_of-long c.args.part.now (omega arith))

pub returns-in_err-value : goal.returns-in_err-value
returns-in_err-value c = rw c.from_residual.ensures (c.in_err-value.ensures ∙ sym (octet_of-short c.args.part.now (omega arith)))

pub overflow_cast-result : goal.overflow_cast-result
overflow_cast-result c = let low = number_of-le c.args.part.now 255 c.in_ok-value.value c.in_ok-value.ensures in search rules

pub returns : goal.returns
returns c = c.in_ok-value.ensures ∙ sym (octet_of-short c.args.part.now (omega arith))

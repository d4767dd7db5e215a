use Rattle.std.proofs.Common.{Some, refl, ap, rules}
use Rattle.np_text.proofs.AddressLaws.{prefix_of-whole, prefix_of-front}
use Rattle.np_text.proofs.NumberLaws.{number_of-le}
use Rattle.np_text.proofs.dotted.prefix.Goals as goal

pub returns-in_err-address-in-None : goal.returns-in_err-address-in-None
returns-in_err-address-in-None c =
    rw (c.from_residual.ensures, prefix_of-whole c.args.word.now c.in-None.ensures.none, ← c.in_err-address-in-None.ensures) refl

pub returns-in_ok-address-in-None : goal.returns-in_ok-address-in-None
returns-in_ok-address-in-None c =
    rw (prefix_of-whole c.args.word.now c.in-None.ensures.none, ← c.in_ok-address-in-None.ensures) refl

pub returns-in_err-whole-in-Some : goal.returns-in_err-whole-in-Some
returns-in_err-whole-in-Some c =
    rw (c.from_residual-in_err-whole-in-Some.ensures, prefix_of-front c.args.word.now _ _ c.in-Some.ensures.found c.in-Some.ensures.before c.in-Some.ensures.after, ← c.in_err-whole-in-Some.ensures) refl

pub returns-in_err-length-in-Some : goal.returns-in_err-length-in-Some
returns-in_err-length-in-Some c =
    rw (c.from_residual-in_err-length-in-Some.ensures, prefix_of-front c.args.word.now _ _ c.in-Some.ensures.found c.in-Some.ensures.before c.in-Some.ensures.after, ← c.in_ok-whole-in-Some.ensures, ← c.in_err-length-in-Some.ensures) refl

pub overflow_cast-length : goal.overflow_cast-length
overflow_cast-length c = let low = number_of-le _ 32 c.in_ok-length-in-Some.field-0 c.in_ok-length-in-Some.ensures in search rules

pub front_bits-requires : goal.front_bits-requires
front_bits-requires c = number_of-le _ 32 c.in_ok-length-in-Some.field-0 c.in_ok-length-in-Some.ensures

pub returns-in_ok-length-in-Some : goal.returns-in_ok-length-in-Some
returns-in_ok-length-in-Some c =
    rw (prefix_of-front c.args.word.now _ _ c.in-Some.ensures.found c.in-Some.ensures.before c.in-Some.ensures.after, ← c.in_ok-whole-in-Some.ensures, ← c.in_ok-length-in-Some.ensures)
    (ap (λ address. Some (address, c.in_ok-length-in-Some.field-0)) c.front_bits.ensures)

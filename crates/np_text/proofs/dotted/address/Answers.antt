use Rattle.std.proofs.Common.{Some, sym, refl, ap}
use Rattle.np_text.proofs.AddressLaws.{address_of-four, address_of-other}
use Rattle.np_text.proofs.dotted.address.Goals as goal

pub returns-in_err-first : goal.returns-in_err-first
returns-in_err-first c = rw c.from_residual.ensures (sym (address_of-other _ c.in_err-first.ensures.none))

pub returns-in_err-octet : goal.returns-in_err-octet
returns-in_err-octet c =
    rw (c.from_residual-in_err-octet.ensures, address_of-four _ _ _ _ _ c.in_ok-first.ensures.parts, ← c.in_err-octet.ensures) refl

pub returns-in_err-octet-2 : goal.returns-in_err-octet-2
returns-in_err-octet-2 c =
    rw (c.from_residual-in_err-octet-2.ensures, address_of-four _ _ _ _ _ c.in_ok-first.ensures.parts, ← c.in_ok-octet.ensures, ← c.in_err-octet-2.ensures) refl

pub returns-in_err-octet-3 : goal.returns-in_err-octet-3
returns-in_err-octet-3 c =
    rw (c.from_residual-in_err-octet-3.ensures, address_of-four _ _ _ _ _ c.in_ok-first.ensures.parts, ← c.in_ok-octet.ensures, ← c.in_ok-octet-2.ensures, ← c.in_err-octet-3.ensures) refl

pub returns-in_err-octet-4 : goal.returns-in_err-octet-4
returns-in_err-octet-4 c =
    rw (c.from_residual-in_err-octet-4.ensures, address_of-four _ _ _ _ _ c.in_ok-first.ensures.parts, ← c.in_ok-octet.ensures, ← c.in_ok-octet-2.ensures, ← c.in_ok-octet-3.ensures, ← c.in_err-octet-4.ensures) refl

pub returns : goal.returns
returns c =
    rw (address_of-four _ _ _ _ _ c.in_ok-first.ensures.parts, ← c.in_ok-octet.ensures, ← c.in_ok-octet-2.ensures, ← c.in_ok-octet-3.ensures, ← c.in_ok-octet-4.ensures) (ap (λ address. Some address) c.from_be_bytes.ensures)

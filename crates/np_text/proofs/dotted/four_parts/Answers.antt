use Rattle.std.proofs.Common.{ap, length, arith}
use Rattle.std.proofs.lemmas.List.Splits.{length-slice_split}
use Rattle.np_text.specs.Addresses.{is_dot}
use Rattle.np_text.proofs.dotted.four_parts.Goals as goal

pub returns-in-Some-clause-none : goal.returns-in-Some-clause-none
returns-in-Some-clause-none c =
    let first = ap length c.in_ok-first.ensures.parts in
    let second = ap length c.in_ok-second.ensures.parts in
    let third = ap length c.in_ok-third.ensures.parts in
    let fourth = ap length c.in-Some.ensures.parts in
    λ four. omega (arith, length-slice_split is_dot c.in-Some.field-0.1.now)

use Rattle.std.proofs.Common.{◌+◌, ◌∙◌, ap, arith, rules}
use Rattle.np_space.specs.Block.{count_having, has_with_address}
use Rattle.np_space.specs.Flag.{flag_number}
use Rattle.np_space.proofs.AlgebraLemmas.{own_address, same_address}
use Rattle.np_space.proofs.algebra.push_addresses.Goals as goal

pub loop-bit-init : goal.loop-bit-init
loop-bit-init c = record {
  narrower = search (rules, c.requires, c.address-rest.ensures);
  same = λ i none. absurd (omega arith);
  moved = λ h.
      ap (λ p. count_having c.args.pieces.now.items h + flag_number (has_with_address c.args.field p c.args.whole.now h)) c.address-rest.ensures
      ∙ ap (λ t. count_having c.args.pieces.now.items h + flag_number t) (own_address c.args.field c.args.whole.now h);
  len = omega arith;
}

pub returns-clause-exact : goal.returns-clause-exact
returns-clause-exact c = λ h.
    let same = ap flag_number (same_address c.args.field c.args.whole.now h c.loop-bit.rest c.args.part.now (λ i l. c.loop-bit.invariant.same i (omega arith))) in
    omega (arith, c.loop-bit.invariant.moved h)

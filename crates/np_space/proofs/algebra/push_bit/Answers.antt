use Rattle.std.proofs.Common.{ap, arith}
use Rattle.std.specs.Prelude.{Some, None}
use Rattle.np_space.specs.Block.{count_having}
use Rattle.np_space.specs.Flag.{flag_number}
use Rattle.np_space.proofs.AlgebraLemmas.{address_sum, count_push}
use Rattle.np_space.proofs.algebra.push_bit.Goals as goal

pub returns-in_ok-push-in-Some-clause-exact : goal.returns-in_ok-push-in-Some-clause-exact
returns-in_ok-push-in-Some-clause-exact c = λ h.
    let sum = address_sum c.args.field c.args.whole.now h c.args.rest.now c.fix.new.self (Some c.in-Some.taken) c.in-Some.ensures.exact in
    let items = ap (λ l. count_having l h) c.in_ok-push-in-Some.ensures.items in
    let pushed = count_push c.args.pieces.now.items c.with_address.result h in
    let block = ap flag_number (c.with_address.ensures h) in
    omega arith

pub returns-in-None-clause-exact : goal.returns-in-None-clause-exact
returns-in-None-clause-exact c = λ h.
    let sum = address_sum c.args.field c.args.whole.now h c.args.rest.now c.fix.new.self None c.in-None.ensures.exact in
    omega arith

use Rattle.std.proofs.Common.{◌+◌, ◌/◌, ◌%◌, ◌∷◌, [], ◌∙◌, arith, rules, append_assoc}
use Rattle.std.proofs.lemmas.Fmt.{decimal_digit, decimal_step}
use Rattle.std.specs.Fmt.{decimal}
use Rattle.np_text.specs.Appending.{AppendsFront}
use Rattle.np_text.proofs.AppendLaws.{AppendsFront-more, OnErr-from}
use Rattle.np_text.proofs.decimals.+put_number.Goals as goal

pub returns-then-value-lt10-clause-ok : goal.returns-then-value-lt10-clause-ok
returns-then-value-lt10-clause-ok t c = let one = decimal_digit c.args.value (omega arith) in rw one (search rules)

pub returns-in_err-put_number-clause-err : goal.returns-in_err-put_number-clause-err
returns-in_err-put_number-clause-err t c =
    let front : AppendsFront c.args.out.now.items c.put_number.new.out.items (decimal c.args.value) =
    rw (decimal_step c.args.value (omega arith) (omega arith)) (AppendsFront-more _ c.in_err-put_number.ensures.err) in
    OnErr-from _ front

pub returns-in_err-push-2-clause-err : goal.returns-in_err-push-2-clause-err
returns-in_err-push-2-clause-err t c =
    let front : AppendsFront c.args.out.now.items c.push-2.new.self.items (decimal c.args.value) = record {
      written = decimal (c.args.value / 10);
      lost = (48 + c.args.value % 10) ∷ [];
      whole = decimal_step c.args.value (omega arith) (omega arith);
      after = c.in_err-push-2.ensures.items ∙ c.in_ok-put_number.ensures.ok;
    } in
    OnErr-from _ front

pub returns-clause-ok : goal.returns-clause-ok
returns-clause-ok t c =
    let step = decimal_step c.args.value (omega arith) (omega arith) in
    rw (step, c.in_ok-push-2.ensures.items, c.in_ok-put_number.ensures.ok, c.digit-2.ensures) (append_assoc c.args.out.now.items _ _)

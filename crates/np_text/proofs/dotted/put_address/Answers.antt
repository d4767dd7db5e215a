use Rattle.std.proofs.Common.{◌≡◌, ◌++◌, append_assoc}
use Rattle.std.specs.Fmt.{decimal}
use Rattle.std.proofs.lemmas.Result.{on_ok_weaker, on_err_weaker}
use Rattle.np_text.specs.Addresses.{dotted}
use Rattle.np_text.specs.Appending.{AppendsFront}
use Rattle.np_text.proofs.AddressLaws.{dotted-bytes}
use Rattle.np_text.proofs.AppendLaws.{AppendsFront-more, AppendsFront-after, OnErr-from}
use Rattle.np_text.proofs.dotted.put_address.Goals as goal

pub returns-in_err-put_before_dot-clause-err : goal.returns-in_err-put_before_dot-clause-err
returns-in_err-put_before_dot-clause-err c =
    let front : AppendsFront c.args.out.now.items c.put_before_dot.new.out.items (dotted c.args.value) =
    rw (dotted-bytes c.args.value c.to_be_bytes.result c.to_be_bytes.ensures) (AppendsFront-more _ c.in_err-put_before_dot.ensures.err) in
    OnErr-from _ front

pub returns-in_err-put_before_dot-2-clause-err : goal.returns-in_err-put_before_dot-2-clause-err
returns-in_err-put_before_dot-2-clause-err c =
    let front : AppendsFront c.args.out.now.items c.put_before_dot-2.new.out.items (dotted c.args.value) =
    rw (dotted-bytes c.args.value c.to_be_bytes.result c.to_be_bytes.ensures)
    (AppendsFront-after _ _ _ c.in_ok-put_before_dot.ensures.ok (AppendsFront-more _ c.in_err-put_before_dot-2.ensures.err)) in
    OnErr-from _ front

pub returns-in_err-put_before_dot-3-clause-err : goal.returns-in_err-put_before_dot-3-clause-err
returns-in_err-put_before_dot-3-clause-err c =
    let front : AppendsFront c.args.out.now.items c.put_before_dot-3.new.out.items (dotted c.args.value) =
    rw (dotted-bytes c.args.value c.to_be_bytes.result c.to_be_bytes.ensures)
    (AppendsFront-after _ _ _ c.in_ok-put_before_dot.ensures.ok
    (AppendsFront-after _ _ _ c.in_ok-put_before_dot-2.ensures.ok (AppendsFront-more _ c.in_err-put_before_dot-3.ensures.err))) in
    OnErr-from _ front

pub returns-clause-ok : goal.returns-clause-ok
returns-clause-ok c =
    on_ok_weaker c.put_number.result (λ (last : c.put_number.new.out.items ≡ c.put_before_dot-3.new.out.items ++ decimal c.from.result).
    rw (dotted-bytes c.args.value c.to_be_bytes.result c.to_be_bytes.ensures, ← c.from.ensures, last, c.in_ok-put_before_dot-3.ensures.ok, c.in_ok-put_before_dot-2.ensures.ok, c.in_ok-put_before_dot.ensures.ok)
    (simp append_assoc)) c.put_number.ensures.ok

pub returns-clause-err : goal.returns-clause-err
returns-clause-err c =
    on_err_weaker c.put_number.result (λ last.
    rw (dotted-bytes c.args.value c.to_be_bytes.result c.to_be_bytes.ensures, ← c.from.ensures)
    (AppendsFront-after _ _ _ c.in_ok-put_before_dot.ensures.ok
    (AppendsFront-after _ _ _ c.in_ok-put_before_dot-2.ensures.ok
    (AppendsFront-after _ _ _ c.in_ok-put_before_dot-3.ensures.ok last)))) c.put_number.ensures.err

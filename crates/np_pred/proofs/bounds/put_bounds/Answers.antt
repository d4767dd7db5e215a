use Rattle.std.proofs.Common.{◌≡◌, ◌++◌, append_assoc}
use Rattle.std.specs.Fmt.{decimal}
use Rattle.std.proofs.lemmas.Result.{on_ok_weaker, on_err_weaker}
use Rattle.np_text.specs.Appending.{AppendsFront}
use Rattle.np_text.proofs.AppendLaws.{AppendsFront-none, AppendsFront-more, AppendsFront-after, OnErr-from}
use Rattle.np_pred.specs.Bounds.{bounds_text}
use Rattle.np_pred.proofs.BoundsLaws.{bounds_text_one, bounds_text_two}
use Rattle.np_pred.proofs.bounds.put_bounds.Goals as goal

pub returns-then-low-high-clause-ok : goal.returns-then-low-high-clause-ok
returns-then-low-high-clause-ok c = rw (bounds_text_one c.args.low c.args.high c.if-low-high.true) c.put_number.ensures.ok

pub returns-then-low-high-clause-err : goal.returns-then-low-high-clause-err
returns-then-low-high-clause-err c = rw (bounds_text_one c.args.low c.args.high c.if-low-high.true) c.put_number.ensures.err

pub returns-in_err-put_number-clause-err : goal.returns-in_err-put_number-clause-err
returns-in_err-put_number-clause-err c =
    let front : AppendsFront c.args.out.now.items c.put_number-2.new.out.items (bounds_text c.args.low c.args.high) =
    rw (bounds_text_two c.args.low c.args.high c.if-low-high.false) (AppendsFront-more _ c.in_err-put_number.ensures.err) in
    OnErr-from _ front

pub returns-in_err-push-clause-err : goal.returns-in_err-push-clause-err
returns-in_err-push-clause-err c =
    let front : AppendsFront c.args.out.now.items c.push.new.self.items (bounds_text c.args.low c.args.high) =
    rw (bounds_text_two c.args.low c.args.high c.if-low-high.false, c.in_err-push.ensures.items) (AppendsFront-after _ _ _ c.in_ok-put_number.ensures.ok (AppendsFront-none _ _)) in
    OnErr-from _ front

pub returns-clause-ok : goal.returns-clause-ok
returns-clause-ok c =
    on_ok_weaker c.put_number-3.result (λ (last : c.put_number-3.new.out.items ≡ c.push.new.self.items ++ decimal c.args.high).
    rw (bounds_text_two c.args.low c.args.high c.if-low-high.false, last, c.in_ok-push.ensures.items, c.in_ok-put_number.ensures.ok) (simp append_assoc)) c.put_number-3.ensures.ok

pub returns-clause-err : goal.returns-clause-err
returns-clause-err c =
    on_err_weaker c.put_number-3.result (λ last.
    rw (bounds_text_two c.args.low c.args.high c.if-low-high.false)
    (AppendsFront-after _ _ _ c.in_ok-put_number.ensures.ok (AppendsFront-after _ _ _ c.in_ok-push.ensures.items last))) c.put_number-3.ensures.err

use Rattle.std.proofs.lemmas.Result.{on_err_weaker}
use Rattle.np_text.proofs.AppendLaws.{AppendsFront-after}
use Rattle.np_pred.proofs.address_lists.put_prefix.Goals as goal

pub returns-clause-err : goal.returns-clause-err
returns-clause-err c =
    on_err_weaker c.put_number.result (λ last.
    rw (← c.from.ensures) (AppendsFront-after _ _ _ c.in_ok-put_address.ensures.ok (AppendsFront-after _ _ _ c.in_ok-push.ensures.items last))) c.put_number.ensures.err

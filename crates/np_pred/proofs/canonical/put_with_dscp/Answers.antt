use Rattle.std.proofs.Common.{◌++◌}
use Rattle.np_pred.specs.Dscp.{dscp_text}
use Rattle.std.proofs.lemmas.Result.{on_err_weaker}
use Rattle.np_text.specs.Appending.{AppendsFront}
use Rattle.np_text.proofs.AppendLaws.{AppendsFront-more, AppendsFront-after, OnErr-from}
use Rattle.np_pred.proofs.canonical.put_with_dscp.Goals as goal

pub returns-in_err-put_bytes-clause-err : goal.returns-in_err-put_bytes-clause-err
returns-in_err-put_bytes-clause-err c =
    let front : AppendsFront c.args.out.now.items c.put_bytes.new.out.items (c.args.word.now ++ dscp_text c.args.span.now) = AppendsFront-more _ c.in_err-put_bytes.ensures.err in
    OnErr-from _ front

pub returns-clause-err : goal.returns-clause-err
returns-clause-err c = on_err_weaker c.put_dscp_span.result (λ last. (AppendsFront-after _ _ _ c.in_ok-put_bytes.ensures.ok last)) c.put_dscp_span.ensures.err

use Rattle.std.proofs.Common.{◌∷◌, ◌++◌}
use Rattle.std.specs.Prelude.{codes}
use Rattle.std.specs.Fmt.{decimal}
use Rattle.std.proofs.lemmas.Result.{on_err_weaker}
use Rattle.np_text.specs.Appending.{AppendsFront}
use Rattle.np_text.proofs.AppendLaws.{AppendsFront-more, AppendsFront-after, OnErr-from}
use Rattle.np_report.proofs.words.put_dscp_word.Goals as goal

pub returns-in_err-put_word-clause-err : goal.returns-in_err-put_word-clause-err
returns-in_err-put_word-clause-err c =
    let front : AppendsFront c.args.text.now.items c.put_word.new.out.items (32 ∷ (codes "dscp=" ++ decimal c.args.dscp)) = AppendsFront-more _ c.in_err-put_word.ensures.err in
    OnErr-from _ front

pub returns-clause-err : goal.returns-clause-err
returns-clause-err c = on_err_weaker c.put_number.result (λ last. (rw (← c.from.ensures) (AppendsFront-after _ _ _ c.in_ok-put_word.ensures.ok last))) c.put_number.ensures.err

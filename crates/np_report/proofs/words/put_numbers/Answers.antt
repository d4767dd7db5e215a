use Rattle.std.proofs.Common.{[], ◌∷◌, ◌++◌}
use Rattle.std.specs.Fmt.{decimal}
use Rattle.std.proofs.lemmas.Result.{on_err_weaker}
use Rattle.np_space.specs.Flag.{flag_number}
use Rattle.np_text.specs.Appending.{AppendsFront}
use Rattle.np_text.proofs.AppendLaws.{AppendsFront-more, AppendsFront-after, OnErr-from}
use Rattle.np_net_text.specs.CanonicalText.{spaced}
use Rattle.np_report.proofs.words.put_numbers.Goals as goal

pub returns-in_err-put_number_word-clause-err : goal.returns-in_err-put_number_word-clause-err
returns-in_err-put_number_word-clause-err c =
    let front : AppendsFront c.args.text.now.items c.put_number_word.new.text.items (spaced (decimal c.args.a ∷ decimal c.args.b ∷ decimal (flag_number c.args.flag) ∷ [])) =
    rw (← c.from.ensures) (AppendsFront-more _ c.in_err-put_number_word.ensures.err) in
    OnErr-from _ front

pub returns-in_err-put_number_word-2-clause-err : goal.returns-in_err-put_number_word-2-clause-err
returns-in_err-put_number_word-2-clause-err c =
    let front : AppendsFront c.args.text.now.items c.put_number_word-2.new.text.items (spaced (decimal c.args.a ∷ decimal c.args.b ∷ decimal (flag_number c.args.flag) ∷ [])) =
    rw (← c.from.ensures, ← c.from-2.ensures) (AppendsFront-after _ _ _ c.in_ok-put_number_word.ensures.ok (AppendsFront-more _ c.in_err-put_number_word-2.ensures.err)) in
    OnErr-from _ front

pub returns-clause-err : goal.returns-clause-err
returns-clause-err c =
    on_err_weaker c.put_number_word-3.result (λ last. rw (← c.from.ensures, ← c.from-2.ensures, ← c.flag_number.ensures) (
    AppendsFront-after _ _ _ c.in_ok-put_number_word.ensures.ok
    (AppendsFront-after _ _ _ c.in_ok-put_number_word-2.ensures.ok (AppendsFront-more [] last)))) c.put_number_word-3.ensures.err

use Rattle.std.proofs.lemmas.Result.{on_ok_weaker, on_err_weaker}
use Rattle.np_text.specs.Appending.{AppendsFront}
use Rattle.np_text.proofs.AppendLaws.{AppendsFront-more, AppendsFront-after, OnErr-from}
use Rattle.np_pred.specs.Canonical.{written}
use Rattle.np_pred.proofs.CanonicalLaws.{written-Established, written-Not, written-And, written-Or, appended-two, appended-four}
use Rattle.np_pred.proofs.canonical.+put_words.Goals as goal

pub returns-in-Established-clause-ok : goal.returns-in-Established-clause-ok
returns-in-Established-clause-ok t c = rw (written-Established c.args.p.now c.in-Established.is) c.put_bytes-in-Established.ensures.ok

pub returns-in_err-put_bytes-in-Not-clause-err : goal.returns-in_err-put_bytes-in-Not-clause-err
returns-in_err-put_bytes-in-Not-clause-err t c =
    let front : AppendsFront c.args.out.now.items c.put_bytes-in-Not.new.out.items (written c.args.p.now) =
    rw (written-Not c.args.p.now c.in-Not.operand c.in-Not.is) (AppendsFront-more _ c.in_err-put_bytes-in-Not.ensures.err) in
    OnErr-from _ front

pub returns-in_ok-put_bytes-in-Not-clause-ok : goal.returns-in_ok-put_bytes-in-Not-clause-ok
returns-in_ok-put_bytes-in-Not-clause-ok t c =
    on_ok_weaker c.put_words.result (λ last.
    rw (written-Not c.args.p.now c.in-Not.operand c.in-Not.is, ← c.get.ensures) (appended-two _ _ _ _ _ c.in_ok-put_bytes-in-Not.ensures.ok last)) c.put_words.ensures.ok

pub returns-in_ok-put_bytes-in-Not-clause-err : goal.returns-in_ok-put_bytes-in-Not-clause-err
returns-in_ok-put_bytes-in-Not-clause-err t c =
    on_err_weaker c.put_words.result (λ last.
    rw (written-Not c.args.p.now c.in-Not.operand c.in-Not.is, ← c.get.ensures) (AppendsFront-after _ _ _ c.in_ok-put_bytes-in-Not.ensures.ok last)) c.put_words.ensures.err

pub returns-in_err-put_bytes-in-And-clause-err : goal.returns-in_err-put_bytes-in-And-clause-err
returns-in_err-put_bytes-in-And-clause-err t c =
    let front : AppendsFront c.args.out.now.items c.put_bytes-in-And.new.out.items (written c.args.p.now) =
    rw (written-And c.args.p.now c.in-And.first c.in-And.second c.in-And.is) (AppendsFront-more _ c.in_err-put_bytes-in-And.ensures.err) in
    OnErr-from _ front

pub returns-in_err-put_words-in-And-clause-err : goal.returns-in_err-put_words-in-And-clause-err
returns-in_err-put_words-in-And-clause-err t c =
    let front : AppendsFront c.args.out.now.items c.put_words-in-And.new.out.items (written c.args.p.now) =
    rw (written-And c.args.p.now c.in-And.first c.in-And.second c.in-And.is, ← c.get-in-And.ensures) (AppendsFront-after _ _ _ c.in_ok-put_bytes-in-And.ensures.ok (AppendsFront-more _ c.in_err-put_words-in-And.ensures.err)) in
    OnErr-from _ front

pub returns-in_err-put_bytes-in-And-2-clause-err : goal.returns-in_err-put_bytes-in-And-2-clause-err
returns-in_err-put_bytes-in-And-2-clause-err t c =
    let front : AppendsFront c.args.out.now.items c.put_bytes-in-And-2.new.out.items (written c.args.p.now) =
    rw (written-And c.args.p.now c.in-And.first c.in-And.second c.in-And.is, ← c.get-in-And.ensures)
    (AppendsFront-after _ _ _ c.in_ok-put_bytes-in-And.ensures.ok
    (AppendsFront-after _ _ _ c.in_ok-put_words-in-And.ensures.ok (AppendsFront-more _ c.in_err-put_bytes-in-And-2.ensures.err))) in
    OnErr-from _ front

pub returns-in_ok-put_bytes-in-And-2-clause-ok : goal.returns-in_ok-put_bytes-in-And-2-clause-ok
returns-in_ok-put_bytes-in-And-2-clause-ok t c =
    on_ok_weaker c.put_words-in-And-2.result (λ last.
    rw (written-And c.args.p.now c.in-And.first c.in-And.second c.in-And.is, ← c.get-in-And.ensures, ← c.get-in-And-2.ensures)
    (appended-four _ _ _ _ _ _ _ _ _ c.in_ok-put_bytes-in-And.ensures.ok c.in_ok-put_words-in-And.ensures.ok c.in_ok-put_bytes-in-And-2.ensures.ok last)) c.put_words-in-And-2.ensures.ok

pub returns-in_ok-put_bytes-in-And-2-clause-err : goal.returns-in_ok-put_bytes-in-And-2-clause-err
returns-in_ok-put_bytes-in-And-2-clause-err t c =
    on_err_weaker c.put_words-in-And-2.result (λ last.
    rw (written-And c.args.p.now c.in-And.first c.in-And.second c.in-And.is, ← c.get-in-And.ensures, ← c.get-in-And-2.ensures)
    (AppendsFront-after _ _ _ c.in_ok-put_bytes-in-And.ensures.ok
    (AppendsFront-after _ _ _ c.in_ok-put_words-in-And.ensures.ok (AppendsFront-after _ _ _ c.in_ok-put_bytes-in-And-2.ensures.ok last)))) c.put_words-in-And-2.ensures.err

pub returns-in_err-put_bytes-in-Or-clause-err : goal.returns-in_err-put_bytes-in-Or-clause-err
returns-in_err-put_bytes-in-Or-clause-err t c =
    let front : AppendsFront c.args.out.now.items c.put_bytes-in-Or.new.out.items (written c.args.p.now) =
    rw (written-Or c.args.p.now c.in-Or.first c.in-Or.second c.in-Or.is) (AppendsFront-more _ c.in_err-put_bytes-in-Or.ensures.err) in
    OnErr-from _ front

pub returns-in_err-put_words-in-Or-clause-err : goal.returns-in_err-put_words-in-Or-clause-err
returns-in_err-put_words-in-Or-clause-err t c =
    let front : AppendsFront c.args.out.now.items c.put_words-in-Or.new.out.items (written c.args.p.now) =
    rw (written-Or c.args.p.now c.in-Or.first c.in-Or.second c.in-Or.is, ← c.get-in-Or.ensures) (AppendsFront-after _ _ _ c.in_ok-put_bytes-in-Or.ensures.ok (AppendsFront-more _ c.in_err-put_words-in-Or.ensures.err)) in
    OnErr-from _ front

pub returns-in_err-put_bytes-in-Or-2-clause-err : goal.returns-in_err-put_bytes-in-Or-2-clause-err
returns-in_err-put_bytes-in-Or-2-clause-err t c =
    let front : AppendsFront c.args.out.now.items c.put_bytes-in-Or-2.new.out.items (written c.args.p.now) =
    rw (written-Or c.args.p.now c.in-Or.first c.in-Or.second c.in-Or.is, ← c.get-in-Or.ensures)
    (AppendsFront-after _ _ _ c.in_ok-put_bytes-in-Or.ensures.ok
    (AppendsFront-after _ _ _ c.in_ok-put_words-in-Or.ensures.ok (AppendsFront-more _ c.in_err-put_bytes-in-Or-2.ensures.err))) in
    OnErr-from _ front

pub returns-in_ok-put_bytes-in-Or-2-clause-ok : goal.returns-in_ok-put_bytes-in-Or-2-clause-ok
returns-in_ok-put_bytes-in-Or-2-clause-ok t c =
    on_ok_weaker c.put_words-in-Or-2.result (λ last.
    rw (written-Or c.args.p.now c.in-Or.first c.in-Or.second c.in-Or.is, ← c.get-in-Or.ensures, ← c.get-in-Or-2.ensures)
    (appended-four _ _ _ _ _ _ _ _ _ c.in_ok-put_bytes-in-Or.ensures.ok c.in_ok-put_words-in-Or.ensures.ok c.in_ok-put_bytes-in-Or-2.ensures.ok last)) c.put_words-in-Or-2.ensures.ok

pub returns-in_ok-put_bytes-in-Or-2-clause-err : goal.returns-in_ok-put_bytes-in-Or-2-clause-err
returns-in_ok-put_bytes-in-Or-2-clause-err t c =
    on_err_weaker c.put_words-in-Or-2.result (λ last.
    rw (written-Or c.args.p.now c.in-Or.first c.in-Or.second c.in-Or.is, ← c.get-in-Or.ensures, ← c.get-in-Or-2.ensures)
    (AppendsFront-after _ _ _ c.in_ok-put_bytes-in-Or.ensures.ok
    (AppendsFront-after _ _ _ c.in_ok-put_words-in-Or.ensures.ok (AppendsFront-after _ _ _ c.in_ok-put_bytes-in-Or-2.ensures.ok last)))) c.put_words-in-Or-2.ensures.err

use Rattle.std.proofs.Common.{◌∷◌, drop, ap, sym, ◌∙◌}
use Rattle.np_lines.specs.Skipping.{is_skipped}
use Rattle.np_lines.proofs.SkippedLines.{words_by_places}
use Rattle.np_lines.proofs.skipping.first_word.Goals as goal

pub returns-in_err-first-clause-skipped : goal.returns-in_err-first-clause-skipped
returns-in_err-first-clause-skipped c =
    let none = words_by_places c.args.line.now c.words.result _ c.words.ensures.all c.in_err-first.ensures.steps.0 in
    rw c.from_residual.ensures (ap (is_skipped c.args.mark) none)

pub returns-then-begins_with-clause-skipped : goal.returns-then-begins_with-clause-skipped
returns-then-begins_with-clause-skipped c =
    let split = words_by_places c.args.line.now c.words.result _ c.words.ensures.all c.in_ok-first.ensures.steps in
    ap (is_skipped c.args.mark) split ∙ sym c.begins_with.ensures ∙ c.if-begins_with.true

pub returns-clause-first : goal.returns-clause-first
returns-clause-first c =
    let split = words_by_places c.args.line.now c.words.result _ c.words.ensures.all c.in_ok-first.ensures.steps in
    split ∙ ap (λ words. c.in_ok-first.first.bytes.now ∷ drop 1 words) (sym split)

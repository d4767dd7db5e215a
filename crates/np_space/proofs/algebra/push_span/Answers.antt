use Rattle.std.proofs.Common.{sym, ap, ◌∙◌, ◌+◌}
use Rattle.np_space.specs.Block.{count_having, has_with_span}
use Rattle.np_space.specs.Flag.{flag_number, some_has}
use Rattle.np_space.proofs.AlgebraLemmas.{count_push}
use Rattle.np_space.proofs.algebra.push_span.Goals as goal

pub returns-in_ok-push-in-Some-clause-exact : goal.returns-in_ok-push-in-Some-clause-exact
returns-in_ok-push-in-Some-clause-exact c = λ h.
    ap (λ l. count_having l h) c.in_ok-push-in-Some.ensures.items
    ∙ count_push c.args.pieces.now.items c.with_span.result h
    ∙ ap (λ t. count_having c.args.pieces.now.items h + flag_number t) (c.with_span.ensures h)
    ∙ sym (ap (λ o. count_having c.args.pieces.now.items h + flag_number (some_has (λ s. has_with_span c.args.field s c.args.whole.now) o h)) c.in-Some.is)

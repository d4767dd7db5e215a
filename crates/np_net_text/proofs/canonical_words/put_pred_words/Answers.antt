use Rattle.std.proofs.Common.{◌++◌, ◌∷◌, [], ◌∙◌, ap, append_assoc}
use Rattle.std.proofs.lemmas.Result.{on_ok_weaker}
use Rattle.np_pred.specs.Canonical.{pred_text}
use Rattle.np_net_text.proofs.CanonicalLaws.{spaced_pred}
use Rattle.np_net_text.proofs.canonical_words.put_pred_words.Goals as goal

pub returns : goal.returns
returns c =
    on_ok_weaker c.put_pred.result (λ last.
    rw (spaced_pred c.args.pred.now) (last ∙ ap (λ l. l ++ pred_text c.args.pred.now) c.in_ok-push.ensures.items ∙ append_assoc c.args.out.now.items (32 ∷ []) (pred_text c.args.pred.now))) c.put_pred.ensures.ok

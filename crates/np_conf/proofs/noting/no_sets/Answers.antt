use Rattle.std.proofs.Common.{◌∙◌, ◌++◌, ◌∷◌, [], None, ap}
use Rattle.std.proofs.lemmas.List.{replicate-append-replicate}
use Rattle.np_conf.proofs.noting.no_sets.Goals as goal

pub loop-preserved : goal.loop-preserved
loop-preserved c = c.in_ok-push.ensures.items ∙ ap (λ places. places ++ None ∷ []) c.loop.invariant ∙ replicate-append-replicate c.loop.counter 1 None

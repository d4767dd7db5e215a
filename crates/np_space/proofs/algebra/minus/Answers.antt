use Rattle.std.proofs.Common.{[], ◌∷◌, ◌++◌, sym, ap, ◌∙◌}
use Rattle.np_space.specs.Block.{count_having}
use Rattle.np_space.proofs.AlgebraLemmas.{if_ok, count_difference, count_alone, difference_together, difference_disjoint, difference_empty}
use Rattle.np_space.proofs.algebra.minus.Goals as goal

pub returns-in-Some-clause-once : goal.returns-in-Some-clause-once
returns-in-Some-clause-once c =
    if_ok c.outside.result (λ v moved. count_difference c.args.x.now c.args.y.now c.in-Some.common v.items c.in-Some.ensures.exact moved) c.outside.ensures.exact

pub returns-in-Some-clause-together : goal.returns-in-Some-clause-together
returns-in-Some-clause-together c =
    if_ok c.outside.result (λ v once. difference_together c.args.x.now c.args.y.now v.items once) (returns-in-Some-clause-once c)

pub returns-in-Some-clause-disjoint : goal.returns-in-Some-clause-disjoint
returns-in-Some-clause-disjoint c =
    if_ok c.outside.result (λ v once. difference_disjoint c.args.x.now c.args.y.now v.items once) (returns-in-Some-clause-once c)

pub returns-in-Some-clause-empty : goal.returns-in-Some-clause-empty
returns-in-Some-clause-empty c =
    if_ok c.outside.result (λ v once. difference_empty c.args.x.now c.args.y.now v.items once) (returns-in-Some-clause-once c)

pub returns-in_ok-push-in-None-clause-once : goal.returns-in_ok-push-in-None-clause-once
returns-in_ok-push-in-None-clause-once c = λ h.
    ap (λ l. count_having l h) (c.in_ok-push-in-None.ensures.items ∙ ap (λ l. l ++ c.args.x.now ∷ []) c.new-pieces.ensures.items)
    ∙ count_alone c.args.x.now c.args.y.now (λ g. sym (c.in-None.ensures.exact g)) h

pub returns-in_ok-push-in-None-clause-empty : goal.returns-in_ok-push-in-None-clause-empty
returns-in_ok-push-in-None-clause-empty c =
    difference_empty c.args.x.now c.args.y.now c.push.new.self.items (returns-in_ok-push-in-None-clause-once c)

use Rattle.std.proofs.Common.{ℕ, ◌∷◌, List}
use Rattle.std.specs.List.{flat_map}
use Rattle.np_space.specs.declared.patterns.Ternary.{Ternary}
use Rattle.np_text.specs.Appending.{AppendsFront}
use Rattle.np_text.proofs.AppendLaws.{AppendsFront-more, AppendsFront-after, OnErr-from}
use Rattle.np_pred.specs.Patterns.{prefix_text}
use Rattle.np_pred.proofs.PatternLaws.{flat_map-split}
use Rattle.np_pred.proofs.address_lists.put_next_prefixes.Goals as goal

pub returns-in_err-put_next_prefix-clause-err : goal.returns-in_err-put_next_prefix-clause-err
returns-in_err-put_next_prefix-clause-err c =
    let f : Ternary → List ℕ = λ p. 44 ∷ prefix_text p in
    let front : AppendsFront c.args.out.now.items c.put_next_prefix.new.out.items (flat_map (λ p. 44 ∷ prefix_text p) c.args.patterns.now) =
    rw (flat_map-split f c.args.patterns.now c.loop-pattern.pattern-index c.pattern-item.result c.loop-pattern-test.true c.pattern-item.is)
    (AppendsFront-after _ _ _ c.loop-pattern.invariant (AppendsFront-more _ c.in_err-put_next_prefix.ensures.err)) in
    OnErr-from _ front

use Rattle.std.proofs.Common.{[], ◌∷◌}
use Rattle.np_space.specs.Patterns.{any_address}
use Rattle.np_space.proofs.valid.block_anywhere.Goals as goal

pub returns : goal.returns
unfolding any_address
returns c =
    let any = c.any-any.ensures.is in
    (λ i.
    (any i).value ∷ (any i).wild ∷ (any i).value ∷ (any i).wild ∷ c.from.ensures i ∷ c.from-2.ensures i
    ∷ 0 ∷ c.args.most ∷ 0 ∷ c.args.most ∷ 0 ∷ c.args.flags ∷ 0 ∷ 63 ∷ [])

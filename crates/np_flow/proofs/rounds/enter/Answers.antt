use Rattle.std.proofs.Common.{◌∙◌, ap, get_or, []}
use Rattle.np_flow.proofs.JoinLaws.{adds_same}
use Rattle.np_flow.proofs.rounds.enter.Goals as goal

pub returns-clause-adds : goal.returns-clause-adds
returns-clause-adds c =
    adds_same _ _ _ _ _ _ c.args.devices.now c.join_at.new.sets c.device_of.ensures c.set_at.ensures
    (c.set_at-2.ensures ∙ ap (λ k. get_or c.args.areas.now k []) c.area_of.ensures) c.join_at.ensures.adds

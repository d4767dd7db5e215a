use Rattle.std.proofs.Common.{◌≡◌, ◌*◌, ◌<◌, length, arith, sym, ◌∙◌}
use Rattle.np_net.specs.Path as path
use Rattle.np_flow.proofs.JoinLaws.{join_adds_at}
use Rattle.np_flow.proofs.rounds.begin.Goals as goal

pub returns-then-area_of-from : goal.returns-then-area_of-from
returns-then-area_of-from c =
    let slot : 2 * c.args.n < length c.args.slots.now = omega arith in
    let here : path.area_of c.args.interfaces.now c.args.n ≡ c.args.from = sym c.area_of.ensures ∙ c.if-area_of-from.true in
    join_adds_at _ (path.area_of c.args.interfaces.now c.args.n ≡ c.args.from) c.args.slots.now c.args.devices.now (2 * c.args.n) c.device_of-inside.result _ _
    c.set_at.result.now c.join_with.new.self c.requires.widths c.requires.devices slot (omega arith) c.device_of-inside.ensures c.set_at.ensures here
    c.join_with.ensures.all

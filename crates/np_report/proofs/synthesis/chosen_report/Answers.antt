use Rattle.std.proofs.Common.{◌≡◌, ◌^◌, ◌<◌, length, ap, arith}
use Rattle.std.proofs.lemmas.List.Elements.{All-same}
use Rattle.np_net.specs.Plan.{Plan}
use Rattle.np_report.specs.Drops.{IsWritable}
use Rattle.np_report.proofs.DropLaws.{drops_writable}
use Rattle.np_report.proofs.SynthesisLaws.{chosen_made}
use Rattle.np_report.proofs.synthesis.chosen_report.Goals as goal

pub put_slots-requires-clause-drops : goal.put_slots-requires-clause-drops
put_slots-requires-clause-drops c =
    let atoms : length c.args.leasts.now < 2 ^ 64 = omega arith in
    let same : length c.net.inside.goals ≡ length c.args.net.now.goals = ap (λ (net : Plan). length net.goals) c.net.view_is in
    let goals : length c.args.net.now.goals < 2 ^ 64 = omega (arith, c.net.invariant.limits.goals) in
    All-same (IsWritable c.args.net.now.interfaces) _ _ c.as_slice-2.ensures
    (drops_writable c.args.net.now.interfaces (length c.args.leasts.now) (length c.args.net.now.goals) c.args.chosen.now.dropped atoms goals c.requires.order)

pub returns : goal.returns
returns c =
    chosen_made c.args.net.now c.args.leasts.now c.args.chosen.now.posture.slots _ c.args.chosen.now.dropped _ _ _ _ _ _
    c.as_slice.ensures c.as_slice-2.ensures
    c.new-text.ensures.items c.in_ok-put_count.ensures c.in_ok-put_leasts.ensures c.in_ok-put_slots.ensures c.in_ok-extend_from_slice.ensures.items

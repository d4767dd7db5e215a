use Rattle.std.proofs.Common.{◌==◌}
use Rattle.std.proofs.lemmas.List.Elements.{All-filter, All-same}
use Rattle.np_synth.specs.declared.chosen.Dropped.{Dropped}
use Rattle.np_report.specs.Drops.{IsWritable}
use Rattle.np_report.proofs.synthesis.put_slots.Goals as goal

pub put_if_free-requires-clause-drops : goal.put_if_free-requires-clause-drops
put_if_free-requires-clause-drops c =
    All-same (IsWritable c.args.net.now.interfaces) _ _ c.drops_of-here.ensures.drops
    (All-filter (λ (d : Dropped). d.slot == c.loop-slot.slot) (IsWritable c.args.net.now.interfaces) c.args.drops.now c.requires.drops)

use Rattle.std.proofs.Common.{◌≡◌, map}
use Rattle.std.specs.List.{range_with_len}
use Rattle.np_cut.specs.Applying.{slot_key}
use Rattle.np_cut.proofs.keys.keys_of_slots.Given as goal

abbrev pub invariant-loop-slot : goal.invariant-loop-slot
invariant-loop-slot l = l.keys.items ≡ map (slot_key l.interfaces l.configs) (range_with_len 0 l.slot)

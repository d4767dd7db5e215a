use Rattle.std.proofs.Common.{[], ◌∷◌, ◌++◌, sym, ◌∙◌, arith}
use Rattle.std.proofs.lemmas.List.FromFn.{map-range_with_len_more}
use Rattle.np_cut.specs.Applying.{slot_key}
use Rattle.np_cut.proofs.keys.keys_of_slots.Goals as goal

pub loop-slot-preserved : goal.loop-slot-preserved
loop-slot-preserved c =
    c.in_ok-push.ensures.items
    ∙ (λ i. c.loop-slot.invariant i ++ c.in_ok-key_of_slot.ensures i ∷ [])
    ∙ sym (map-range_with_len_more (slot_key c.args.interfaces.now c.args.configs.now) 0 c.loop-slot.slot c.loop-slot.slot (omega arith))

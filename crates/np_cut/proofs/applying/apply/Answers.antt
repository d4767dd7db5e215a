use Rattle.std.proofs.Common.{◌≡◌, ◌∙◌, ◌*◌, length, ap, map, subst, sym, IfOk}
use Rattle.std.specs.List.{range_with_len}
use Rattle.np_net.specs.Network.{IsNetwork}
use Rattle.np_cut.specs.Applying.{AreThere, applied_by_keys, slot_key}
use Rattle.np_cut.specs.AppliedLists.{AppliedLists}
use Rattle.np_cut.proofs.ApplyLaws.{devices_by_result, lets_by_result, once_by_result, slots_by_result, slots_there}
use Rattle.np_cut.proofs.applying.apply.Goals as goal

pub applied_with-requires : goal.applied_with-requires
applied_with-requires c =
    let interfaces = c.as_slice.ensures ∙ ap (λ n. n.interfaces) c.net.view_is in
    let slots = c.len.ensures ∙ c.net.invariant.free ∙ ap (λ n. 2 * length n.interfaces) c.net.view_is in
    let keys = c.as_slice-2.ensures.value ∙ c.in_ok-keys.ensures ∙ (λ i. map (slot_key (interfaces i) c.args.configs.now) (range_with_len 0 (slots i))) in
    subst (λ ks. AreThere c.args.configs.now ks) (sym keys) (slots_there c.args.net.now.interfaces c.args.configs.now)

pub returns-clause-made : goal.returns-clause-made
returns-clause-made c =
    let interfaces = c.as_slice.ensures ∙ ap (λ n. n.interfaces) c.net.view_is in
    let slots = c.len.ensures ∙ c.net.invariant.free ∙ ap (λ n. 2 * length n.interfaces) c.net.view_is in
    let keys = c.as_slice-2.ensures.value ∙ c.in_ok-keys.ensures ∙ (λ i. map (slot_key (interfaces i) c.args.configs.now) (range_with_len 0 (slots i))) in
    subst (λ (p : AppliedLists). IfOk c.applied_with.result (λ applied. applied ≡ p)) (λ i. applied_by_keys c.args.configs.now (keys i)) c.applied_with.ensures

pub returns-clause-lets : goal.returns-clause-lets
returns-clause-lets c = lets_by_result c.args.net.now.interfaces c.args.configs.now c.applied_with.result (returns-clause-made c)

pub returns-clause-devices : goal.returns-clause-devices
returns-clause-devices c = devices_by_result c.args.net.now c.args.configs.now (subst (λ n. IsNetwork n) c.net.view_is c.net.invariant) c.applied_with.result (returns-clause-made c)

pub returns-clause-once : goal.returns-clause-once
returns-clause-once c = once_by_result c.args.net.now.interfaces c.args.configs.now c.applied_with.result (returns-clause-made c)

pub returns-clause-slots : goal.returns-clause-slots
returns-clause-slots c = slots_by_result c.args.net.now.interfaces c.args.configs.now c.applied_with.result (returns-clause-made c)

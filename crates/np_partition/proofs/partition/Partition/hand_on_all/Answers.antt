use Rattle.std.proofs.Common.{◌≡◌, ◌-◌, ◌+◌, ℕ, subst, sym, arith}
use Rattle.np_space.specs.declared.headers.Header.{Header}
use Rattle.np_partition.specs.Least.{IsOffered, AreHandedOn}
use Rattle.np_partition.proofs.LeastLaws.{starts_at_root, all_arrived}
use Rattle.np_partition.proofs.partition.Partition.hand_on_all.Goals as goal

pub loop-at-init : goal.loop-at-init
loop-at-init c =
    let offered = subst (λ (x : Header). IsOffered c.args.self.now.root x c.args.places.now c.offer.new.slots) c.zeros.ensures c.offer.ensures in
    let all = starts_at_root c.args.self.now c.args.places.now c.offer.new.slots c.args.leasts.now c.requires.there c.requires.places c.requires.leasts offered in
    (omega arith, subst (λ (n : ℕ). AreHandedOn c.args.self.now n c.offer.new.slots c.args.leasts.now) (sym c.len-at.ensures) all)

pub hand_on-requires-clause-handed : goal.hand_on-requires-clause-handed
hand_on-requires-clause-handed c =
    let next : c.loop-at.at ≡ 1 + (c.loop-at.at - 1) = omega arith in
    subst (λ (n : ℕ). AreHandedOn c.args.self.now n c.loop-at.places c.loop-at.leasts) next c.loop-at.invariant.1

pub returns : goal.returns
returns c =
    let first : c.loop-at.at ≡ 0 = omega arith in
    all_arrived c.args.self.now c.loop-at.places c.loop-at.leasts (subst (λ (n : ℕ). AreHandedOn c.args.self.now n c.loop-at.places c.loop-at.leasts) first c.loop-at.invariant.1)

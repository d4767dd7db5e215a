use Rattle.std.proofs.Common.{rules, ◌≡◌, ◌++◌, ℕ, List, Option, length, take, drop, sym, ◌∙◌, ap, subst, arith}
use Rattle.std.proofs.Math.Seq.{take-append_seam}
use Rattle.np_space.specs.declared.headers.Header.{Header}
use Rattle.np_partition.specs.Partition.{AreLeastMembers}
use Rattle.np_partition.specs.Least.{AreFree}
use Rattle.np_partition.proofs.LeastLaws.{free_slots}
use Rattle.np_partition.proofs.partition.Partition.least_members.Goals as goal

pub hand_on_all-requires-clause-places : goal.hand_on_all-requires-clause-places
hand_on_all-requires-clause-places c =
    let made = c.as_mut_slice.ensures.value ∙ c.in_ok-places.ensures.items_if_clones_equal (search rules) in
    subst (λ (n : ℕ). AreFree n c.as_mut_slice.result.now) c.len.ensures (subst (λ (slots : List (Option Header)). AreFree c.len.result slots) (sym made) (free_slots c.len.result))

pub hand_on_all-requires-clause-leasts : goal.hand_on_all-requires-clause-leasts
hand_on_all-requires-clause-leasts c =
    let made = c.as_mut_slice-2.ensures.value ∙ c.in_ok-leasts.ensures.items_if_clones_equal (search rules) in
    subst (λ (slots : List (Option Header)). AreFree c.args.self.now.classes slots) (sym made) (free_slots c.args.self.now.classes)

pub returns : goal.returns
returns c =
    let count : c.in_ok-leasts.leasts.len ≡ length c.hand_on_all.new.leasts = omega (arith, c.hand_on_all.ensures.count, c.in_ok-leasts.ensures.len) in
    let more = drop (length c.hand_on_all.new.leasts) c.in_ok-leasts.leasts.items in
    let written : c.from_vec.result ≡ c.hand_on_all.new.leasts =
    c.from_vec.ensures ∙ ap (λ (n : ℕ). take n (c.hand_on_all.new.leasts ++ more)) count ∙ take-append_seam c.hand_on_all.new.leasts more in
    subst (λ (leasts : List (Option Header)). AreLeastMembers c.args.self.now leasts) (sym written) c.hand_on_all.ensures

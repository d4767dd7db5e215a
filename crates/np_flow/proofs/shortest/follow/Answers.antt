use Rattle.std.proofs.Common.{◌≡◌, ◌≤◌, ◌++◌, ◌∷◌, [], List, ℕ, suc, Some, true, false, refl, sym, ap, subst, arith}
use Rattle.np_net.specs.Path as path
use Rattle.np_flow.specs.Postures.{lets_atom}
use Rattle.np_flow.specs.Carrying.{IsFirstPath}
use Rattle.np_flow.specs.Distances.{distance_at, hops_left, way_in}
use Rattle.np_flow.proofs.PathLaws.{AreSoFar, so_far_more, so_far_all, fewer_left, reaches_none}
use Rattle.np_flow.proofs.shortest.follow.Goals as goal

pub returns-in-None-clause-none : goal.returns-in-None-clause-none
returns-in-None-clause-none c = (
  λ none r. reaches_none c.args.interfaces.now (lets_atom c.args.slots.now c.args.atom) c.args.to c.args.distances.now c.requires.distances c.hops.area
      c.in-None.ensures.none (c.hops.invariant.on r),
  λ none. refl,
)

pub returns-then-area-to-clause-some : goal.returns-then-area-to-clause-some
returns-then-area-to-clause-some c =
    let lets = lets_atom c.args.slots.now c.args.atom in
    let here : path.area_of c.args.interfaces.now c.in-Some.outward ≡ c.args.to = subst (λ a. a ≡ c.args.to) c.area_of-area.ensures c.if-area-to.true in
    subst (λ (xs : List (ℕ × ℕ)). IsFirstPath c.args.interfaces.now lets c.args.from xs c.args.to) (sym c.in_ok-push-in-Some.ensures.ok)
    (so_far_all c.args.interfaces.now lets c.args.from c.args.to c.args.distances.now c.requires.distances c.hops.hops c.hops.area
    c.in-Some.field-0-0 c.in-Some.inward c.in-Some.outward c.hops.invariant c.in-Some.ensures.next here)

pub returns-then-area-to-clause-none : goal.returns-then-area-to-clause-none
returns-then-area-to-clause-none c =
    let first = returns-then-area-to-clause-some c in (
      λ no r. let e : true ≡ false = no in cc,
      λ none. absurd (none (record { hops = c.push.new.self; carries = first.carries })),
    )

pub hops-smaller : goal.hops-smaller
hops-smaller c =
    let lets = lets_atom c.args.slots.now c.args.atom in
    let there : distance_at c.args.distances.now c.area_of-area.result ≡ Some c.in-Some.field-0-0 =
    subst (λ a. distance_at c.args.distances.now a ≡ Some c.in-Some.field-0-0) (sym c.area_of-area.ensures) c.in-Some.ensures.next.hop.ends in
    let left : hops_left (way_in c.args.interfaces.now lets c.args.distances.now c.area_of-area.result) ≤ c.in-Some.field-0-0 =
    fewer_left c.args.interfaces.now lets c.args.to c.args.distances.now c.requires.distances c.area_of-area.result c.in-Some.field-0-0 there c.if-area-to.false in
    let were : hops_left (way_in c.args.interfaces.now lets c.args.distances.now c.hops.area) ≡ suc c.in-Some.field-0-0 =
    ap hops_left c.in-Some.ensures.way in
    omega arith

pub hops-preserved : goal.hops-preserved
hops-preserved c =
    let interfaces = c.args.interfaces.now in
    let lets = lets_atom c.args.slots.now c.args.atom in
    let more = so_far_more interfaces lets c.args.from c.args.to c.args.distances.now c.requires.distances c.hops.hops c.hops.area
    c.in-Some.field-0-0 c.in-Some.inward c.in-Some.outward c.hops.invariant c.in-Some.ensures.next
    (λ e. c.if-area-to.false (subst (λ a. a ≡ c.args.to) (sym c.area_of-area.ensures) e)) in
    let there = subst (λ a. AreSoFar interfaces lets c.args.from c.args.to (c.hops.hops ++ (c.in-Some.inward, c.in-Some.outward) ∷ []) a)
    (sym c.area_of-area.ensures) more in
    subst (λ (xs : List (ℕ × ℕ)). AreSoFar interfaces lets c.args.from c.args.to xs c.area_of-area.result) (sym c.in_ok-push-in-Some.ensures.ok) there

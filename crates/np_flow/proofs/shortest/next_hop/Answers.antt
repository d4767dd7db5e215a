use Rattle.std.proofs.Common.{◌≡◌, ◌∙◌, ℕ, Some, None, sym, ap}
use Rattle.np_net.specs.Path as path
use Rattle.np_flow.specs.Postures.{lets_atom}
use Rattle.np_flow.specs.Distances as spec
use Rattle.np_flow.proofs.HopLaws.{no_hop, way_through, same_way, next_is}
use Rattle.np_flow.proofs.shortest.next_hop.Goals as goal

pub device_of-requires : goal.device_of-requires
device_of-requires c =
    let lets = lets_atom c.args.slots.now c.args.atom in
    let way : spec.way_in c.args.interfaces.now lets c.args.distances.now c.args.area ≡ Some (c.in-Some.field-0-0, c.in-Some.inward) = sym c.way_in.ensures ∙ c.in-Some.is in
    (way_through c.args.interfaces.now lets c.args.distances.now c.args.area (c.in-Some.field-0-0, c.in-Some.inward) way).0

pub returns-in-None-clause-none : goal.returns-in-None-clause-none
returns-in-None-clause-none c =
    no_hop c.args.interfaces.now (lets_atom c.args.slots.now c.args.atom) c.args.distances.now c.args.area (sym c.way_in.ensures ∙ c.in-None.is)

pub returns-in-None-way_out-clause-none : goal.returns-in-None-way_out-clause-none
returns-in-None-way_out-clause-none c =
    let lets = lets_atom c.args.slots.now c.args.atom in
    let way : spec.way_in c.args.interfaces.now lets c.args.distances.now c.args.area ≡ Some (c.in-Some.field-0-0, c.in-Some.inward) = sym c.way_in.ensures ∙ c.in-Some.is in
    let out : spec.way_out c.args.interfaces.now lets c.args.distances.now (path.device_of c.args.interfaces.now c.in-Some.inward) ≡ None =
    ap (λ d. spec.way_out c.args.interfaces.now lets c.args.distances.now d) (sym c.device_of.ensures) ∙ sym c.way_out.ensures ∙ c.in-None-way_out.is in
    let through : (n : ℕ) × (spec.way_out c.args.interfaces.now lets c.args.distances.now (path.device_of c.args.interfaces.now c.in-Some.inward) ≡ Some (c.in-Some.field-0-0, n)) =
    (way_through c.args.interfaces.now lets c.args.distances.now c.args.area (c.in-Some.field-0-0, c.in-Some.inward) way).1 in
    let no = sym out ∙ through.1 in
    λ m hop to. cc

pub returns-in-Some-way_out-clause-next : goal.returns-in-Some-way_out-clause-next
returns-in-Some-way_out-clause-next c =
    let lets = lets_atom c.args.slots.now c.args.atom in
    let way : spec.way_in c.args.interfaces.now lets c.args.distances.now c.args.area ≡ Some (c.in-Some.field-0-0, c.in-Some.inward) = sym c.way_in.ensures ∙ c.in-Some.is in
    let out : spec.way_out c.args.interfaces.now lets c.args.distances.now (path.device_of c.args.interfaces.now c.in-Some.inward) ≡ Some (c.in-Some-way_out.m, c.in-Some-way_out.outward) =
    ap (λ d. spec.way_out c.args.interfaces.now lets c.args.distances.now d) (sym c.device_of.ensures) ∙ sym c.way_out.ensures ∙ c.in-Some-way_out.is in
    next_is c.args.interfaces.now lets c.args.distances.now c.args.area (c.in-Some.field-0-0, c.in-Some.inward) (c.in-Some-way_out.m, c.in-Some-way_out.outward) way out

pub returns-in-Some-way_out-clause-way : goal.returns-in-Some-way_out-clause-way
returns-in-Some-way_out-clause-way c =
    let lets = lets_atom c.args.slots.now c.args.atom in
    let way : spec.way_in c.args.interfaces.now lets c.args.distances.now c.args.area ≡ Some (c.in-Some.field-0-0, c.in-Some.inward) = sym c.way_in.ensures ∙ c.in-Some.is in
    let out : spec.way_out c.args.interfaces.now lets c.args.distances.now (path.device_of c.args.interfaces.now c.in-Some.inward) ≡ Some (c.in-Some-way_out.m, c.in-Some-way_out.outward) =
    ap (λ d. spec.way_out c.args.interfaces.now lets c.args.distances.now d) (sym c.device_of.ensures) ∙ sym c.way_out.ensures ∙ c.in-Some-way_out.is in
    let same : c.in-Some-way_out.m ≡ c.in-Some.field-0-0 =
    same_way c.args.interfaces.now lets c.args.distances.now c.args.area (c.in-Some.field-0-0, c.in-Some.inward) (c.in-Some-way_out.m, c.in-Some-way_out.outward) way out in
    way ∙ ap (λ k. Some (k, c.in-Some.inward)) (sym same)

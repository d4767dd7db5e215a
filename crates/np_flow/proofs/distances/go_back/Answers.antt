use Rattle.std.proofs.Common.{◌<◌, ◌≤◌, List, Bool, length, subst, sym, arith}
use Rattle.np_flow.specs.Postures.{lets_atom}
use Rattle.np_flow.specs.Distances.{unknown, AreExits}
use Rattle.np_flow.proofs.DistanceLaws.{known_next, known_last, unknown-most}
use Rattle.np_flow.proofs.distances.go_back.Goals as goal

pub rounds-init : goal.rounds-init
rounds-init c =
    let most : unknown c.args.distances.now ≤ length c.args.distances.now = unknown-most c.args.distances.now in
    record { known = c.requires.known; room = omega arith }

pub rounds-preserved : goal.rounds-preserved
rounds-preserved c =
    let lets = lets_atom c.args.slots.now c.args.atom in
    let exits = subst (λ (d : List Bool). AreExits c.args.interfaces.now lets c.rounds.distances c.rounds.near (length c.args.interfaces.now) d)
    (sym c.as_slice.ensures.value) c.in_ok-marks.ensures.exits in
    let fewer : unknown c.approach_all-grew.new.distances < unknown c.rounds.distances = c.if-not-grew.ensures.grew in
    record {
      known = known_next c.args.interfaces.now lets c.args.to c.rounds.near c.rounds.distances c.approach_all-grew.new.distances c.as_slice.result.now
          c.rounds.invariant.known exits c.approach_all-grew.ensures.nearer;
      room = omega arith;
    }

pub returns-then-not-grew : goal.returns-then-not-grew
returns-then-not-grew c =
    let lets = lets_atom c.args.slots.now c.args.atom in
    let exits = subst (λ (d : List Bool). AreExits c.args.interfaces.now lets c.rounds.distances c.rounds.near (length c.args.interfaces.now) d)
    (sym c.as_slice.ensures.value) c.in_ok-marks.ensures.exits in
    let next = known_next c.args.interfaces.now lets c.args.to c.rounds.near c.rounds.distances c.approach_all-grew.new.distances c.as_slice.result.now
    c.rounds.invariant.known exits c.approach_all-grew.ensures.nearer in
    known_last c.args.interfaces.now lets c.args.to c.rounds.near c.rounds.distances c.approach_all-grew.new.distances
    c.rounds.invariant.known next c.if-not-grew.ensures.same

use Rattle.std.proofs.Common.{◌≡◌, ◌*◌, ◌<◌, ◌≤◌, List, Bool, true, length, replicate, subst, sym, arith, ap, ◌∙◌}
use Rattle.np_flow.specs.Postures.{atom_count}
use Rattle.np_net.specs.Path.{device_of, area_of}
use Rattle.np_flow.specs.Spread.{total, Leaves, AreDone}
use Rattle.np_flow.proofs.JoinLaws.{total-bound}
use Rattle.np_flow.proofs.SpreadLaws.{entered_first, entered_next, done_first, done_entering, done_leaving, reached_none, reached_next, reached_all}
use Rattle.np_flow.proofs.rounds.spread.Goals as goal

pub rounds-init : goal.rounds-init
rounds-init c = record {
  devices = c.begin_all.ensures.widths _ c.requires.devices;
  areas = c.requires.areas;
  entered = entered_first c.args.interfaces.now c.args.slots.now c.args.from c.args.areas.now c.args.devices.now _ c.requires.no_areas c.requires.no_devices c.begin_all.ensures;
  done = subst (λ (marks : List Bool). AreDone (Leaves c.args.interfaces.now c.args.slots.now c.begin_all.new.devices) (device_of c.args.interfaces.now) (area_of c.args.interfaces.now) (length c.args.interfaces.now) marks c.args.areas.now)
      (sym c.requires.fresh_devices)
      (done_first c.args.interfaces.now c.args.slots.now c.args.areas.now c.begin_all.new.devices (length c.args.devices.now) (λ n lt. (c.requires.within n lt).0));
  sound = reached_none c.args.interfaces.now c.args.slots.now c.args.from c.args.areas.now c.requires.no_areas;
}

pub enter_all-requires-clause-areas : goal.enter_all-requires-clause-areas
enter_all-requires-clause-areas c = c.leave_all.ensures.added.widths _ c.rounds.invariant.areas

pub enter_all-requires-clause-done : goal.enter_all-requires-clause-done
enter_all-requires-clause-done c =
    done_entering c.args.interfaces.now c.args.slots.now c.args.from c.rounds.areas c.leave_all.new.areas c.rounds.devices c.leave_all.new.fresh_areas
    c.rounds.invariant.entered c.leave_all.ensures.marked

pub rounds-smaller : goal.rounds-smaller
rounds-smaller c =
    let w = atom_count c.args.slots.now in
    let same : length c.leave_all.new.areas ≡ length c.args.areas.now = c.leave_all.auto.areas ∙ c.rounds.auto.areas in
    let area : length c.leave_all.new.areas * w ≡ length c.args.areas.now * w = ap (λ n. n * w) same in
    let most : total c.leave_all.new.areas ≤ length c.leave_all.new.areas * w =
    total-bound w c.leave_all.new.areas (c.leave_all.ensures.added.widths w c.rounds.invariant.areas) in
    let more : total c.rounds.areas < total c.leave_all.new.areas = c.rounds-test.ensures.grew in
    omega arith

pub rounds-preserved : goal.rounds-preserved
rounds-preserved c = record {
  devices = c.enter_all.ensures.added.widths _ c.rounds.invariant.devices;
  areas = c.leave_all.ensures.added.widths _ c.rounds.invariant.areas;
  entered = entered_next c.args.interfaces.now c.args.slots.now c.args.from c.rounds.areas c.leave_all.new.areas c.rounds.devices c.enter_all.new.devices
      c.rounds.invariant.entered c.leave_all.ensures.added c.enter_all.ensures.added;
  done = done_leaving c.args.interfaces.now c.args.slots.now c.rounds.areas c.leave_all.new.areas c.rounds.devices c.enter_all.new.devices c.enter_all.new.fresh_devices
      c.leave_all.ensures.added c.enter_all.ensures.marked;
  sound = reached_next c.args.interfaces.now c.args.slots.now c.args.from c.rounds.areas c.leave_all.new.areas c.rounds.devices
      c.rounds.invariant.entered c.leave_all.ensures.added c.rounds.invariant.sound;
}

pub returns-clause-complete : goal.returns-clause-complete
returns-clause-complete c =
    reached_all c.args.interfaces.now c.args.slots.now c.args.from c.rounds.areas c.leave_all.new.areas c.rounds.devices
    c.rounds.invariant.entered c.leave_all.ensures.added c.rounds-test.ensures.same

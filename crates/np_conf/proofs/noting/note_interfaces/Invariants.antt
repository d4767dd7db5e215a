use Rattle.np_conf.specs.Outlets.{AreAroundTo, AreWaysTo}
use Rattle.np_conf.proofs.noting.note_interfaces.Given as goal

-- the interfaces so far are noted
abbrev pub invariant-loop-i : goal.invariant-loop-i
invariant-loop-i l = AreWaysTo l.net l.headers l.i l.ways × AreAroundTo l.net l.headers l.i 0 l.around

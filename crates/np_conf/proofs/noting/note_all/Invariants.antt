use Rattle.np_conf.specs.Outlets.{AreAroundTo, AreBareTo}
use Rattle.np_conf.proofs.noting.note_all.Given as goal

-- the headers so far are noted
abbrev pub invariant-loop-n : goal.invariant-loop-n
invariant-loop-n l = AreBareTo l.net l.headers l.i l.n l.bare × AreAroundTo l.net l.headers l.i l.n l.around

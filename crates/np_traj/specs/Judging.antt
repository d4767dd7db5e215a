-- What is judged: refused for a reason, or not.
use Rattle.std.specs.Prelude.{Option, Some, None, Result, Ok, Err}
use Rattle.np_traj.specs.declared.states.Illegal.{Illegal}

-- the value, unless it is refused
abbrev pub judged : {X : Type 0} → Option Illegal → X → Result X Illegal
judged None x = Ok x
judged (Some why) x = Err why

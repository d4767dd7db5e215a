use Rattle.std.proofs.Common.{◌≡◌, map, take}
use Rattle.np_goals.specs.Making.{crossing_set}
use Rattle.np_goals.proofs.cases.crossings.Given as goal

-- those of the slots so far
abbrev pub invariant-loop-place : goal.invariant-loop-place
invariant-loop-place l = l.slots ≡ map (crossing_set l.cuts l.atoms) (take l.place-index l.places)

-- Scripts that name what a network has.
use Rattle.std.specs.Prelude.{◌<◌, List, length}
use Rattle.std.specs.List.{AllByRecursion}
use Rattle.np_net.specs.Plan.{Plan}
use Rattle.np_ipsec.specs.declared.places.Motion.{Motion}
use Rattle.np_ipsec.specs.declared.places.Motion.TheVariants as motions
use Rattle.np_ipsec.specs.Steps.{IsPlace}
use Rattle.np_script.specs.declared.script.Script.{Script}

-- a move names an interface or an association, if any, that the network has
abbrev pub IsMotion : Plan → Motion → Type 0
IsMotion net (motions.Enter i) = i < length net.interfaces
IsMotion net motions.Pop = Unit {0}
IsMotion net (motions.Cross j) = j < length net.interfaces
IsMotion net (motions.Push k) = k < length net.sas
IsMotion net motions.Leave = Unit {0}

-- so does each of these
pub record AreMotions (net : Plan) (moves : List Motion) : Type 0 where
  pub each : AllByRecursion (λ motion. IsMotion net motion) moves

-- a script starts at a place of the network, and its moves name what the network has
pub record Fits (net : Plan) (script : Script) : Type 0 where
  pub place : IsPlace net script.place
  pub moves : AreMotions net script.moves

-- What the checks of authentication and of confidentiality goals both ask.
use Rattle.std.specs.Prelude.{◌≡◌, ℕ, ◌<◌, true, false, length}
use Rattle.np_pred.specs.declared.predicate.Pred.{Pred}
use Rattle.np_net.specs.Path.{area_of, device_of}
use Rattle.np_net.specs.Plan.{Plan}
use Rattle.np_net.specs.declared.associations.IpGoal.{IpGoal}
use Rattle.np_net.specs.declared.associations.IpGoal.TheVariants as goals
use Rattle.np_ipsec.specs.Steps.{area_at}
use Rattle.np_ipsec.specs.Tables.{is_trusted_device}

-- the predicate of a goal
abbrev pub goal_pred : IpGoal → Pred
goal_pred (goals.Auth from at pred) = pred
goal_pred (goals.Conf from pred) = pred

-- an interface is on a trusted area and of a device that isn't trusted
pub record IsForeign (net : Plan) (i : ℕ) : Type 0 where
  pub within : i < length net.interfaces
  pub inside : (area_at net (area_of net.interfaces i)).trusted ≡ true
  pub foreign : is_trusted_device net (device_of net.interfaces i) ≡ false

-- The local rules of an authentication goal: what each interface's table has to say, so that no packet can be forged on its way.
use Rattle.std.specs.Prelude.{◌≡◌, ◌≢◌, ℕ, ◌<◌, true, false, length, Option, Some, None}
use Rattle.np_space.specs.Header.{IsValid}
use Rattle.np_space.specs.declared.headers.Header.{Header}
use Rattle.np_pred.specs.Meaning.{pred_holds}
use Rattle.np_pred.specs.declared.predicate.Pred.{Pred}
use Rattle.np_net.specs.Path.{area_of, device_of}
use Rattle.np_net.specs.Plan.{Plan}
use Rattle.np_net.specs.declared.associations.InAction.TheVariants as ins
use Rattle.np_net.specs.declared.associations.IpGoal.TheVariants as goals
use Rattle.np_ipsec.specs.Goals.{IsForeign}
use Rattle.np_ipsec.specs.Steps.{area_at, area_has}
use Rattle.np_ipsec.specs.Tables.{has_pop, in_action_of, is_sound, is_trusted_device}
use Rattle.np_ipsec.specs.Trajectories.{IsSafe}
use Rattle.np_ipsec.specs.declared.tables.Top.TheVariants as tops

-- ---- A0

-- an area is trusted
abbrev pub IsTrustedArea : Plan → ℕ → Type 0
IsTrustedArea net a = (area_at net a).trusted ≡ true

-- ---- A1

-- another trusted area has the source of a valid header of the predicate
pub record HasSourceToo (net : Plan) (from : ℕ) (pred : Pred) (a : ℕ) (h : Header) : Type 0 where
  pub within : a < length net.areas
  pub trusted : (area_at net a).trusted ≡ true
  pub other : a ≢ from
  pub valid : IsValid h
  pub meant : pred_holds pred h ≡ true
  pub source : area_has net a h ≡ true

-- ---- A2

-- a mark with which a bare packet must not pass an interface: none where the area isn't trusted, and each association that is removed there and isn't sound
abbrev pub IsForgeable : Plan → ℕ → Option ℕ → Type 0
IsForgeable net i None = (area_at net (area_of net.interfaces i)).trusted ≡ false
IsForgeable net i (Some k) = (k < length net.sas) × (has_pop net i k ≡ true) × (is_sound net k ≡ false)

-- at an interface of a trusted device a bare packet of the predicate passes with such a mark
pub record LetsForged (net : Plan) (pred : Pred) (i : ℕ) (mark : Option ℕ) (h : Header) : Type 0 where
  pub within : i < length net.interfaces
  pub trusted : is_trusted_device net (device_of net.interfaces i) ≡ true
  pub forgeable : IsForgeable net i mark
  pub valid : IsValid h
  pub meant : pred_holds pred h ≡ true
  pub passes : in_action_of net i (tops.Plain h) mark ≡ ins.Bypass

-- ---- all of them

-- the rules hold
pub record AuthRules (net : Plan) (from here : ℕ) (pred : Pred) : Type 0 where
  pub from_trusted : IsTrustedArea net from
  pub here_trusted : IsTrustedArea net here
  pub own : (i : ℕ) → IsForeign net i → ⊥
  pub sources : (a : ℕ) (h : Header) → HasSourceToo net from pred a h → ⊥
  pub discards : (i : ℕ) (mark : Option ℕ) (h : Header) → LetsForged net pred i mark h → ⊥

-- Where they hold, no state of any trajectory of any depth breaks the goal.
abbrev pub RulesAreSound : Type 0
RulesAreSound = (net : Plan) (from here : ℕ) (pred : Pred) → AuthRules net from here pred → (depth : ℕ) → IsSafe net depth (goals.Auth from here pred)

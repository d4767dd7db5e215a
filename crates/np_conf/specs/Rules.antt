-- The local rules of a confidentiality goal: what each interface's table has to say, so that no packet can be read on its way.
use Rattle.std.specs.Prelude.{◌≡◌, ℕ, ◌<◌, true, false, List, [], ◌∷◌, length}
use Rattle.np_space.specs.Header.{IsValid}
use Rattle.np_space.specs.declared.headers.Header.{Header}
use Rattle.np_pred.specs.Meaning.{pred_holds}
use Rattle.np_pred.specs.declared.predicate.Pred.{Pred}
use Rattle.np_net.specs.Path.{area_of, device_of}
use Rattle.np_net.specs.Plan.{Plan}
use Rattle.np_net.specs.declared.associations.OutAction.TheVariants as outs
use Rattle.np_net.specs.declared.associations.IpGoal.TheVariants as goals
use Rattle.np_ipsec.specs.Goals.{IsForeign}
use Rattle.np_ipsec.specs.Steps.{area_at, area_has}
use Rattle.np_ipsec.specs.Tables.{is_secret, is_trusted_device, out_action_of}
use Rattle.np_ipsec.specs.Trajectories.{IsSafe}
use Rattle.np_ipsec.specs.declared.tables.Top.TheVariants as tops

-- ---- headers

-- a valid header of the predicate with a source in the area
pub record IsOwn (net : Plan) (from : ℕ) (pred : Pred) (h : Header) : Type 0 where
  pub valid : IsValid h
  pub meant : pred_holds pred h ≡ true
  pub source : area_has net from h ≡ true

-- ---- the associations under which an own packet may be readable

-- an interface of a trusted device
pub record IsTrustedInterface (net : Plan) (i : ℕ) : Type 0 where
  pub within : i < length net.interfaces
  pub trusted : is_trusted_device net (device_of net.interfaces i) ≡ true

-- an association that hides nothing is put around an own packet that is bare
pub record IsFirstAround (net : Plan) (from : ℕ) (pred : Pred) (k : ℕ) : Type 0 where
  pub open_to_all : is_secret net k ≡ false
  pub i : ℕ
  pub at : IsTrustedInterface net i
  pub h : Header
  pub own : IsOwn net from pred h
  pub protects : out_action_of net i (tops.Plain h) ≡ outs.Protect k

-- an association that hides nothing is put around a packet whose outermost header is of this other one
pub record IsNextAround (net : Plan) (k under : ℕ) : Type 0 where
  pub open_to_all : is_secret net k ≡ false
  pub i : ℕ
  pub at : IsTrustedInterface net i
  pub protects : out_action_of net i (tops.Under under) ≡ outs.Protect k

-- these associations were put around an own packet one after another, the last one first, and none hides it
abbrev pub ArePutAround : Plan → ℕ → Pred → List ℕ → Type 0
ArePutAround net from pred [] = ⊥
ArePutAround net from pred (k ∷ []) = IsFirstAround net from pred k
ArePutAround net from pred (k ∷ j ∷ ks) = IsNextAround net k j × ArePutAround net from pred (j ∷ ks)

-- An own packet may be readable with this association's header outermost: the least set that has what is put around bare own packets, and what
-- is put around packets under one of the set, where it hides nothing.
pub record IsReadable (net : Plan) (from : ℕ) (pred : Pred) (k : ℕ) : Type 0 where
  pub rest : List ℕ
  pub put : ArePutAround net from pred (k ∷ rest)

-- ---- the rules

-- an interface of a trusted device on an area that isn't trusted
pub record IsWayOut (net : Plan) (i : ℕ) : Type 0 where
  pub at : IsTrustedInterface net i
  pub outside : (area_at net (area_of net.interfaces i)).trusted ≡ false

-- a bare own packet goes out there (K1)
pub record LetsOutBare (net : Plan) (from : ℕ) (pred : Pred) (i : ℕ) (h : Header) : Type 0 where
  pub way : IsWayOut net i
  pub own : IsOwn net from pred h
  pub passes : out_action_of net i (tops.Plain h) ≡ outs.Bypass

-- a packet goes out there under an association with which it may be readable (K2)
pub record LetsOutUnder (net : Plan) (from : ℕ) (pred : Pred) (i k : ℕ) : Type 0 where
  pub way : IsWayOut net i
  pub readable : IsReadable net from pred k
  pub passes : out_action_of net i (tops.Under k) ≡ outs.Bypass

-- the rules hold
pub record ConfRules (net : Plan) (from : ℕ) (pred : Pred) : Type 0 where
  pub from_trusted : (area_at net from).trusted ≡ true
  pub own : (i : ℕ) → IsForeign net i → ⊥
  pub bare : (i : ℕ) (h : Header) → LetsOutBare net from pred i h → ⊥
  pub under : (i k : ℕ) → LetsOutUnder net from pred i k → ⊥

-- Where they hold, no state of any trajectory of any depth breaks the goal.
abbrev pub RulesAreSound : Type 0
RulesAreSound = (net : Plan) (from : ℕ) (pred : Pred) → ConfRules net from pred → (depth : ℕ) → IsSafe net depth (goals.Conf from pred)

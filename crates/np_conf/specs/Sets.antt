-- The set of the associations under which an own packet may be readable, and the steps that gather it. None of it stands in a public contract.
use Rattle.std.specs.Prelude.{◌≡◌, ◌⊎◌, ◌↔◌, ℕ, ◌<◌, ◌&&◌, Bool, true, false, List, length, Option, Some, None, slice_index_or}
use Rattle.np_space.specs.Header.{zeros}
use Rattle.np_space.specs.declared.headers.Header.{Header}
use Rattle.np_pred.specs.Meaning.{pred_holds}
use Rattle.np_pred.specs.declared.predicate.Pred.{Pred}
use Rattle.np_net.specs.Plan.{Plan}
use Rattle.np_net.specs.declared.associations.OutAction.TheVariants as outs
use Rattle.np_atomset.specs.AtomSet.{has_member}
use Rattle.np_ipsec.specs.Searching.{IsFirstListed}
use Rattle.np_ipsec.specs.Steps.{area_has}
use Rattle.np_ipsec.specs.Tables.{out_action_of}
use Rattle.np_ipsec.specs.declared.tables.Top.TheVariants as tops
use Rattle.np_conf.specs.Outlets.{IsAround, PutsBefore, outlet_at}
use Rattle.np_conf.specs.Rules.{IsFirstAround, IsNextAround, IsReadable, IsWayOut}
use Rattle.np_conf.specs.declared.leaving.Outlet.{Outlet}

-- ---- tests of headers

-- the header is of the predicate, and has a source of the area
abbrev pub is_own : Plan → ℕ → Pred → Header → Bool
is_own net from pred h = pred_holds pred h && area_has net from h

-- ---- sets

-- whether an association is in the set; none past the end is
abbrev pub has_sa : List Bool → ℕ → Bool
has_sa set k = slice_index_or set k false

-- the set has the associations of P more, and nothing else is changed
pub record Adds (P : ℕ → Type 0) (before after : List Bool) : Type 0 where
  pub size : length after ≡ length before
  pub kept : (k : ℕ) → has_sa before k ≡ true → has_sa after k ≡ true
  pub all : (k : ℕ) → P k → has_sa after k ≡ true
  pub only : (k : ℕ) → has_sa after k ≡ true → (has_sa before k ≡ true) ⊎ P k

-- it is empty
abbrev pub IsEmpty : List Bool → Type 0
IsEmpty set = (k : ℕ) → has_sa set k ≡ false

-- it has exactly the associations under which an own packet may be readable
pub record IsReadableSet (net : Plan) (from : ℕ) (pred : Pred) (set : List Bool) : Type 0 where
  pub exact : (k : ℕ) → (has_sa set k ≡ true) ↔ IsReadable net from pred k

-- ---- what is put around packets

-- a trusted device puts an association that hides nothing around a bare own packet of this header
pub record PutsOwn (net : Plan) (from : ℕ) (pred : Pred) (h : Header) (k : ℕ) : Type 0 where
  pub own : is_own net from pred h ≡ true
  pub puts : PutsBefore net (tops.Plain h) (length net.interfaces) k

-- it does so with one of the first n of the headers
pub record PutsAround (net : Plan) (from : ℕ) (pred : Pred) (headers : List Header) (n k : ℕ) : Type 0 where
  pub x : ℕ
  pub before : x < n
  pub puts : PutsOwn net from pred (slice_index_or headers x zeros) k

-- the header at a place is one around which one of the first associations is put
pub record IsAroundBefore (sets : List (Option (List Bool))) (m n k : ℕ) : Type 0 where
  pub before : k < n
  pub around : IsAround sets m k

-- While the set is gathered: each in it may be readable, it has all that are put around bare own packets, and all that are put around
-- packets under those that are done.
pub record IsGathered (net : Plan) (from : ℕ) (pred : Pred) (set done : List Bool) : Type 0 where
  pub sound : (k : ℕ) → has_sa set k ≡ true → IsReadable net from pred k
  pub firsts : (k : ℕ) → IsFirstAround net from pred k → has_sa set k ≡ true
  pub nexts : (k under : ℕ) → has_sa done under ≡ true → IsNextAround net k under → has_sa set k ≡ true

-- the association is in the set and isn't done
pub record IsLeft (set done : List Bool) (k : ℕ) : Type 0 where
  pub listed : has_sa set k ≡ true
  pub within : k < length done
  pub left : has_sa done k ≡ false

-- ---- what goes out

-- the header at a place is in a set, and an own one
abbrev pub IsOwnIn : List Bool → Plan → ℕ → Pred → List Header → ℕ → Type 0
IsOwnIn set net from pred headers n = (has_member set n && is_own net from pred (slice_index_or headers n zeros)) ≡ true

-- no own header goes out bare at one of the first outlets
abbrev pub NoneGoesOut : List Outlet → Plan → ℕ → Pred → List Header → ℕ → Type 0
NoneGoesOut list net from pred headers end = (m : ℕ) → m < end → (n : ℕ) → n < length headers → IsOwnIn (outlet_at list m).bare net from pred headers n → ⊥

-- the first outlet where an own header goes out bare, with the first such header
pub record IsFirstOutlet (list : List Outlet) (net : Plan) (from : ℕ) (pred : Pred) (headers : List Header) (i : ℕ) (h : Header) : Type 0 where
  pub place : ℕ
  pub within : place < length list
  pub interface : i ≡ (outlet_at list place).interface
  pub listed : IsFirstListed (IsOwnIn (outlet_at list place).bare net from pred headers) headers h
  pub earlier : NoneGoesOut list net from pred headers place

-- it was found, or none of them goes out bare anywhere
abbrev pub FindsOutlet : List Outlet → Plan → ℕ → Pred → List Header → Option (ℕ × Header) → Type 0
FindsOutlet list net from pred headers None = NoneGoesOut list net from pred headers (length list)
FindsOutlet list net from pred headers (Some found) = IsFirstOutlet list net from pred headers found.0 found.1

-- a packet under an association of the set goes out at the interface
pub record LetsOutListed (net : Plan) (set : List Bool) (i k : ℕ) : Type 0 where
  pub way : IsWayOut net i
  pub listed : has_sa set k ≡ true
  pub passes : out_action_of net i (tops.Under k) ≡ outs.Bypass

-- some packet goes out there under an association of the set
abbrev pub LetsSomeListed : Plan → List Bool → ℕ → Type 0
LetsSomeListed net set i = (k : ℕ) × LetsOutListed net set i k

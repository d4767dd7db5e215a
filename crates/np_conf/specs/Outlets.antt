-- What the outward rules of a network do to bare packets with some headers.
use Rattle.std.specs.Prelude.{◌≡◌, ◌⊎◌, ◌↔◌, ℕ, ◌<◌, ◌≤◌, Bool, true, false, List, [], length, replicate, Option, Some, None, IfSome, slice_index_or, slice_set}
use Rattle.np_space.specs.Header.{zeros}
use Rattle.np_space.specs.declared.headers.Header.{Header}
use Rattle.np_atomset.specs.AtomSet.{has_member}
use Rattle.np_net.specs.Plan.{Plan}
use Rattle.np_net.specs.declared.associations.OutAction.{OutAction}
use Rattle.np_net.specs.declared.associations.OutAction.TheVariants as outs
use Rattle.np_ipsec.specs.Tables.{is_secret, out_action_of}
use Rattle.np_ipsec.specs.declared.tables.Top.{Top}
use Rattle.np_ipsec.specs.declared.tables.Top.TheVariants as tops
use Rattle.np_conf.specs.Rules.{IsTrustedInterface, IsWayOut}
use Rattle.np_conf.specs.declared.leaving.Outlet.{Outlet}
use Rattle.np_conf.specs.declared.leaving.Outlets.{Outlets}

-- ---- what goes out bare

-- the packet goes on as it is
abbrev pub is_bypass : OutAction → Bool
is_bypass (outs.Protect k) = false
is_bypass outs.Bypass = true
is_bypass outs.Discard = false

-- a bare packet with this header goes on as it is where it is to go out by the interface
abbrev pub passes_bare : Plan → ℕ → Header → Bool
passes_bare net i h = is_bypass (out_action_of net i (tops.Plain h))

-- the set has those of the first of the headers, up to an end, with which one does, and none of the others
pub record AreBareTo (net : Plan) (headers : List Header) (i end : ℕ) (set : List Bool) : Type 0 where
  pub size : length set ≡ length headers
  pub exact : (n : ℕ) → n < end → has_member set n ≡ passes_bare net i (slice_index_or headers n zeros)
  pub others : (n : ℕ) → end ≤ n → has_member set n ≡ false

-- it has those of all of them
pub record AreBare (net : Plan) (headers : List Header) (i : ℕ) (set : List Bool) : Type 0 where
  pub size : length set ≡ length headers
  pub exact : (n : ℕ) → n < length headers → has_member set n ≡ passes_bare net i (slice_index_or headers n zeros)

-- the outlet at a place
abbrev pub outlet_at : List Outlet → ℕ → Outlet
outlet_at list n = slice_index_or list n record { interface = 0; bare = [] }

-- an outlet is a way out, with the headers that go out bare there
pub record IsOutlet (net : Plan) (headers : List Header) (outlet : Outlet) : Type 0 where
  pub way : IsWayOut net outlet.interface
  pub bare : AreBare net headers outlet.interface outlet.bare

-- the list has the outlet of the interface
pub record HasOutlet (list : List Outlet) (i : ℕ) : Type 0 where
  pub place : ℕ
  pub within : place < length list
  pub interface : (outlet_at list place).interface ≡ i

-- the list has, in their order, the outlets of the ways out before an interface
pub record AreWaysTo (net : Plan) (headers : List Header) (end : ℕ) (list : List Outlet) : Type 0 where
  pub each : (n : ℕ) → n < length list → IsOutlet net headers (outlet_at list n)
  pub ascending : (m n : ℕ) → m < n → n < length list → (outlet_at list m).interface < (outlet_at list n).interface
  pub below : (n : ℕ) → n < length list → (outlet_at list n).interface < end
  pub all : (i : ℕ) → IsWayOut net i → i < end → HasOutlet list i

-- it has those of all of them
pub record AreWays (net : Plan) (headers : List Header) (list : List Outlet) : Type 0 where
  pub each : (n : ℕ) → n < length list → IsOutlet net headers (outlet_at list n)
  pub ascending : (m n : ℕ) → m < n → n < length list → (outlet_at list m).interface < (outlet_at list n).interface
  pub all : (i : ℕ) → IsWayOut net i → HasOutlet list i

-- ---- what is put around packets

-- a trusted device puts an association that hides nothing around packets with this outermost header, at the interface
pub record PutsAt (net : Plan) (top : Top) (i k : ℕ) : Type 0 where
  pub at : IsTrustedInterface net i
  pub open_to_all : is_secret net k ≡ false
  pub protects : out_action_of net i top ≡ outs.Protect k

-- it does so at one of the first n interfaces
pub record PutsBefore (net : Plan) (top : Top) (n k : ℕ) : Type 0 where
  pub i : ℕ
  pub before : i < n
  pub puts : PutsAt net top i k

-- the set at a place, without members where there is none yet
abbrev pub members_of : Option (List Bool) → List Bool
members_of None = []
members_of (Some set) = set

-- the header at a place is in the set of an association
abbrev pub IsAround : List (Option (List Bool)) → ℕ → ℕ → Type 0
IsAround sets n k = has_member (members_of (slice_index_or sets k None)) n ≡ true

-- there is a place for each association, and each set there is of the headers
pub record HaveSizes (net : Plan) (headers : List Header) (sets : List (Option (List Bool))) : Type 0 where
  pub count : length sets ≡ length net.sas
  pub sizes : (k : ℕ) → IfSome (slice_index_or sets k None) (λ set. length set ≡ length headers)

-- For each association the headers around which it is put at one of the interfaces before i, and of the first n headers those at i.
pub record AreAroundTo (net : Plan) (headers : List Header) (i n : ℕ) (sets : List (Option (List Bool))) : Type 0 where
  pub sizes : HaveSizes net headers sets
  pub only : (k m : ℕ) → IsAround sets m k → (j : ℕ) × PutsAt net (tops.Plain (slice_index_or headers m zeros)) j k
  pub all : (k m j : ℕ) → m < length headers → (j < i) ⊎ ((j ≡ i) × (m < n)) → PutsAt net (tops.Plain (slice_index_or headers m zeros)) j k → IsAround sets m k

-- for each association that hides nothing those of the headers around which some trusted device puts it
pub record AreAround (net : Plan) (headers : List Header) (sets : List (Option (List Bool))) : Type 0 where
  pub sizes : HaveSizes net headers sets
  pub exact : (k m : ℕ) → m < length headers → IsAround sets m k ↔ PutsBefore net (tops.Plain (slice_index_or headers m zeros)) (length net.interfaces) k

-- the set at a place, and where there is none yet one of so many headers without members
abbrev pub set_or : ℕ → Option (List Bool) → List Bool
set_or size None = replicate size false
set_or size (Some set) = set

-- it with one member more
abbrev pub with_member : ℕ → Option (List Bool) → ℕ → Option (List Bool)
with_member size slot n = Some (slice_set (set_or size slot) n true)

-- ---- both

-- The outlets of a network: the headers that go out bare at each interface of a trusted device on an area that isn't trusted, in the order of
-- the interfaces, and for each association that hides nothing those around which some trusted device puts it.
pub record AreOutlets (net : Plan) (headers : List Header) (outlets : Outlets) : Type 0 where
  pub ways : AreWays net headers outlets.ways
  pub around : AreAround net headers outlets.around

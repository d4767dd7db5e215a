-- Distances in hops to one area, and the nearest way out.
use Rattle.std.specs.Prelude.{◌≡◌, ◌⊎◌, ℕ, zero, suc, ◌+◌, ◌*◌, ◌<◌, ◌≤◌, ◌&&◌, Bool, true, false, cond, nat_eq, nat_lt, List, [], ◌∷◌, length, Option, Some, None, slice_index_or}
use Rattle.np_atomset.specs.AtomSet.{has_member}
use Rattle.np_net.specs.Path.{device_of, area_of, IsHop, Leads}
use Rattle.np_net.specs.declared.filtering.Interface.{Interface}
use Rattle.np_flow.specs.Carrying.{AllCross, IsShorterOrFirst}

-- the distance of area a, if it is known
abbrev pub distance_at : List (Option ℕ) → ℕ → Option ℕ
distance_at distances a = slice_index_or distances a None

-- how many distances are not known
abbrev pub unknown : List (Option ℕ) → ℕ
unknown [] = 0
unknown (None ∷ distances) = 1 + unknown distances
unknown (Some m ∷ distances) = unknown distances

-- hops, or none, that may be crossed lead from area a to area b
pub record IsWalk (interfaces : List Interface) (lets : ℕ → Bool) (a : ℕ) (hops : List (ℕ × ℕ)) (b : ℕ) : Type 0 where
  pub leads : Leads interfaces a hops b
  pub cross : AllCross lets hops

-- each known distance is that of a walk, and each area with a walk of at most so many hops has a distance that is no longer
pub record AreKnown (interfaces : List Interface) (lets : ℕ → Bool) (to most : ℕ) (distances : List (Option ℕ)) : Type 0 where
  pub few : (a m : ℕ) → distance_at distances a ≡ Some m → m ≤ most
  pub sound : (a m : ℕ) → distance_at distances a ≡ Some m → (hops : List (ℕ × ℕ)) × (length hops ≡ m) × IsWalk interfaces lets a hops to
  pub all : (a : ℕ) (hops : List (ℕ × ℕ)) → IsWalk interfaces lets a hops to → length hops ≤ most → (m : ℕ) × (m ≤ length hops) × (distance_at distances a ≡ Some m)

-- each known distance is that of a walk, and each area with a walk has a distance that is no longer
pub record AreDistances (interfaces : List Interface) (lets : ℕ → Bool) (to : ℕ) (distances : List (Option ℕ)) : Type 0 where
  pub sound : (a m : ℕ) → distance_at distances a ≡ Some m → (hops : List (ℕ × ℕ)) × (length hops ≡ m) × IsWalk interfaces lets a hops to
  pub all : (a : ℕ) (hops : List (ℕ × ℕ)) → IsWalk interfaces lets a hops to → (m : ℕ) × (m ≤ length hops) × (distance_at distances a ≡ Some m)

-- interface n lets out to an area at this distance
abbrev pub LetsOut : List Interface → (ℕ → Bool) → List (Option ℕ) → ℕ → ℕ → Type 0
LetsOut interfaces lets distances near n = (lets (2 * n + 1) ≡ true) × (distance_at distances (area_of interfaces n) ≡ Some near)

-- a device is marked where one of its first interfaces lets out to an area at this distance
pub record AreExits (interfaces : List Interface) (lets : ℕ → Bool) (distances : List (Option ℕ)) (near first : ℕ) (devices : List Bool) : Type 0 where
  pub all : (n : ℕ) → n < first → LetsOut interfaces lets distances near n → has_member devices (device_of interfaces n) ≡ true
  pub only : (d : ℕ) → has_member devices d ≡ true → (n : ℕ) × (n < first) × LetsOut interfaces lets distances near n × (device_of interfaces n ≡ d)

-- interface n lets into a marked device
abbrev pub LetsIn : List Interface → (ℕ → Bool) → List Bool → ℕ → Type 0
LetsIn interfaces lets devices n = (lets (2 * n) ≡ true) × (has_member devices (device_of interfaces n) ≡ true)

-- interface n is on an area whose distance is known
abbrev pub HasDistance : List Interface → List (Option ℕ) → ℕ → Type 0
HasDistance interfaces distances n = (m : ℕ) × (distance_at distances (area_of interfaces n) ≡ Some m)

-- an area without a distance gets this one at interface n, if it lets into a marked device
pub record IsNearer (interfaces : List Interface) (lets : ℕ → Bool) (devices : List Bool) (far n : ℕ) (before after : List (Option ℕ)) : Type 0 where
  pub kept : (a m : ℕ) → distance_at before a ≡ Some m → distance_at after a ≡ Some m
  pub all : LetsIn interfaces lets devices n → HasDistance interfaces after n
  pub only : (a m : ℕ) → distance_at after a ≡ Some m → (distance_at before a ≡ Some m) ⊎ ((m ≡ far) × LetsIn interfaces lets devices n × (area_of interfaces n ≡ a))

-- the same of the first interfaces
pub record AreNearer (interfaces : List Interface) (lets : ℕ → Bool) (devices : List Bool) (far first : ℕ) (before after : List (Option ℕ)) : Type 0 where
  pub kept : (a m : ℕ) → distance_at before a ≡ Some m → distance_at after a ≡ Some m
  pub all : (n : ℕ) → n < first → LetsIn interfaces lets devices n → HasDistance interfaces after n
  pub only : (a m : ℕ) → distance_at after a ≡ Some m → (distance_at before a ≡ Some m) ⊎ ((n : ℕ) × (n < first) × (m ≡ far) × LetsIn interfaces lets devices n × (area_of interfaces n ≡ a))

-- the nearer of what was found and of a distance at place n, and what was found if they are as near
abbrev pub nearer : Option (ℕ × ℕ) → Option ℕ → ℕ → Option (ℕ × ℕ)
nearer found None n = found
nearer None (Some m) n = Some (m, n)
nearer (Some f) (Some m) n = cond (nat_lt m f.0) (Some (m, n)) (Some f)

-- the least of the first distances with its place, the first of these
abbrev pub first_least : (ℕ → Option ℕ) → ℕ → Option (ℕ × ℕ)
first_least at zero = None
first_least at (suc n) = nearer (first_least at n) (at n) n

-- the distance at a place, if the test holds there
abbrev pub known_if : Bool → Option ℕ → Option ℕ
known_if true distance = distance
known_if false distance = None

-- the distance to which interface n lets out of a device
abbrev pub out_at : List Interface → (ℕ → Bool) → List (Option ℕ) → ℕ → ℕ → Option ℕ
out_at interfaces lets distances device n = known_if (nat_eq (device_of interfaces n) device && lets (2 * n + 1)) (distance_at distances (area_of interfaces n))

-- the nearest way out of a device, and its distance
abbrev pub way_out : List Interface → (ℕ → Bool) → List (Option ℕ) → ℕ → Option (ℕ × ℕ)
way_out interfaces lets distances device = first_least (out_at interfaces lets distances device) (length interfaces)

-- the first part of a pair, if there is one
abbrev pub first_part : Option (ℕ × ℕ) → Option ℕ
first_part None = None
first_part (Some pair) = Some pair.0

-- the distance to which interface n lets go from an area
abbrev pub in_at : List Interface → (ℕ → Bool) → List (Option ℕ) → ℕ → ℕ → Option ℕ
in_at interfaces lets distances area n = known_if (nat_eq (area_of interfaces n) area && lets (2 * n)) (first_part (way_out interfaces lets distances (device_of interfaces n)))

-- the nearest way in from an area, and the distance to which it lets go
abbrev pub way_in : List Interface → (ℕ → Bool) → List (Option ℕ) → ℕ → Option (ℕ × ℕ)
way_in interfaces lets distances area = first_least (in_at interfaces lets distances area) (length interfaces)

-- (i, j) is before (k, l), or the same
abbrev pub IsBeforeOrSame : ℕ → ℕ → ℕ × ℕ → Type 0
IsBeforeOrSame i j hop = (i < hop.0) ⊎ ((i ≡ hop.0) × ((j < hop.1) ⊎ (j ≡ hop.1)))

-- a hop from area a that may be crossed, to an area at distance m
pub record IsHopTo (interfaces : List Interface) (lets : ℕ → Bool) (distances : List (Option ℕ)) (a m : ℕ) (hop : ℕ × ℕ) : Type 0 where
  pub is : IsHop interfaces hop
  pub begins : area_of interfaces hop.0 ≡ a
  pub inward : lets (2 * hop.0) ≡ true
  pub outward : lets (2 * hop.1 + 1) ≡ true
  pub ends : distance_at distances (area_of interfaces hop.1) ≡ Some m

-- the hop in by i and out by j is one to distance m, no other hop is to a lesser one, and of the hops to this distance it is the first
pub record IsNextHop (interfaces : List Interface) (lets : ℕ → Bool) (distances : List (Option ℕ)) (a m i j : ℕ) : Type 0 where
  pub hop : IsHopTo interfaces lets distances a m (i, j)
  pub first : (k : ℕ) (other : ℕ × ℕ) → IsHopTo interfaces lets distances a k other → (m < k) ⊎ ((m ≡ k) × IsBeforeOrSame i j other)

-- how many hops are left from an area, at the most, and none where there is no way
abbrev pub hops_left : Option (ℕ × ℕ) → ℕ
hops_left None = 0
hops_left (Some way) = suc way.0

-- hops, or none, that may be crossed lead from area a to area b, and of all that do they are the shortest, and of the shortest ones the first
pub record IsFirstWalk (interfaces : List Interface) (lets : ℕ → Bool) (a : ℕ) (hops : List (ℕ × ℕ)) (b : ℕ) : Type 0 where
  pub walk : IsWalk interfaces lets a hops b
  pub first : (others : List (ℕ × ℕ)) → IsWalk interfaces lets a others b → IsShorterOrFirst hops others

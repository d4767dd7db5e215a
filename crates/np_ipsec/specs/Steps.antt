-- The states of a packet and its steps: at trusted places by the tables, at others by whatever can be done without keys.
use Rattle.std.specs.Prelude.{◌≡◌, ◌⊎◌, ℕ, ◌<◌, Bool, true, false, List, [], ◌∷◌, ◌++◌, length, Option, Some, None, slice_index_or}
use Rattle.np_space.specs.Patterns.{any_pattern_has}
use Rattle.np_space.specs.declared.headers.Header.{Header}
use Rattle.np_net.specs.Path.{area_of, device_of}
use Rattle.np_net.specs.Plan.{Plan}
use Rattle.np_net.specs.declared.filtering.Area.{Area}
use Rattle.np_net.specs.declared.associations.InAction.TheVariants as ins
use Rattle.np_net.specs.declared.associations.OutAction.TheVariants as outs
use Rattle.np_stack.specs.HeaderStack.{top_of}
use Rattle.np_ipsec.specs.declared.places.Place.{Place}
use Rattle.np_ipsec.specs.declared.places.Place.TheVariants as at
use Rattle.np_ipsec.specs.declared.places.Motion.{Motion}
use Rattle.np_ipsec.specs.declared.places.Motion.TheVariants as motions
use Rattle.np_ipsec.specs.declared.tables.Top.{Top}
use Rattle.np_ipsec.specs.declared.tables.Top.TheVariants as tops
use Rattle.np_ipsec.specs.Tables.{has_pop, in_action_of, out_action_of, is_trusted_device, is_good, has_integrity, has_secrecy}
use Rattle.np_net.specs.Network.{sa_at}

-- ---- states

-- a place, the plain header, the associations whose headers are around it, the outermost last, and the one that was removed last
pub record State : Type 0 where
  pub place : Place
  pub plain : Header
  pub stack : List ℕ
  pub mark : Option ℕ

-- the outermost header over a plain one
abbrev pub top_over : Header → Option ℕ → Top
top_over plain None = tops.Plain plain
top_over plain (Some k) = tops.Under k

-- the outermost header of a state
abbrev pub top_in : State → Top
top_in s = top_over s.plain (top_of s.stack)

-- the area of this number
abbrev pub area_at : Plan → ℕ → Area
area_at net a = slice_index_or net.areas a record { name = []; sources = []; trusted = false }

-- a place is trusted: its area, or the device of its interface
abbrev pub is_trusted_place : Plan → Place → Bool
is_trusted_place net (at.AtArea a) = (area_at net a).trusted
is_trusted_place net (at.AtIn i) = is_trusted_device net (device_of net.interfaces i)
is_trusted_place net (at.AtOut i) = is_trusted_device net (device_of net.interfaces i)

-- a place of the network
abbrev pub IsPlace : Plan → Place → Type 0
IsPlace net (at.AtArea a) = a < length net.areas
IsPlace net (at.AtIn i) = i < length net.interfaces
IsPlace net (at.AtOut i) = i < length net.interfaces

-- the area's addresses have the source of a header
abbrev pub area_has : Plan → ℕ → Header → Bool
area_has net a h = any_pattern_has (area_at net a).sources h.src

-- ---- steps of a network with this depth, at places of the network

-- into a device, by an interface of the area
pub record Enters (net : Plan) (i : ℕ) (s t : State) : Type 0 where
  pub within : i < length net.interfaces
  pub from : s.place ≡ at.AtArea (area_of net.interfaces i)
  pub to : t ≡ record { place = at.AtIn i; plain = s.plain; stack = s.stack; mark = None }

-- a trusted device removes the outermost association's header by a pop rule, and marks the packet with it
pub record PopsByRule (net : Plan) (s t : State) : Type 0 where
  pub trusted : is_trusted_place net s.place ≡ true
  pub i : ℕ
  pub here : s.place ≡ at.AtIn i
  pub k : ℕ
  pub rest : List ℕ
  pub outermost : s.stack ≡ rest ++ k ∷ []
  pub rule : has_pop net i k ≡ true
  pub to : t ≡ record { place = s.place; plain = s.plain; stack = rest; mark = Some k }

-- whoever isn't trusted removes the outermost association's header, where an end isn't trusted or the kind hides nothing
pub record PopsWithoutKey (net : Plan) (s t : State) : Type 0 where
  pub untrusted : is_trusted_place net s.place ≡ false
  pub k : ℕ
  pub rest : List ℕ
  pub outermost : s.stack ≡ rest ++ k ∷ []
  pub can : (is_good net k ≡ false) ⊎ (has_secrecy (sa_at net.sas k).kind ≡ false)
  pub to : t ≡ record { place = s.place; plain = s.plain; stack = rest; mark = None }

-- no pop rule of the interface fits the outermost header
abbrev pub NoPopFits : Plan → ℕ → List ℕ → Type 0
NoPopFits net i stack = (k : ℕ) (rest : List ℕ) → stack ≡ rest ++ k ∷ [] → has_pop net i k ≡ false

-- through a device: a trusted one by its inward rules, once no pop rule fits
pub record Crosses (net : Plan) (j : ℕ) (s t : State) : Type 0 where
  pub within : j < length net.interfaces
  pub i : ℕ
  pub here : s.place ≡ at.AtIn i
  pub inside : device_of net.interfaces i ≡ device_of net.interfaces j
  pub popped : is_trusted_place net s.place ≡ true → NoPopFits net i s.stack
  pub admitted : is_trusted_place net s.place ≡ true → in_action_of net i (top_in s) s.mark ≡ ins.Bypass
  pub to : t ≡ record { place = at.AtOut j; plain = s.plain; stack = s.stack; mark = None }

-- a header of this association is put around a packet of fewer than so many: by a trusted device where an outward rule says so, by whoever
-- isn't trusted where an end isn't trusted either or the kind lets forgeries pass
pub record Pushes (net : Plan) (depth k : ℕ) (s t : State) : Type 0 where
  pub within : k < length net.sas
  pub room : length s.stack < depth
  pub by_rule : is_trusted_place net s.place ≡ true → (j : ℕ) × (s.place ≡ at.AtOut j) × (out_action_of net j (top_in s) ≡ outs.Protect k)
  pub without_key : is_trusted_place net s.place ≡ false → (is_good net k ≡ false) ⊎ (has_integrity (sa_at net.sas k).kind ≡ false)
  pub to : t ≡ record { place = s.place; plain = s.plain; stack = s.stack ++ k ∷ []; mark = s.mark }

-- out of a device, to the area of the interface: out of a trusted one by its outward rules
pub record Leaves (net : Plan) (s t : State) : Type 0 where
  pub j : ℕ
  pub here : s.place ≡ at.AtOut j
  pub admitted : is_trusted_place net s.place ≡ true → out_action_of net j (top_in s) ≡ outs.Bypass
  pub to : t ≡ record { place = at.AtArea (area_of net.interfaces j); plain = s.plain; stack = s.stack; mark = s.mark }

-- this motion is a step from one state to another
abbrev pub IsStep : Plan → ℕ → Motion → State → State → Type 0
IsStep net depth (motions.Enter i) s t = Enters net i s t
IsStep net depth motions.Pop s t = PopsByRule net s t ⊎ PopsWithoutKey net s t
IsStep net depth (motions.Cross j) s t = Crosses net j s t
IsStep net depth (motions.Push k) s t = Pushes net depth k s t
IsStep net depth motions.Leave s t = Leaves net s t

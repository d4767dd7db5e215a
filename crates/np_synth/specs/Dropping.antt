-- Why a free slot drops what it doesn't let cross.
use Rattle.std.specs.Prelude.{◌≡◌, ◌⊎◌, ℕ, ◌*◌, ◌<◌, Bool, true, false, List, [], length, slice_index_or}
use Rattle.np_net.specs.declared.filtering.Goal.{Goal}
use Rattle.np_net.specs.declared.filtering.Interface.{Interface}
use Rattle.np_flow.specs.Carrying.{IsFirstPath}
use Rattle.np_goals.specs.Cases.{goal_at}
use Rattle.np_synth.specs.Choosing.{is_free, opened, IsFirstBroken}
use Rattle.np_synth.specs.declared.chosen.Dropped.{Dropped}

-- A free slot that is shut, the first goal that is broken once it alone is opened as well, and the first path of that goal there.
pub record IsDropped (interfaces : List Interface) (goals : List Goal) (bad : ℕ → Bool) (free : List Bool) (chosen : ℕ → Bool) (slot goal : ℕ) (hops : List (ℕ × ℕ)) : Type 0 where
  pub within : slot < 2 * length interfaces
  pub free_is : is_free free slot ≡ true
  pub shut_is : chosen slot ≡ false
  pub broken : IsFirstBroken interfaces goals bad (opened chosen slot) goal
  pub path : (d : Goal) → IsFirstPath interfaces (opened chosen slot) (goal_at goals d goal).from hops (goal_at goals d goal).to

-- a drop stands before another: at an earlier slot, or of an earlier atom there
abbrev pub IsEarlier : Dropped → Dropped → Type 0
IsEarlier x y = (x.slot < y.slot) ⊎ ((x.slot ≡ y.slot) × (x.atom < y.atom))

-- a drop of nothing
abbrev pub nothing : Dropped
nothing = record { slot = 0; atom = 0; goal = 0; path = record { hops = [] } }

-- Of so many atoms these are all that the free slots drop, by slot and then by atom: `bad` and `chosen` say of each atom which goals forbid
-- it, and which slots let it cross.
pub record AreDropped (interfaces : List Interface) (goals : List Goal) (free : List Bool) (atoms : ℕ) (bad chosen : ℕ → ℕ → Bool) (dropped : List Dropped) : Type 0 where
  pub each : (n : ℕ) → n < length dropped → ((slice_index_or dropped n nothing).atom < atoms) × IsDropped interfaces goals (bad (slice_index_or dropped n nothing).atom) free (chosen (slice_index_or dropped n nothing).atom) (slice_index_or dropped n nothing).slot (slice_index_or dropped n nothing).goal (slice_index_or dropped n nothing).path.hops
  pub ascending : (m n : ℕ) → m < n → n < length dropped → IsEarlier (slice_index_or dropped m nothing) (slice_index_or dropped n nothing)
  pub all : (slot atom : ℕ) → slot < 2 * length interfaces → atom < atoms → is_free free slot ≡ true → chosen atom slot ≡ false → (n : ℕ) × (n < length dropped) × ((slice_index_or dropped n nothing).slot ≡ slot) × ((slice_index_or dropped n nothing).atom ≡ atom)

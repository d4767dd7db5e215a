-- Which slots a synthesised posture lets something cross: an atom, or a header. What travels is given by the goals that forbid it, by
-- their numbers, and by the slots that let it cross; it travels by itself, whatever else there is.
use Rattle.std.specs.Prelude.{◌≡◌, ℕ, ◌*◌, ◌<◌, ◌==◌, ◌&&◌, Bool, true, false, nat_lt, List, length, slice_index_or, if◌then◌else◌}
use Rattle.np_net.specs.declared.filtering.Goal.{Goal}
use Rattle.np_net.specs.declared.filtering.Interface.{Interface}
use Rattle.np_flow.specs.Carrying.{Reaches}
use Rattle.np_goals.specs.Cases.{goal_at}

-- ---- postures of one thing that travels

-- whether a slot is free
abbrev pub is_free : List Bool → ℕ → Bool
is_free free slot = slice_index_or free slot false

-- the free slots shut, and the others as they are
abbrev pub shut : List Bool → (ℕ → Bool) → ℕ → Bool
shut free lets s = if is_free free s then false else lets s

-- one slot opened, and the others as they are
abbrev pub opened : (ℕ → Bool) → ℕ → ℕ → Bool
opened lets slot s = if s == slot then true else lets s

-- the free slots before this one as they are chosen, and the others shut
abbrev pub so_far : List Bool → (ℕ → Bool) → (ℕ → Bool) → ℕ → ℕ → Bool
so_far free lets chosen slot s = if is_free free s then nat_lt s slot && chosen s else lets s

-- ---- goals

-- the goal of this number forbids what travels, and some path between the goal's two areas may be crossed
pub record IsBroken (interfaces : List Interface) (goals : List Goal) (bad : ℕ → Bool) (lets : ℕ → Bool) (k : ℕ) : Type 0 where
  pub within : k < length goals
  pub forbidden : bad k ≡ true
  pub reaches : (d : Goal) → Reaches interfaces lets (goal_at goals d k).from (goal_at goals d k).to

-- some goal is broken
pub record BreaksSome (interfaces : List Interface) (goals : List Goal) (bad : ℕ → Bool) (lets : ℕ → Bool) : Type 0 where
  pub goal : ℕ
  pub broken : IsBroken interfaces goals bad lets goal

-- of the goals this is the first one that is broken
pub record IsFirstBroken (interfaces : List Interface) (goals : List Goal) (bad : ℕ → Bool) (lets : ℕ → Bool) (k : ℕ) : Type 0 where
  pub broken : IsBroken interfaces goals bad lets k
  pub first : (j : ℕ) → j < k → IsBroken interfaces goals bad lets j → ⊥

-- ---- the chosen posture

-- A slot that isn't free is as it was. A free slot is open exactly if no goal is broken while it is open, the free slots before it are as
-- chosen, and those after it are shut.
pub record IsChosen (interfaces : List Interface) (goals : List Goal) (bad : ℕ → Bool) (free : List Bool) (lets chosen : ℕ → Bool) : Type 0 where
  pub fixed : (s : ℕ) → s < 2 * length interfaces → is_free free s ≡ false → chosen s ≡ lets s
  pub opens : (s : ℕ) → s < 2 * length interfaces → is_free free s ≡ true → chosen s ≡ true → BreaksSome interfaces goals bad (opened (so_far free lets chosen s) s) → ⊥
  pub closed : (s : ℕ) → s < 2 * length interfaces → is_free free s ≡ true → chosen s ≡ false → BreaksSome interfaces goals bad (opened (so_far free lets chosen s) s)

-- No goal is broken, and opening any free slot that is shut breaks one.
pub record IsMaximal (interfaces : List Interface) (goals : List Goal) (bad : ℕ → Bool) (free : List Bool) (chosen : ℕ → Bool) : Type 0 where
  pub meets : BreaksSome interfaces goals bad chosen → ⊥
  pub full : (s : ℕ) → s < 2 * length interfaces → is_free free s ≡ true → chosen s ≡ false → BreaksSome interfaces goals bad (opened chosen s)

-- the chosen posture is maximal, if no goal is broken with the free slots shut
abbrev pub ChosenIsMaximal : Type 0
ChosenIsMaximal = (interfaces : List Interface) (goals : List Goal) (bad : ℕ → Bool) (free : List Bool) (lets chosen : ℕ → Bool) → IsChosen interfaces goals bad free lets chosen → (BreaksSome interfaces goals bad (shut free lets) → ⊥) → IsMaximal interfaces goals bad free chosen

-- there is one chosen posture of the slots of a network
abbrev pub ChosenIsUnique : Type 0
ChosenIsUnique = (interfaces : List Interface) (goals : List Goal) (bad : ℕ → Bool) (free : List Bool) (lets chosen other : ℕ → Bool) → IsChosen interfaces goals bad free lets chosen → IsChosen interfaces goals bad free lets other → (s : ℕ) → s < 2 * length interfaces → chosen s ≡ other s

-- That what is asked of a synthesis is always there, and once.
use Rattle.std.specs.Prelude.{◌≡◌, ◌⊎◌, ℕ, Bool, List}
use Rattle.np_space.specs.declared.headers.Header.{Header}
use Rattle.np_net.specs.Plan.{Plan}
use Rattle.np_net.specs.declared.filtering.Goal.{Goal}
use Rattle.np_net.specs.declared.filtering.Interface.{Interface}
use Rattle.np_net.specs.declared.paths.Path.{Path}
use Rattle.np_synth.specs.Dropping.{AreDropped}
use Rattle.np_synth.specs.Headers.{IsSynthesised, IsUnattained}
use Rattle.np_synth.specs.declared.chosen.Dropped.{Dropped}

-- the drops are determined by the posture
abbrev pub DroppedAreUnique : Type 0
DroppedAreUnique = (interfaces : List Interface) (goals : List Goal) (free : List Bool) (atoms : ℕ) (bad chosen : ℕ → ℕ → Bool) (xs ys : List Dropped) → AreDropped interfaces goals free atoms bad chosen xs → AreDropped interfaces goals free atoms bad chosen ys → xs ≡ ys

-- A goal is broken with the free slots shut, or there is a chosen posture with its drops.
abbrev pub HaveSyntheses : Type 0
HaveSyntheses = (net : Plan) (lets : ℕ → Header → Bool) (leasts : List Header) →
    ((goal : ℕ) × (header : Header) × (path : Path) × IsUnattained net lets goal header path) ⊎
    ((chosen : ℕ → Header → Bool) × (drops : List Dropped) × IsSynthesised net lets leasts chosen drops)

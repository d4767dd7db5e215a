-- What is synthesised atom by atom is synthesised header by header.
use Rattle.std.specs.Prelude.{◌≡◌, ℕ, ◌*◌, ◌<◌, Bool, List, length, slice_index_or}
use Rattle.np_space.specs.Header.{zeros}
use Rattle.np_space.specs.declared.headers.Header.{Header}
use Rattle.np_net.specs.Plan.{Plan}
use Rattle.np_net.specs.declared.paths.Path.{Path}
use Rattle.np_cut.specs.AppliedLists.{AppliedLists, applied_lets}
use Rattle.np_flow.specs.Postures.{lets_atom}
use Rattle.np_goals.specs.Cases.{IsCaseOf}
use Rattle.np_goals.specs.declared.cases.Case.{Case}
use Rattle.np_synth.specs.Synthesis.{IsSynthesis, IsUnattainable}
use Rattle.np_synth.specs.Headers.{IsSynthesised, IsUnattained}
use Rattle.np_synth.specs.declared.chosen.Dropped.{Dropped}

-- A posture over headers that says of each atom's least member what the sets say of the atom, and is the one that is synthesised.
pub record IsShown (net : Plan) (lets : ℕ → Header → Bool) (leasts : List Header) (slots : List (List Bool)) (drops : List Dropped) : Type 0 where
  pub chosen : ℕ → Header → Bool
  pub shows : (slot atom : ℕ) → slot < 2 * length net.interfaces → atom < length leasts → chosen slot (slice_index_or leasts atom zeros) ≡ lets_atom slots atom slot
  pub is : IsSynthesised net lets leasts chosen drops

-- for whatever lists this is the case of
abbrev pub AtomsStandForHeaders : Type 0
AtomsStandForHeaders = (net : Plan) (applied : AppliedLists) (case : Case) (slots : List (List Bool)) (drops : List Dropped) →
    IsCaseOf net.interfaces net.goals applied case → IsSynthesis net case slots drops → IsShown net (applied_lets applied) case.leasts slots drops

-- and the same where the goals can't be attained
abbrev pub AtomsDenyForHeaders : Type 0
AtomsDenyForHeaders = (net : Plan) (applied : AppliedLists) (case : Case) (goal : ℕ) (header : Header) (path : Path) →
    IsCaseOf net.interfaces net.goals applied case → IsUnattainable net case goal header path.hops → IsUnattained net (applied_lets applied) goal header path

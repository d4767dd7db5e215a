-- What the steps of judging know, atom by atom.
use Rattle.std.specs.Prelude.{◌≡◌, ◌↔◌, ℕ, ◌<◌, Bool, true, List, [], length, Option, None, MatchOption, slice_index_or}
use Rattle.np_space.specs.Header.{zeros}
use Rattle.np_atomset.specs.AtomSet.{has_member}
use Rattle.np_net.specs.Plan.{Plan}
use Rattle.np_net.specs.declared.filtering.Goal.{Goal}
use Rattle.np_cut.specs.AppliedLists.{AppliedLists, applied_lets}
use Rattle.np_flow.specs.Postures.{lets_atom, atom_count, AllHaveLength}
use Rattle.np_flow.specs.Carrying.{Reaches, IsFirstPath}
use Rattle.np_flow.specs.declared.spreading.Reached.{Reached}
use Rattle.np_goals.specs.Cases.{IsCaseOf, goal_at}
use Rattle.np_goals.specs.Verdicts.{IsVerdict}
use Rattle.np_goals.specs.declared.cases.Case.{Case}
use Rattle.np_goals.specs.declared.verdicts.Verdict.{Verdict}
use Rattle.np_goals.specs.declared.verdicts.Verdict.TheVariants.{Holds, Violated}

-- ---- flows

-- for each area the atoms that reach it from one area
pub record IsFlowFrom (net : Plan) (slots : List (List Bool)) (from : ℕ) (sets : List (List Bool)) : Type 0 where
  pub each : length sets ≡ length net.areas
  pub lengths : AllHaveLength (atom_count slots) sets
  pub exact : (area atom : ℕ) → area < length net.areas → (has_member (slice_index_or sets area []) atom ≡ true) ↔ Reaches net.interfaces (lets_atom slots atom) from area

-- the flow from an area, which is there exactly where a goal begins
pub record IsFlowAt (net : Plan) (slots : List (List Bool)) (area : ℕ) (found : Option Reached) : Type 0 where
  pub begun : (k : ℕ) (d : Goal) → k < length net.goals → (goal_at net.goals d k).from ≡ area → MatchOption found ⊥ (λ reached. IsFlowFrom net slots area reached.sets)
  pub idle : ((k : ℕ) (d : Goal) → k < length net.goals → (goal_at net.goals d k).from ≡ area → ⊥) → found ≡ None

-- the flows from the first n areas
pub record AreFlows (net : Plan) (slots : List (List Bool)) (n : ℕ) (flows : List (Option Reached)) : Type 0 where
  pub count : length flows ≡ n
  pub each : (area : ℕ) → area < n → IsFlowAt net slots area (slice_index_or flows area None)

-- ---- atoms

-- an atom that both sets have
pub record IsInBoth (xs ys : List Bool) (atom : ℕ) : Type 0 where
  pub first : has_member xs atom ≡ true
  pub second : has_member ys atom ≡ true

-- an atom that this goal, goal k, forbids, and that some path from its one area to the other carries
pub record IsBadFor (net : Plan) (case : Case) (goal : Goal) (k atom : ℕ) : Type 0 where
  pub forbidden : has_member (slice_index_or case.bad k []) atom ≡ true
  pub reaches : Reaches net.interfaces (lets_atom case.posture.slots atom) goal.from goal.to

-- the least number of which the statement holds
pub record IsLeastNumber (P : ℕ → Type 0) (n : ℕ) : Type 0 where
  pub holds : P n
  pub least : (k : ℕ) → k < n → P k → ⊥

-- an answer that is the least such number, where there is one
abbrev pub AnswersLeast : (ℕ → Type 0) → Option ℕ → Type 0
AnswersLeast P found = MatchOption found ((n : ℕ) → P n → ⊥) (λ n. IsLeastNumber P n)

-- ---- verdicts

-- what a verdict on this goal, goal k, says of atoms
abbrev pub IsAtomVerdict : Plan → Case → Goal → ℕ → Verdict → Type 0
IsAtomVerdict net case goal k Holds = (atom : ℕ) → IsBadFor net case goal k atom → ⊥
IsAtomVerdict net case goal k (Violated header path) =
    (atom : ℕ) × IsLeastNumber (IsBadFor net case goal k) atom × (header ≡ slice_index_or case.leasts atom zeros) × IsFirstPath net.interfaces (lets_atom case.posture.slots atom) goal.from path.hops goal.to

-- a verdict that is right for whatever lists this is the case of
pub record IsRight (net : Plan) (case : Case) (k : ℕ) (verdict : Verdict) : Type 0 where
  pub right : (applied : AppliedLists) → IsCaseOf net.interfaces net.goals applied case → (d : Goal) → IsVerdict net.interfaces (applied_lets applied) (goal_at net.goals d k) verdict

-- right verdicts on the first n goals
pub record AreRight (net : Plan) (case : Case) (n : ℕ) (verdicts : List Verdict) : Type 0 where
  pub count : length verdicts ≡ n
  pub each : (k : ℕ) → k < n → IsRight net case k (slice_index_or verdicts k Holds)

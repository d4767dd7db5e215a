-- What becomes of a filtering goal, over headers and paths.
use Rattle.std.specs.Prelude.{◌≡◌, ℕ, Bool, true, not, List, if◌then◌else◌}
use Rattle.np_space.specs.Header.{IsValid, IsLeastOf}
use Rattle.np_space.specs.declared.headers.Header.{Header}
use Rattle.np_pred.specs.Meaning.{pred_holds}
use Rattle.np_net.specs.declared.filtering.Goal.{Goal}
use Rattle.np_net.specs.declared.filtering.Interface.{Interface}
use Rattle.np_flow.specs.Carrying.{Reaches, IsFirstPath}
use Rattle.np_goals.specs.declared.verdicts.Verdict.{Verdict}
use Rattle.np_goals.specs.declared.verdicts.Verdict.TheVariants.{Holds, Violated}

-- the goal forbids the header: `never` where its predicate holds, `only` where it doesn't
abbrev pub forbids : Goal → Header → Bool
forbids goal h = if goal.only then not (pred_holds goal.pred h) else pred_holds goal.pred h

-- a valid header that the goal forbids, and that some path from its one area to the other carries
pub record Breaks (interfaces : List Interface) (lets : ℕ → Header → Bool) (goal : Goal) (h : Header) : Type 0 where
  pub valid : IsValid h
  pub forbidden : forbids goal h ≡ true
  pub reaches : Reaches interfaces (λ slot. lets slot h) goal.from goal.to

-- it holds where no header breaks it; else the least header that does is named, on the first of its shortest paths
abbrev pub IsVerdict : List Interface → (ℕ → Header → Bool) → Goal → Verdict → Type 0
IsVerdict interfaces lets goal Holds = (h : Header) → Breaks interfaces lets goal h → ⊥
IsVerdict interfaces lets goal (Violated header path) =
    IsLeastOf (Breaks interfaces lets goal) header × IsFirstPath interfaces (λ slot. lets slot header) goal.from path.hops goal.to

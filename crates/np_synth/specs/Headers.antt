-- What is synthesised, header by header.
use Rattle.std.specs.Prelude.{ℕ, ◌<◌, Bool, false, List, length, slice_index_or}
use Rattle.np_space.specs.Header.{IsValid, zeros}
use Rattle.np_space.specs.declared.headers.Header.{Header}
use Rattle.np_pred.specs.declared.predicate.Pred.TheVariants.{Any}
use Rattle.np_net.specs.Plan.{Plan}
use Rattle.np_net.specs.declared.filtering.Goal.{Goal}
use Rattle.np_net.specs.declared.paths.Path.{Path}
use Rattle.np_goals.specs.Cases.{goal_at}
use Rattle.np_goals.specs.Verdicts.{forbids, IsVerdict}
use Rattle.np_goals.specs.declared.verdicts.Verdict.TheVariants.{Holds, Violated}
use Rattle.np_synth.specs.Choosing.{shut, BreaksSome, IsChosen, IsMaximal}
use Rattle.np_synth.specs.Dropping.{AreDropped}
use Rattle.np_synth.specs.declared.chosen.Dropped.{Dropped}

-- what stands in the place of a goal that there isn't
abbrev pub no_goal : Goal
no_goal = record { from = 0; to = 0; only = false; pred = Any }

-- the goals that forbid a header
abbrev pub forbidding : List Goal → Header → ℕ → Bool
forbidding goals h k = forbids (goal_at goals no_goal k) h

-- With the free slots shut no goal is broken; each valid header crosses the slots that the chosen posture lets it cross; and the drops are
-- those of the least members of the atoms.
pub record IsSynthesised (net : Plan) (lets : ℕ → Header → Bool) (leasts : List Header) (chosen : ℕ → Header → Bool) (drops : List Dropped) : Type 0 where
  pub attained : (h : Header) → IsValid h → BreaksSome net.interfaces net.goals (forbidding net.goals h) (shut net.free (λ s. lets s h)) → ⊥
  pub chosen_is : (h : Header) → IsValid h → IsChosen net.interfaces net.goals (forbidding net.goals h) net.free (λ s. lets s h) (λ s. chosen s h)
  pub dropped : AreDropped net.interfaces net.goals net.free (length leasts) (λ atom. forbidding net.goals (slice_index_or leasts atom zeros)) (λ atom s. chosen s (slice_index_or leasts atom zeros)) drops

-- With the free slots shut this is the first goal that is violated, by this header as the least one and on this path as its first.
pub record IsUnattained (net : Plan) (lets : ℕ → Header → Bool) (goal : ℕ) (header : Header) (path : Path) : Type 0 where
  pub within : goal < length net.goals
  pub violated : (d : Goal) → IsVerdict net.interfaces (λ s h. shut net.free (λ t. lets t h) s) (goal_at net.goals d goal) (Violated header path)
  pub first : (k : ℕ) (d : Goal) → k < goal → IsVerdict net.interfaces (λ s h. shut net.free (λ t. lets t h) s) (goal_at net.goals d k) Holds

-- No valid header breaks a goal, and letting one valid header cross one more free slot breaks one.
abbrev pub IsMaximalOver : Plan → (ℕ → Header → Bool) → Type 0
IsMaximalOver net chosen = (h : Header) → IsValid h → IsMaximal net.interfaces net.goals (forbidding net.goals h) net.free (λ s. chosen s h)

-- What is synthesised is maximal.
abbrev pub SynthesisedIsMaximal : Type 0
SynthesisedIsMaximal = (net : Plan) (lets : ℕ → Header → Bool) (leasts : List Header) (chosen : ℕ → Header → Bool) (drops : List Dropped) →
    IsSynthesised net lets leasts chosen drops → IsMaximalOver net chosen

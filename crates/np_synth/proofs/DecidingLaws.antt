-- Whether a goal is broken is decided, and of the goals that are broken there is a first one.
use Rattle.std.proofs.Common.{◌⊎◌, ℕ, zero, suc, ◌<◌, ◌≤◌, Bool, List, length, subst, inl, inr, arith}
use Rattle.std.proofs.lemmas.Bool.{cases_eq}
use Rattle.std.proofs.lemmas.List.{get_or_default}
use Rattle.np_net.specs.declared.filtering.Goal.{Goal}
use Rattle.np_net.specs.declared.filtering.Interface.{Interface}
use Rattle.np_flow.specs.Carrying.{Reaches}
use Rattle.np_flow.proofs.FindingLaws.{true_or_false, both_or_not, have_first_paths}
use Rattle.np_goals.specs.Cases.{goal_at}
use Rattle.np_synth.specs.Choosing.{IsBroken, BreaksSome, IsFirstBroken}
use Rattle.np_synth.specs.Headers.{no_goal}

module _ (interfaces : List Interface) (goals : List Goal) (bad lets : ℕ → Bool) where
  -- some path may be crossed, or none
  reaches_or_not : (a b : ℕ) → Reaches interfaces lets a b ⊎ (Reaches interfaces lets a b → ⊥)
  reaches_or_not a b = elim (have_first_paths interfaces lets a b) [
    | inl first ↦ inl record { hops = first.0; carries = first.1.carries }
    | inr none ↦ inr none
  ]

  -- this goal is broken, or isn't
  broken_or_not : (k : ℕ) → k < length goals → IsBroken interfaces goals bad lets k ⊎ (IsBroken interfaces goals bad lets k → ⊥)
  broken_or_not k below =
      elim (both_or_not (true_or_false (bad k)) (reaches_or_not (goal_at goals no_goal k).from (goal_at goals no_goal k).to)) [
        | inl both ↦
            inl record {
              within = below;
              forbidden = both.0;
              reaches = λ d. subst (λ (goal : Goal). Reaches interfaces lets goal.from goal.to) (get_or_default goals k no_goal d below) both.1;
            }
        | inr none ↦ inr (λ is. none (is.forbidden, is.reaches no_goal))
      ]

  -- one of these goals is the first that is broken, or none of them is broken
  first_below : (n : ℕ) → n ≤ length goals → ((k : ℕ) × IsFirstBroken interfaces goals bad lets k) ⊎ ((k : ℕ) → k < n → IsBroken interfaces goals bad lets k → ⊥)
  first_below zero upto = inr (λ k less. absurd (omega arith))
  first_below (suc n) upto =
      elim (first_below n (omega arith)) [
        | inl found ↦ inl found
        | inr none ↦
            elim (broken_or_not n (omega arith)) [
              | inl broken ↦ inl (n, record { broken = broken; first = none })
              | inr whole ↦
                  inr (λ k less is. elim (cases_eq k n) [
                    | inl last ↦ whole (subst (λ m. IsBroken interfaces goals bad lets m) last is)
                    | inr other ↦ none k (omega arith) is
                  ])
            ]
      ]

  -- some goal is the first that is broken, or none is broken
  pub first_or_none : ((k : ℕ) × IsFirstBroken interfaces goals bad lets k) ⊎ (BreaksSome interfaces goals bad lets → ⊥)
  first_or_none = elim (first_below (length goals) (omega arith)) [ inl found ↦ inl found | inr none ↦ inr (λ b. none b.goal b.broken.within b.broken) ]

  -- so where some goal is broken there is a first one
  pub first_of_some : BreaksSome interfaces goals bad lets → (k : ℕ) × IsFirstBroken interfaces goals bad lets k
  first_of_some b = elim first_or_none [ inl found ↦ found | inr none ↦ absurd (none b) ]

  -- and whether one is broken is decided
  pub breaks_or_not : BreaksSome interfaces goals bad lets ⊎ (BreaksSome interfaces goals bad lets → ⊥)
  breaks_or_not = elim first_or_none [ inl found ↦ inl record { goal = found.0; broken = found.1.broken } | inr none ↦ inr none ]

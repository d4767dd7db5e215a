-- A goal is broken with the free slots shut, or there is a synthesis.
use Rattle.std.proofs.Common.{◌≡◌, ◌⊎◌, ℕ, zero, suc, ◌*◌, ◌<◌, ◌≤◌, Bool, true, false, List, length, get_or, sym, inl, inr, subst, arith}
use Rattle.std.proofs.lemmas.Bool.{cases_eq}
use Rattle.std.proofs.lemmas.List.{get_or_default}
use Rattle.np_space.specs.Header.{IsValid, zeros}
use Rattle.np_space.specs.declared.headers.Header.{Header}
use Rattle.np_net.specs.Plan.{Plan}
use Rattle.np_net.specs.declared.filtering.Goal.{Goal}
use Rattle.np_net.specs.declared.paths.Path.{Path}
use Rattle.np_goals.specs.Cases.{goal_at}
use Rattle.np_goals.specs.Verdicts.{IsVerdict}
use Rattle.np_goals.specs.declared.verdicts.Verdict.{Verdict}
use Rattle.np_goals.specs.declared.verdicts.Verdict.TheVariants.{Holds, Violated}
use Rattle.np_goals.proofs.ExistenceLaws.{have_verdicts}
use Rattle.np_synth.specs.Choosing.{is_free, shut, opened, BreaksSome, IsChosen}
use Rattle.np_synth.specs.Dropping.{AreDropped}
use Rattle.np_synth.specs.Headers.{no_goal, forbidding, IsSynthesised, IsUnattained}
use Rattle.np_synth.specs.Existence.{HaveSyntheses}
use Rattle.np_synth.specs.declared.chosen.Dropped.{Dropped}
use Rattle.np_synth.proofs.ChoosingLaws.{chosen_is_full}
use Rattle.np_synth.proofs.ChoiceLaws.{have_chosen}
use Rattle.np_synth.proofs.GatheringLaws.{drops_of}
use Rattle.np_synth.proofs.HeaderLaws.{breaks_of_broken}

module _ (net : Plan) (lets : ℕ → Header → Bool) where
  -- what crosses while the free slots are shut
  abbrev while_shut : ℕ → Header → Bool
  while_shut s h = shut net.free (λ t. lets t h) s

  -- ---- goals that can't be attained

  -- some goal can't be
  abbrev Denied : Type 0
  Denied = (goal : ℕ) × (header : Header) × (path : Path) × IsUnattained net lets goal header path

  -- the first n goals hold with the free slots shut
  abbrev HoldBelow : ℕ → Type 0
  HoldBelow n = (k : ℕ) (d : Goal) → k < n → IsVerdict net.interfaces while_shut (goal_at net.goals d k) Holds

  -- the verdict on a goal is the same whatever stands for a goal that there isn't
  at_any : (k : ℕ) → k < length net.goals → (verdict : Verdict) → IsVerdict net.interfaces while_shut (goal_at net.goals no_goal k) verdict → (d : Goal) → IsVerdict net.interfaces while_shut (goal_at net.goals d k) verdict
  at_any k below verdict is d = subst (λ goal. IsVerdict net.interfaces while_shut goal verdict) (get_or_default net.goals k no_goal d below) is

  -- a goal after those that hold holds too, or is the first that is violated
  one_goal : (n : ℕ) → n < length net.goals → HoldBelow n → (verdict : Verdict) → IsVerdict net.interfaces while_shut (goal_at net.goals no_goal n) verdict → Denied ⊎ HoldBelow (suc n)
  one_goal n below hold Holds is = inr more
    where
      more : HoldBelow (suc n)
      more k d less =
          elim (cases_eq k n) [
            | inl last ↦ subst (λ m. IsVerdict net.interfaces while_shut (goal_at net.goals d m) Holds) (sym last) (at_any n below Holds is d)
            | inr other ↦ hold k d (omega arith)
          ]
  one_goal n below hold (Violated header path) is =
      inl (n, header, path, record { within = below; violated = at_any n below (Violated header path) is; first = hold })

  -- so the first goals hold, or some goal can't be attained
  first_goals : (n : ℕ) → n ≤ length net.goals → Denied ⊎ HoldBelow n
  first_goals zero upto = inr (λ k d less. absurd (omega arith))
  first_goals (suc n) upto =
      elim (first_goals n (omega arith)) [
        | inl denied ↦ inl denied
        | inr hold ↦
            let found = have_verdicts net.interfaces while_shut (goal_at net.goals no_goal n) in
            one_goal n (omega arith) hold found.0 found.1
      ]

  -- where all goals hold none is broken
  none_broken : HoldBelow (length net.goals) → (h : Header) → IsValid h → BreaksSome net.interfaces net.goals (forbidding net.goals h) (shut net.free (λ s. lets s h)) → ⊥
  none_broken hold h valid b =
      hold b.goal no_goal b.broken.within h (breaks_of_broken net.interfaces net.goals while_shut b.goal no_goal h valid b.broken)

  -- ---- the synthesis

  -- a posture of each header
  chosen_for : ℕ → Header → Bool
  chosen_for s h = (have_chosen net.interfaces net.goals (forbidding net.goals h) net.free (λ t. lets t h)).0 s

  -- it is the chosen one
  chosen_for_is : (h : Header) → IsChosen net.interfaces net.goals (forbidding net.goals h) net.free (λ s. lets s h) (λ s. chosen_for s h)
  unfolding chosen_for
  chosen_for_is h = (have_chosen net.interfaces net.goals (forbidding net.goals h) net.free (λ t. lets t h)).1

  module _ (leasts : List Header) where
    -- opening a free slot that is shut for one of the least members breaks a goal
    full : (slot atom : ℕ) → slot < 2 * length net.interfaces → atom < length leasts → is_free net.free slot ≡ true → chosen_for slot (get_or leasts atom zeros) ≡ false
        → BreaksSome net.interfaces net.goals (forbidding net.goals (get_or leasts atom zeros)) (opened (λ s. chosen_for s (get_or leasts atom zeros)) slot)
    full slot atom within below yes_free is_shut =
        let h = get_or leasts atom zeros in
        chosen_is_full net.interfaces net.goals (forbidding net.goals h) net.free (λ s. lets s h) (λ s. chosen_for s h) (chosen_for_is h) slot within yes_free is_shut

    -- the drops of the least members
    drops_for : (drops : List Dropped) × AreDropped net.interfaces net.goals net.free (length leasts) (λ atom. forbidding net.goals (get_or leasts atom zeros)) (λ atom s. chosen_for s (get_or leasts atom zeros)) drops
    drops_for = drops_of net.interfaces net.goals net.free (length leasts) (λ atom. forbidding net.goals (get_or leasts atom zeros)) (λ atom s. chosen_for s (get_or leasts atom zeros)) full

    -- where all goals hold with the free slots shut these are what is synthesised
    synthesised : HoldBelow (length net.goals) → (chosen : ℕ → Header → Bool) × (drops : List Dropped) × IsSynthesised net lets leasts chosen drops
    synthesised hold =
        let drops = drops_for in
        (chosen_for, drops.0, record { attained = none_broken hold; chosen_is = λ h valid. chosen_for_is h; dropped = drops.1 })

-- there is a goal that can't be attained, or a synthesis
pub have_syntheses : HaveSyntheses
have_syntheses net lets leasts = elim (first_goals net lets (length net.goals) (omega arith)) [ inl denied ↦ inl denied | inr hold ↦ inr (synthesised net lets leasts hold) ]

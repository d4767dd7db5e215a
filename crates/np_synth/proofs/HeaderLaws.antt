-- What is broken and what is maximal, header by header.
use Rattle.std.proofs.Common.{ℕ, ◌<◌, Bool, List, length, ◌∙◌, ap, subst}
use Rattle.std.proofs.lemmas.List.{get_or_default}
use Rattle.np_space.specs.Header.{IsValid}
use Rattle.np_space.specs.declared.headers.Header.{Header}
use Rattle.np_net.specs.declared.filtering.Goal.{Goal}
use Rattle.np_net.specs.declared.filtering.Interface.{Interface}
use Rattle.np_flow.specs.Carrying.{Reaches}
use Rattle.np_goals.specs.Cases.{goal_at}
use Rattle.np_goals.specs.Verdicts.{forbids, Breaks}
use Rattle.np_synth.specs.Choosing.{IsBroken}
use Rattle.np_synth.specs.Headers.{no_goal, forbidding, SynthesisedIsMaximal}
use Rattle.np_synth.proofs.ChoosingLaws.{chosen_is_maximal}

-- each valid header's posture is maximal
pub synthesised_is_maximal : SynthesisedIsMaximal
synthesised_is_maximal net lets leasts chosen drops is h valid =
    chosen_is_maximal net.interfaces net.goals (forbidding net.goals h) net.free (λ s. lets s h) (λ s. chosen s h) (is.chosen_is h valid) (is.attained h valid)

module _ (interfaces : List Interface) (goals : List Goal) (lets : ℕ → Header → Bool) (k : ℕ) (d : Goal) (h : Header) where
  -- a valid header for which a goal is broken breaks it
  pub breaks_of_broken : IsValid h → IsBroken interfaces goals (forbidding goals h) (λ s. lets s h) k → Breaks interfaces lets (goal_at goals d k) h
  breaks_of_broken valid is =
      record { valid = valid; forbidden = ap (λ goal. forbids goal h) (get_or_default goals k d no_goal is.within) ∙ is.forbidden; reaches = is.reaches d }

  -- and the other way round
  pub broken_of_breaks : k < length goals → Breaks interfaces lets (goal_at goals d k) h → IsBroken interfaces goals (forbidding goals h) (λ s. lets s h) k
  broken_of_breaks within b =
      record {
        within = within;
        forbidden = ap (λ goal. forbids goal h) (get_or_default goals k no_goal d within) ∙ b.forbidden;
        reaches = λ e. subst (λ goal. Reaches interfaces (λ s. lets s h) goal.from goal.to) (get_or_default goals k d e within) b.reaches;
      }

-- There are always the least members of the classes, and a verdict on each goal.
use Rattle.std.proofs.Common.{◌⊎◌, ℕ, Bool, List, refl, sym, ◌∙◌, inl, inr}
use Rattle.std.specs.Bool.{beq}
use Rattle.std.specs.Cmp.Lexicographic.{pointwise}
use Rattle.np_space.specs.Header.{is_valid_header, IsValid, IsLeastOf, header_le}
use Rattle.np_space.specs.Classes.{cuts_say, IsAlike, IsLeastAlike}
use Rattle.np_space.specs.declared.headers.Header.{Header}
use Rattle.np_space.proofs.HeaderLemmas.{valid_widths}
use Rattle.np_space.proofs.OrderLemmas.{le_chained}
use Rattle.np_atomset.proofs.Sets.{equal_sets}
use Rattle.np_net.specs.declared.filtering.Goal.{Goal}
use Rattle.np_net.specs.declared.filtering.Interface.{Interface}
use Rattle.np_flow.specs.Carrying.{Reaches}
use Rattle.np_flow.proofs.FindingLaws.{true_or_false, both_or_not, have_first_paths}
use Rattle.np_goals.specs.Verdicts.{forbids, Breaks, IsVerdict}
use Rattle.np_goals.specs.Existence.{HaveLeasts, HaveVerdicts}
use Rattle.np_goals.specs.declared.verdicts.Verdict.{Verdict}
use Rattle.np_goals.specs.declared.verdicts.Verdict.TheVariants.{Holds, Violated}
use Rattle.np_space.proofs.Listing.{headers_of, least_or_none}

-- ---- the leasts

module _ (tests : List (Header → Bool)) where
  -- a valid header that is alike to this one
  abbrev IsOneOf : Header → Header → Type 0
  IsOneOf h k = IsValid k × IsAlike tests h k

  alike_or_not : (h k : Header) → IsAlike tests h k ⊎ (IsAlike tests h k → ⊥)
  alike_or_not h k =
      let decides = equal_sets (cuts_say tests h) (cuts_say tests k) (pointwise beq (cuts_say tests h) (cuts_say tests k)) refl in
      elim (true_or_false (pointwise beq (cuts_say tests h) (cuts_say tests k))) [ inl same ↦ inl (decides.0 same) | inr differ ↦ inr (λ e. differ (decides.1 e)) ]

  least_one : (h : Header) → ((x : Header) × IsLeastOf (IsOneOf h) x) ⊎ ((k : Header) → IsOneOf h k → ⊥)
  least_one h = least_or_none (IsOneOf h) (λ k. both_or_not (true_or_false (is_valid_header k)) (alike_or_not h k)) (λ k one. valid_widths k one.0)

  -- the least header that is alike to a valid one
  least_alike_to : (h : Header) → IsValid h → (x : Header) × IsLeastOf (IsOneOf h) x
  least_alike_to h valid = elim (least_one h) [ inl found ↦ found | inr none ↦ absurd (none h (valid, refl)) ]

  -- it is the least of those that are alike to itself
  is_least_alike : (h x : Header) → IsLeastOf (IsOneOf h) x → IsLeastAlike tests x
  is_least_alike h x is = record { valid = is.has.0; least = λ k valid alike. is.least k (valid, is.has.1 ∙ alike) }

  least_alike_or_not : (h : Header) → IsLeastAlike tests h ⊎ (IsLeastAlike tests h → ⊥)
  least_alike_or_not h = elim (true_or_false (is_valid_header h)) [
    | inr invalid ↦ inr (λ is. invalid is.valid)
    | inl valid ↦
        let found = least_alike_to h valid in
        elim (true_or_false (header_le h found.0)) [
          | inl upto ↦ inl record { valid = valid; least = λ k its alike. le_chained h found.0 k upto (found.1.least k (its, alike)) }
          | inr above ↦ inr (λ is. above (is.least found.0 found.1.has.0 found.1.has.1))
        ]
  ]

-- each list of tests has its leasts
pub have_leasts : HaveLeasts
have_leasts tests =
    let found = headers_of (IsLeastAlike tests) (least_alike_or_not tests) (λ h is. valid_widths h is.valid) in (
      found.0,
      record {
        each = found.1.each;
        ascending = found.1.ascending;
        reached = λ h valid.
            let least = least_alike_to tests h valid in
            record { one = least.0; listed = found.1.every least.0 (is_least_alike tests h least.0 least.1); alike = sym least.1.has.1 };
      },
    )

-- ---- the verdicts

module _ (interfaces : List Interface) (lets : ℕ → Header → Bool) (goal : Goal) where
  reaches_or_not : (h : Header) → Reaches interfaces (λ slot. lets slot h) goal.from goal.to ⊎ (Reaches interfaces (λ slot. lets slot h) goal.from goal.to → ⊥)
  reaches_or_not h = elim (have_first_paths interfaces (λ slot. lets slot h) goal.from goal.to) [
    | inl first ↦ inl record { hops = first.0; carries = first.1.carries }
    | inr none ↦ inr none
  ]

  breaks_or_not : (h : Header) → Breaks interfaces lets goal h ⊎ (Breaks interfaces lets goal h → ⊥)
  breaks_or_not h =
      elim (both_or_not (true_or_false (is_valid_header h)) (both_or_not (true_or_false (forbids goal h)) (reaches_or_not h))) [
        | inl all ↦ inl record { valid = all.0; forbidden = all.1.0; reaches = all.1.1 }
        | inr none ↦ inr (λ b. none (b.valid, (b.forbidden, b.reaches)))
      ]

  -- the least header that breaks the goal, on its first path
  violated : (x : Header) → IsLeastOf (Breaks interfaces lets goal) x → (verdict : Verdict) × IsVerdict interfaces lets goal verdict
  violated x least = elim (have_first_paths interfaces (λ slot. lets slot x) goal.from goal.to) [
    | inl first ↦ (Violated x record { hops = first.0 }, (least, first.1))
    | inr none ↦ absurd (none least.has.reaches)
  ]

  verdict_of : (verdict : Verdict) × IsVerdict interfaces lets goal verdict
  verdict_of = elim (least_or_none (Breaks interfaces lets goal) breaks_or_not (λ h b. valid_widths h b.valid)) [
    | inl found ↦ violated found.0 found.1
    | inr none ↦ (Holds, none)
  ]

-- each goal has a verdict
pub have_verdicts : HaveVerdicts
have_verdicts interfaces lets goal = verdict_of interfaces lets goal

-- The steps of judging: the least atom that is forbidden and carried, and one verdict more.
use Rattle.std.proofs.Common.{◌≡◌, ℕ, ◌+◌, ◌<◌, ◌≤◌, ◌⊎◌, ◌&&◌, Bool, true, false, List, [], ◌∷◌, ◌++◌, length, get_or, length-append, refl, sym, ◌∙◌, ap, subst, inl, inr, arith}
use Rattle.std.specs.Prelude.{Option, None, Some, IfNone, IfSome, MatchOption}
use Rattle.std.proofs.Math.ListN.{get_or-append}
use Rattle.std.proofs.lemmas.Bool.{cases_lt, and_parts}
use Rattle.std.proofs.lemmas.List.{get_or_push, get_or_default}
use Rattle.np_atomset.specs.AtomSet.{has_member, met}
use Rattle.np_atomset.proofs.Sets.{has_member-met}
use Rattle.np_net.specs.declared.filtering.Goal.{Goal}
use Rattle.np_net.specs.Network.{IsGoal, IsNetwork}
use Rattle.np_net.specs.Plan.{Plan}
use Rattle.np_net.proofs.RangeLaws.{goal_in_range}
use Rattle.np_flow.specs.Postures.{atom_count, AllHaveLength}
use Rattle.np_flow.specs.declared.spreading.Reached.{Reached}
use Rattle.np_goals.specs.Cases.{HasSizes, goal_at}
use Rattle.np_goals.specs.Judging.{IsFlowFrom, AreFlows, IsInBoth, IsBadFor, AnswersLeast, IsRight, AreRight}
use Rattle.np_goals.specs.declared.cases.Case.{Case}
use Rattle.np_goals.specs.declared.verdicts.Verdict.{Verdict}
use Rattle.np_goals.specs.declared.verdicts.Verdict.TheVariants.{Holds}

-- ---- answers

-- an answer serves for each statement that is as true of each number
pub answers_same : (P Q : ℕ → Type 0) (found : Option ℕ) → ((n : ℕ) → P n → Q n) → ((n : ℕ) → Q n → P n) → AnswersLeast P found → AnswersLeast Q found
answers_same P Q None f g none = λ n q. none n (g n q)
answers_same P Q (Some n) f g is = record { holds = f n is.holds; least = λ k less q. is.least k less (g k q) }

-- ---- the least atom of two sets

-- a member of the set that they have in common is one of both
both_from_met : (xs ys : List Bool) (n : ℕ) → length xs ≡ length ys → has_member (met xs ys) n ≡ true → IsInBoth xs ys n
both_from_met xs ys n same has =
    let parts = and_parts (has_member xs n) (has_member ys n) (sym (has_member-met xs ys same n) ∙ has) in
    record { first = parts.0; second = parts.1 }

-- and the other way round
met_from_both : (xs ys : List Bool) (n : ℕ) → length xs ≡ length ys → IsInBoth xs ys n → has_member (met xs ys) n ≡ true
met_from_both xs ys n same is = has_member-met xs ys same n ∙ (λ i. is.first i && is.second i)

-- where that set has none, there is none
not_in_both : (xs ys : List Bool) (n : ℕ) → length xs ≡ length ys → has_member (met xs ys) n ≡ false → IsInBoth xs ys n → ⊥
not_in_both xs ys n same not is = let clash : true ≡ false = sym (met_from_both xs ys n same is) ∙ not in cc

-- the first member of what they have in common is their least one
pub first_of_met : (xs ys both : List Bool) (found : Option ℕ) → length xs ≡ length ys → both ≡ met xs ys
    → IfNone found ((n : ℕ) → has_member both n ≡ false) → IfSome found (λ n. has_member both n ≡ true) → IfSome found (λ n. (k : ℕ) → k < n → has_member both k ≡ false)
    → AnswersLeast (IsInBoth xs ys) found
first_of_met xs ys both None same is empty member least = λ n b. not_in_both xs ys n same (sym (ap (λ s. has_member s n) is) ∙ empty n) b
first_of_met xs ys both (Some n) same is empty member least =
    record {
      holds = both_from_met xs ys n same (sym (ap (λ s. has_member s n) is) ∙ member);
      least = λ k less b. not_in_both xs ys k same (sym (ap (λ s. has_member s k) is) ∙ least k less) b;
    }

-- ---- the flow that a goal needs

-- the flow that stands at the goal's first area is the one from there
pub flow_found : (net : Plan) (slots : List (List Bool)) (flows : List (Option Reached)) (k : ℕ) (goal : Goal) (found : Option Reached) (reached : Reached)
    → IsNetwork net → AreFlows net slots (length net.areas) flows → k < length net.goals → goal ≡ get_or net.goals k goal
    → found ≡ get_or flows goal.from found → found ≡ Some reached → IsFlowFrom net slots goal.from reached.sets
flow_found net slots flows k goal found reached is are below at place some =
    let ranges : IsGoal (length net.areas) goal = goal_in_range net is k goal below at in
    let from : goal.from < length net.areas = ranges.from in
    let stands : get_or flows goal.from None ≡ Some reached = get_or_default flows goal.from None found (omega (arith, are.count)) ∙ sym place ∙ some in
    let there : MatchOption (get_or flows goal.from None) ⊥ (λ r. IsFlowFrom net slots goal.from r.sets) = (are.each goal.from from).begun k goal below (ap (λ g. g.from) (sym at)) in
    subst (λ f. MatchOption f ⊥ (λ r. IsFlowFrom net slots goal.from r.sets)) stands there

-- sets of all atoms in each slot, and none without slots
slots_fit : (n : ℕ) (slots : List (List Bool)) → AllHaveLength n slots → (atom_count slots ≡ n) ⊎ (atom_count slots ≡ 0)
slots_fit n [] all = inr refl
slots_fit n (s ∷ ss) all = inl (all 0 (omega arith))

-- what reaches an area has as many atoms as what a goal forbids, or none
pub common_fits : (net : Plan) (case : Case) (k : ℕ) (goal : Goal) (bad set : List Bool) (sets : List (List Bool))
    → IsNetwork net → HasSizes net.interfaces net.goals case → k < length net.goals → goal ≡ get_or net.goals k goal → bad ≡ get_or case.bad k bad → set ≡ get_or sets goal.to []
    → IsFlowFrom net case.posture.slots goal.from sets → (length set ≡ length bad) ⊎ (length set ≡ 0)
common_fits net case k goal bad set sets is sizes below at bad_at set_at flow =
    elim (slots_fit (length case.leasts) case.posture.slots sizes.slot_sizes) [
      | inl all ↦ inl (omega (arith, forbidden, reached))
      | inr none ↦ inr (omega (arith, reached))
    ]
  where
    in_bad : k < length case.bad
    in_bad = omega (arith, sizes.goals_each)

    forbidden : length bad ≡ length case.leasts
    forbidden = ap length (bad_at ∙ get_or_default case.bad k bad [] in_bad) ∙ sizes.goal_sizes k in_bad

    to : goal.to < length net.areas
    to = (goal_in_range net is k goal below at).to

    reached : length set ≡ atom_count case.posture.slots
    reached = ap length set_at ∙ flow.lengths goal.to (omega (arith, to, flow.each))

-- an atom that the goal forbids and that reaches its second area is bad for it, and the other way round
pub bad_from_both : (net : Plan) (case : Case) (k : ℕ) (goal : Goal) (bad set : List Bool) (sets : List (List Bool)) (found : Option ℕ)
    → IsNetwork net → k < length net.goals → goal ≡ get_or net.goals k goal → k < length case.bad → bad ≡ get_or case.bad k bad → set ≡ get_or sets goal.to []
    → IsFlowFrom net case.posture.slots goal.from sets → AnswersLeast (IsInBoth bad set) found → (d : Goal) → AnswersLeast (IsBadFor net case (goal_at net.goals d k) k) found
bad_from_both net case k goal bad set sets found is below at in_bad bad_at set_at flow answer d =
    subst (λ g. AnswersLeast (IsBadFor net case g k) found) (at ∙ get_or_default net.goals k goal d below)
    (answers_same (IsInBoth bad set) (IsBadFor net case goal k) found
    (λ n b. record { forbidden = sym (ap (λ s. has_member s n) bad_here) ∙ b.first; reaches = (flow.exact goal.to n to).0 (sym (ap (λ s. has_member s n) set_at) ∙ b.second) })
    (λ n b. record { first = ap (λ s. has_member s n) bad_here ∙ b.forbidden; second = ap (λ s. has_member s n) set_at ∙ (flow.exact goal.to n to).1 b.reaches })
    answer)
  where
    to : goal.to < length net.areas
    to = (goal_in_range net is k goal below at).to

    bad_here : bad ≡ get_or case.bad k []
    bad_here = bad_at ∙ get_or_default case.bad k bad [] in_bad

-- ---- one verdict more

-- right verdicts, and a right one after them
pub right_more : (net : Plan) (case : Case) (n : ℕ) (verdicts : List Verdict) (verdict : Verdict) → AreRight net case n verdicts → IsRight net case n verdict → AreRight net case (n + 1) (verdicts ++ verdict ∷ [])
right_more net case n verdicts verdict are is =
    record {
      count = length-append verdicts (verdict ∷ []) ∙ ap (λ m. m + 1) are.count;
      each = λ k less. by k less (cases_lt k n);
    }
  where
    by : (k : ℕ) → k < n + 1 → (k < n) ⊎ (n ≤ k) → IsRight net case k (get_or (verdicts ++ verdict ∷ []) k Holds)
    by k less (inl below) = subst (λ v. IsRight net case k v) (sym (get_or-append verdicts (verdict ∷ []) Holds k (omega (arith, are.count)))) (are.each k below)
    by k less (inr above) =
        let last : k ≡ n = omega arith in
        let there : get_or (verdicts ++ verdict ∷ []) k Holds ≡ verdict = get_or_push verdicts verdict Holds k (omega (arith, are.count)) in
        subst (λ v. IsRight net case k v) (sym there) (subst (λ m. IsRight net case m verdict) (sym last) is)

-- The atoms that break goals, by the sets that goals forbid and by flows.
use Rattle.std.proofs.Common.{◌≡◌, ℕ, ◌+◌, ◌<◌, ◌≤◌, ◌⊎◌, ◌&&◌, ◌||◌, Bool, true, List, [], length, get_or, sym, ◌∙◌, ap, subst, inl, inr, arith}
use Rattle.std.proofs.lemmas.Bool.{cases_lt, and_parts, and_from, or_cases, or_left, or_right}
use Rattle.std.proofs.lemmas.List.{get_or_default}
use Rattle.np_atomset.specs.AtomSet.{has_member, met, joined}
use Rattle.np_atomset.proofs.Sets.{has_member-met, has_member-joined, length-combine}
use Rattle.np_net.specs.Network.{IsNetwork}
use Rattle.np_net.specs.Plan.{Plan}
use Rattle.np_net.specs.declared.filtering.Goal.{Goal}
use Rattle.np_net.proofs.RangeLaws.{goal_in_range}
use Rattle.np_flow.specs.Postures.{lets_atom}
use Rattle.np_flow.specs.Carrying.{Reaches}
use Rattle.np_goals.specs.Cases.{HasSizes, goal_at}
use Rattle.np_goals.specs.Judging.{IsFlowFrom}
use Rattle.np_goals.specs.declared.cases.Case.{Case}
use Rattle.np_synth.specs.Steps.{AreSlots, AreCommon, Breaks, AreBreaking, AreBreakingSome}

-- what two sets have in common
pub common_from_met : (xs ys set : List Bool) → length xs ≡ length ys → set ≡ met xs ys → AreCommon xs ys set
common_from_met xs ys set same is =
    record {
      size = ap length is ∙ length-combine (λ x y. x && y) xs ys same;
      both = λ atom has. and_parts (has_member xs atom) (has_member ys atom) (sym (says atom) ∙ has);
      all = λ atom first second. says atom ∙ and_from (has_member xs atom) (has_member ys atom) first second;
    }
  where
    says : (atom : ℕ) → has_member set atom ≡ (has_member xs atom && has_member ys atom)
    says atom = ap (λ s. has_member s atom) is ∙ has_member-met xs ys same atom

-- the case with other sets for its slots
abbrev pub with_slots : Case → List (List Bool) → Case
with_slots case slots = record { posture = record { slots = slots }; bad = case.bad; leasts = case.leasts }

-- it has the sizes that it ought to have
pub sizes_with_slots : (net : Plan) (case : Case) (slots : List (List Bool)) → HasSizes net.interfaces net.goals case → AreSlots net.interfaces (length case.leasts) slots → HasSizes net.interfaces net.goals (with_slots case slots)
sizes_with_slots net case slots sizes are =
    record { slots = are.two_each; slot_sizes = are.sizes; goals_each = sizes.goals_each; goal_sizes = sizes.goal_sizes }

-- an atom breaks a goal exactly if the goal forbids it and it reaches the goal's second area
pub breaking_from_common : (net : Plan) (case : Case) (slots : List (List Bool)) (k : ℕ) (goal : Goal) (bad reached set : List Bool) (sets : List (List Bool))
    → IsNetwork net → HasSizes net.interfaces net.goals case → k < length net.goals → goal ≡ get_or net.goals k goal → bad ≡ get_or case.bad k bad → reached ≡ get_or sets goal.to []
    → IsFlowFrom net slots goal.from sets → AreCommon bad reached set → AreBreaking net case slots k set
breaking_from_common net case slots k goal bad reached set sets is sizes below at bad_at reached_at flow are =
    record {
      size = are.size ∙ ap length bad_here ∙ sizes.goal_sizes k in_bad;
      exact = λ atom. (λ has. breaks atom (are.both atom has), λ b. are.all atom (forbids atom b) (reaches atom b));
    }
  where
    to : goal.to < length net.areas
    to = (goal_in_range net is k goal below at).to

    in_bad : k < length case.bad
    in_bad = omega (arith, sizes.goals_each)

    bad_here : bad ≡ get_or case.bad k []
    bad_here = bad_at ∙ get_or_default case.bad k bad [] in_bad

    there : (d : Goal) → goal ≡ goal_at net.goals d k
    there d = at ∙ get_or_default net.goals k goal d below

    breaks : (atom : ℕ) → (has_member bad atom ≡ true) × (has_member reached atom ≡ true) → Breaks net case slots k atom
    breaks atom both =
        record {
          within = below;
          forbidden = sym (ap (λ s. has_member s atom) bad_here) ∙ both.0;
          reaches = λ d. subst (λ (g : Goal). Reaches net.interfaces (lets_atom slots atom) g.from g.to) (there d) ((flow.exact goal.to atom to).0 (sym (ap (λ s. has_member s atom) reached_at) ∙ both.1));
        }

    forbids : (atom : ℕ) → Breaks net case slots k atom → has_member bad atom ≡ true
    forbids atom b = ap (λ s. has_member s atom) bad_here ∙ b.forbidden

    reaches : (atom : ℕ) → Breaks net case slots k atom → has_member reached atom ≡ true
    reaches atom b =
        ap (λ s. has_member s atom) reached_at
        ∙ (flow.exact goal.to atom to).1 (subst (λ (g : Goal). Reaches net.interfaces (lets_atom slots atom) g.from g.to) (sym (there goal)) (b.reaches goal))

-- the atoms of one goal more
pub breaking_more : (net : Plan) (case : Case) (slots : List (List Bool)) (n : ℕ) (all more after : List Bool) → AreBreakingSome net case slots n all → AreBreaking net case slots n more → after ≡ joined all more → AreBreakingSome net case slots (n + 1) after
breaking_more net case slots n all more after are next is =
    record {
      size = ap length is ∙ length-combine (λ x y. x || y) all more same ∙ are.size;
      all = λ k atom less b. says atom ∙ by k atom less b (cases_lt k n);
      only = λ atom has. found atom (or_cases (has_member all atom) (has_member more atom) (sym (says atom) ∙ has));
    }
  where
    same : length all ≡ length more
    same = are.size ∙ sym next.size

    says : (atom : ℕ) → has_member after atom ≡ (has_member all atom || has_member more atom)
    says atom = ap (λ s. has_member s atom) is ∙ has_member-joined all more same atom

    by : (k atom : ℕ) → k < n + 1 → Breaks net case slots k atom → (k < n) ⊎ (n ≤ k) → (has_member all atom || has_member more atom) ≡ true
    by k atom less b (inl below) = or_left (has_member all atom) (has_member more atom) (are.all k atom below b)
    by k atom less b (inr above) =
        let last : k ≡ n = omega arith in
        or_right (has_member all atom) (has_member more atom) ((next.exact atom).1 (subst (λ m. Breaks net case slots m atom) last b))

    found : (atom : ℕ) → (has_member all atom ≡ true) ⊎ (has_member more atom ≡ true) → (k : ℕ) × (k < n + 1) × Breaks net case slots k atom
    found atom (inl before) = let one = are.only atom before in let less : one.0 < n = one.1 in (one.0, omega arith, one.2)
    found atom (inr last) = (n, omega arith, (next.exact atom).0 last)

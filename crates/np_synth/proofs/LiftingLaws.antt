-- From atoms to headers: what is synthesised for the atoms is synthesised for all valid headers.
use Rattle.std.proofs.Common.{◌≡◌, ℕ, zero, suc, ◌*◌, ◌<◌, ◌≤◌, Bool, true, false, List, [], ◌∷◌, length, get_or, refl, sym, ◌∙◌, ap, subst, inl, inr, arith}
use Rattle.std.specs.Bool.{beq}
use Rattle.std.specs.Cmp.Lexicographic.{pointwise}
use Rattle.std.proofs.lemmas.Bool.{cases_lt, both_ways}
use Rattle.std.proofs.lemmas.List.{get_or_default}
use Rattle.np_space.specs.Header.{IsValid, IsLeastOf, header_le, zeros}
use Rattle.np_space.specs.Classes.{cuts_say, IsAlike, IsLeastAlike, HasAlike}
use Rattle.np_space.specs.declared.headers.Header.{Header}
use Rattle.np_space.proofs.ClassLaws.{one_for_each_class}
use Rattle.np_space.proofs.Listing.{le_later}
use Rattle.np_space.proofs.OrderLemmas.{le_chained}
use Rattle.np_atomset.proofs.Sets.{equal_sets}
use Rattle.np_net.specs.Plan.{Plan}
use Rattle.np_net.specs.declared.filtering.Goal.{Goal}
use Rattle.np_net.specs.declared.paths.Path.{Path}
use Rattle.np_cut.specs.AppliedLists.{AppliedLists, applied_lets}
use Rattle.np_cut.specs.FilterCuts.{filter_tests}
use Rattle.np_flow.specs.Postures.{lets_atom}
use Rattle.np_flow.specs.Carrying.{IsFirstPath}
use Rattle.np_goals.specs.Cases.{IsCaseOf, goal_at}
use Rattle.np_goals.specs.Verdicts.{Breaks, IsVerdict}
use Rattle.np_goals.specs.declared.cases.Case.{Case}
use Rattle.np_goals.specs.declared.verdicts.Verdict.TheVariants.{Holds}
use Rattle.np_goals.proofs.CaseLaws.{first_same, lets_alike, forbids_alike}
use Rattle.np_synth.specs.Choosing.{shut, IsBroken, BreaksSome, IsChosen}
use Rattle.np_synth.specs.Synthesis.{bad_for, shut_for, IsSynthesis, IsUnattainable}
use Rattle.np_synth.specs.Headers.{no_goal, forbidding, IsSynthesised, IsUnattained}
use Rattle.np_synth.specs.Lifting.{IsShown, AtomsStandForHeaders, AtomsDenyForHeaders}
use Rattle.np_synth.specs.Dropping.{AreDropped}
use Rattle.np_synth.specs.declared.chosen.Dropped.{Dropped}
use Rattle.np_synth.proofs.HeaderLaws.{breaks_of_broken, broken_of_breaks}
use Rattle.np_synth.proofs.SameLaws.{SameSlots, SameGoals, turned, shut_same, broken_same, chosen_same, drops_same}

-- ---- the first header of a list that is alike to this one

-- whether the tests say the same of two headers
abbrev says_same : List (Header → Bool) → Header → Header → Bool
says_same tests x h = pointwise beq (cuts_say tests x) (cuts_say tests h)

-- nothing, or one more
abbrev zero_or_suc : Bool → ℕ → ℕ
zero_or_suc true n = 0
zero_or_suc false n = suc n

-- the place of the first header that is alike to this one
first_alike : List (Header → Bool) → List Header → Header → ℕ
first_alike tests [] h = 0
first_alike tests (x ∷ xs) h = zero_or_suc (says_same tests x h) (first_alike tests xs h)

-- this place in the list has a header that is alike
abbrev IsPlaceOf : List (Header → Bool) → List Header → Header → ℕ → Type 0
IsPlaceOf tests xs h n = (n < length xs) × IsAlike tests (get_or xs n zeros) h

module _ (tests : List (Header → Bool)) where
  says_true : (x h : Header) → says_same tests x h ≡ true → IsAlike tests x h
  says_true x h = (equal_sets (cuts_say tests x) (cuts_say tests h) (says_same tests x h) refl).0

  says_alike : (x h : Header) → IsAlike tests x h → says_same tests x h ≡ true
  says_alike x h = (equal_sets (cuts_say tests x) (cuts_say tests h) (says_same tests x h) refl).1

  -- it is the first header, or one of the rest
  first_or_later : (x : Header) (xs : List Header) (h : Header) (n : ℕ) (same : Bool) → says_same tests x h ≡ same → (same ≡ false → IsPlaceOf tests xs h n) → IsPlaceOf tests (x ∷ xs) h (zero_or_suc same n)
  first_or_later x xs h n true e rest = (omega arith, says_true x h e)
  first_or_later x xs h n false e rest = let later = rest refl in let below : n < length xs = later.0 in (omega arith, later.1)

  -- where there is an alike header, the first one is
  is_place : (xs : List Header) (h : Header) (n : ℕ) → IsPlaceOf tests xs h n → IsPlaceOf tests xs h (first_alike tests xs h)
  unfolding first_alike
  is_place [] h n place = let below : n < 0 = place.0 in absurd (omega arith)
  is_place (x ∷ xs) h zero place =
      first_or_later x xs h (first_alike tests xs h) (says_same tests x h) refl (λ differ. absurd (both_ways (says_same tests x h) differ (says_alike x h place.1)))
  is_place (x ∷ xs) h (suc n) place =
      let below : suc n < suc (length xs) = place.0 in
      first_or_later x xs h (first_alike tests xs h) (says_same tests x h) refl (λ differ. is_place xs h n (omega arith, place.1))

-- ---- the atoms of headers

-- the atom of this number is the header's
record IsAtomOf (tests : List (Header → Bool)) (leasts : List Header) (atom : ℕ) (h : Header) : Type 0 where
  pub within : atom < length leasts
  pub alike : IsAlike tests (get_or leasts atom zeros) h

module _ (net : Plan) (applied : AppliedLists) (case : Case) (are : IsCaseOf net.interfaces net.goals applied case) where
  abbrev Is : ℕ → Header → Type 0
  Is atom h = IsAtomOf (filter_tests applied.lists net.goals) case.leasts atom h

  -- the number of a header's atom
  abbrev number_of : Header → ℕ
  number_of h = first_alike (filter_tests applied.lists net.goals) case.leasts h

  -- each valid header has one
  has_atom : (h : Header) → IsValid h → Is (number_of h) h
  has_atom h valid =
      let found : HasAlike (filter_tests applied.lists net.goals) case.leasts h = are.leasts.reached h valid in
      let atom = found.listed.0 in
      let below : atom < length case.leasts = found.listed.1 in
      let same : get_or case.leasts atom zeros ≡ found.one = get_or_default case.leasts atom zeros found.one below ∙ found.listed.2 in
      let alike : IsAlike (filter_tests applied.lists net.goals) (get_or case.leasts atom zeros) h = subst (λ x. IsAlike (filter_tests applied.lists net.goals) x h) (sym same) found.alike in
      let place = is_place (filter_tests applied.lists net.goals) case.leasts h atom (below, alike) in
      record { within = place.0; alike = place.1 }

  -- the atom's least member is valid, and the least of those alike to it
  least_of : (atom : ℕ) → atom < length case.leasts → IsLeastAlike (filter_tests applied.lists net.goals) (get_or case.leasts atom zeros)
  least_of atom below = are.leasts.each atom zeros below

  -- the least member's atom is this one
  number_of_least : (atom : ℕ) → atom < length case.leasts → number_of (get_or case.leasts atom zeros) ≡ atom
  number_of_least atom below =
      let is = has_atom (get_or case.leasts atom zeros) (least_of atom below).valid in
      one_for_each_class (filter_tests applied.lists net.goals) case.leasts are.leasts (number_of (get_or case.leasts atom zeros)) atom zeros is.within below is.alike

  itself : (atom : ℕ) → atom < length case.leasts → Is atom (get_or case.leasts atom zeros)
  itself atom below = record { within = below; alike = refl }

  module _ (atom : ℕ) (h : Header) (valid : IsValid h) (is : Is atom h) where
    -- it crosses the slots that its atom crosses
    same_slots : SameSlots net.interfaces (lets_atom case.posture.slots atom) (λ s. applied_lets applied s h)
    same_slots s below = are.lets s atom below is.within ∙ lets_alike applied net.goals (get_or case.leasts atom zeros) h (least_of atom is.within).valid valid is.alike s

    -- with the free slots shut
    same_shut : SameSlots net.interfaces (shut_for net case atom) (shut net.free (λ s. applied_lets applied s h))
    same_shut = shut_same net.interfaces (lets_atom case.posture.slots atom) (λ s. applied_lets applied s h) same_slots net.free

    -- the goals that forbid its atom forbid it
    same_goals : SameGoals net.goals (bad_for case.bad atom) (forbidding net.goals h)
    same_goals k below = are.bad k atom no_goal below is.within ∙ forbids_alike applied net.goals (get_or case.leasts atom zeros) h (least_of atom is.within).valid valid is.alike k no_goal below

    -- so with the free slots shut the same goals are broken
    broken_for_header : (k : ℕ) → IsBroken net.interfaces net.goals (bad_for case.bad atom) (shut_for net case atom) k → IsBroken net.interfaces net.goals (forbidding net.goals h) (shut net.free (λ s. applied_lets applied s h)) k
    broken_for_header = broken_same net.interfaces net.goals (bad_for case.bad atom) (forbidding net.goals h) (shut_for net case atom) (shut net.free (λ s. applied_lets applied s h)) same_goals same_shut

    broken_for_atom : (k : ℕ) → IsBroken net.interfaces net.goals (forbidding net.goals h) (shut net.free (λ s. applied_lets applied s h)) k → IsBroken net.interfaces net.goals (bad_for case.bad atom) (shut_for net case atom) k
    broken_for_atom =
        broken_same net.interfaces net.goals (forbidding net.goals h) (bad_for case.bad atom) (shut net.free (λ s. applied_lets applied s h)) (shut_for net case atom)
        (turned (length net.goals) (bad_for case.bad atom) (forbidding net.goals h) same_goals)
        (turned (2 * length net.interfaces) (shut_for net case atom) (shut net.free (λ s. applied_lets applied s h)) same_shut)

  -- ---- a synthesis

  module _ (slots : List (List Bool)) (drops : List Dropped) (is : IsSynthesis net case slots drops) where
    -- what the header's atom crosses
    abbrev lets_header : ℕ → Header → Bool
    lets_header s h = lets_atom slots (number_of h) s

    shown : IsShown net (applied_lets applied) case.leasts slots drops
    shown = record { chosen = lets_header; shows = shows; is = synthesised }
      where
        shows : (slot atom : ℕ) → slot < 2 * length net.interfaces → atom < length case.leasts → lets_header slot (get_or case.leasts atom zeros) ≡ lets_atom slots atom slot
        shows slot atom low below = ap (λ a. lets_atom slots a slot) (number_of_least atom below)

        attained : (h : Header) → IsValid h → BreaksSome net.interfaces net.goals (forbidding net.goals h) (shut net.free (λ s. applied_lets applied s h)) → ⊥
        attained h valid b =
            let atom = has_atom h valid in
            is.attained (number_of h) atom.within record { goal = b.goal; broken = broken_for_atom (number_of h) h valid atom b.goal b.broken }

        chosen_is : (h : Header) → IsValid h → IsChosen net.interfaces net.goals (forbidding net.goals h) net.free (λ s. applied_lets applied s h) (λ s. lets_header s h)
        chosen_is h valid =
            let atom = has_atom h valid in
            chosen_same net.interfaces net.goals (bad_for case.bad (number_of h)) (forbidding net.goals h) net.free (same_goals (number_of h) h valid atom)
            (lets_atom case.posture.slots (number_of h)) (λ s. applied_lets applied s h) (lets_atom slots (number_of h)) (λ s. lets_header s h)
            (same_slots (number_of h) h valid atom) (λ s low. refl) (is.chosen (number_of h) atom.within)

        dropped : AreDropped net.interfaces net.goals net.free (length case.leasts) (λ atom. forbidding net.goals (get_or case.leasts atom zeros)) (λ atom s. lets_header s (get_or case.leasts atom zeros)) drops
        dropped =
            drops_same net.interfaces net.goals net.free (length case.leasts) (bad_for case.bad) (λ atom. forbidding net.goals (get_or case.leasts atom zeros))
            (lets_atom slots) (λ atom s. lets_header s (get_or case.leasts atom zeros)) drops
            (λ atom below. same_goals atom (get_or case.leasts atom zeros) (least_of atom below).valid (itself atom below))
            (λ atom below s low. sym (shows s atom low below)) is.dropped

        synthesised : IsSynthesised net (applied_lets applied) case.leasts lets_header drops
        synthesised = record { attained = attained; chosen_is = chosen_is; dropped = dropped }

  -- ---- goals that can't be attained

  -- what crosses while the free slots are shut
  abbrev while_shut : ℕ → Header → Bool
  while_shut s h = shut net.free (λ t. applied_lets applied t h) s

  module _ (goal : ℕ) (header : Header) (path : Path) (un : IsUnattainable net case goal header path.hops) where
    -- the least member of the least atom that breaks the goal is the least header that does
    least_breaks : (d : Goal) → IsLeastOf (Breaks net.interfaces while_shut (goal_at net.goals d goal)) (get_or case.leasts un.atom zeros)
    least_breaks d =
        record {
          has = breaks_of_broken net.interfaces net.goals while_shut goal d (get_or case.leasts un.atom zeros) (least_of un.atom un.within).valid
              (broken_for_header un.atom (get_or case.leasts un.atom zeros) (least_of un.atom un.within).valid (itself un.atom un.within) goal un.least.holds);
          least = upto;
        }
      where
        upto : (h : Header) → Breaks net.interfaces while_shut (goal_at net.goals d goal) h → header_le (get_or case.leasts un.atom zeros) h ≡ true
        upto h b =
            let other = has_atom h b.valid in
            let broken = broken_for_atom (number_of h) h b.valid other goal (broken_of_breaks net.interfaces net.goals while_shut goal d h un.least.holds.within b) in
            let not_later : un.atom ≤ number_of h = elim (cases_lt (number_of h) un.atom) [ inl less ↦ absurd (un.least.least (number_of h) less broken) | inr above ↦ above ] in
            le_chained (get_or case.leasts un.atom zeros) (get_or case.leasts (number_of h) zeros) h
            (le_later case.leasts un.atom (number_of h) zeros are.leasts.ascending not_later other.within)
            ((least_of (number_of h) other.within).least h b.valid other.alike)

    -- so the first goal that no atom attains is the first that is violated
    denied : IsUnattained net (applied_lets applied) goal header path
    denied =
        record {
          within = un.least.holds.within;
          violated = λ d. (
            subst (λ x. IsLeastOf (Breaks net.interfaces while_shut (goal_at net.goals d goal)) x) (sym un.header_is) (least_breaks d),
            subst (λ x. IsFirstPath net.interfaces (λ s. while_shut s x) (goal_at net.goals d goal).from path.hops (goal_at net.goals d goal).to) (sym un.header_is) (path_for d),
          );
          first = holds;
        }
      where
        path_for : (d : Goal) → IsFirstPath net.interfaces (λ s. while_shut s (get_or case.leasts un.atom zeros)) (goal_at net.goals d goal).from path.hops (goal_at net.goals d goal).to
        path_for d =
            first_same net.interfaces (shut_for net case un.atom) (λ s. while_shut s (get_or case.leasts un.atom zeros))
            (same_shut un.atom (get_or case.leasts un.atom zeros) (least_of un.atom un.within).valid (itself un.atom un.within))
            (goal_at net.goals d goal).from path.hops (goal_at net.goals d goal).to (un.path d)

        holds : (k : ℕ) (d : Goal) → k < goal → IsVerdict net.interfaces while_shut (goal_at net.goals d k) Holds
        holds k d less h b =
            let goal_below : goal < length net.goals = un.least.holds.within in
            let below : k < length net.goals = omega arith in
            un.first k (number_of h) less (broken_for_atom (number_of h) h b.valid (has_atom h b.valid) k (broken_of_breaks net.interfaces net.goals while_shut k d h below b))

-- what is synthesised atom by atom is synthesised header by header
pub atoms_stand_for_headers : AtomsStandForHeaders
atoms_stand_for_headers net applied case slots drops are is = shown net applied case are slots drops is

-- and the goals that the atoms can't attain the headers can't
pub atoms_deny_for_headers : AtomsDenyForHeaders
atoms_deny_for_headers net applied case goal header path are un = denied net applied case are goal header path un

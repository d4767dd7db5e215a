-- The sets of a case say of each atom what the lists and the goals say of its least member.
use Rattle.std.proofs.Common.{◌≡◌, ℕ, ◌+◌, ◌*◌, ◌<◌, ◌≤◌, ◌&&◌, Bool, true, false, not, List, [], ◌∷◌, ◌++◌, ◌⊎◌, length, map, get_or, replicate, length-append, refl, sym, ◌∙◌, ap, subst, inl, inr, arith}
use Rattle.std.specs.Prelude.{Option, None, Some, IfSome, if◌then◌else◌}
use Rattle.std.specs.Option.{option_map_or}
use Rattle.std.proofs.Math.ListN.{get_or-append}
use Rattle.std.proofs.lemmas.Bool.{cases_lt}
use Rattle.std.proofs.lemmas.List.{get_or-map, get_or-append-add, get_or_default, get_or_push, length-map, length-replicate}
use Rattle.np_space.specs.Header.{is_valid_header, zeros}
use Rattle.np_space.specs.declared.headers.Header.{Header}
use Rattle.np_acl.specs.declared.entries.Entry.{Entry}
use Rattle.np_acl.specs.Entries.{list_permits}
use Rattle.np_pred.specs.Meaning.{pred_holds}
use Rattle.np_atomset.specs.AtomSet.{has_member, without}
use Rattle.np_atomset.proofs.Sets.{has_member-all, has_member-without, length-combine}
use Rattle.np_atoms.specs.Atoms.{AreAtoms}
use Rattle.np_atoms.specs.declared.Atoms.{Atoms}
use Rattle.np_atoms.proofs.AtomLaws.{sets_counted, answer_said}
use Rattle.np_net.specs.declared.filtering.Goal.{Goal}
use Rattle.np_net.specs.declared.filtering.Interface.{Interface}
use Rattle.np_cut.specs.AppliedLists.{AppliedLists, IsApplied, applied_lets, place_at, list_at}
use Rattle.np_cut.specs.FilterCuts.{list_test, pred_test, list_tests, pred_tests, filter_tests}
use Rattle.np_flow.specs.Postures.{lets_atom, AllHaveLength}
use Rattle.np_goals.specs.Verdicts.{forbids}
use Rattle.np_goals.specs.Cases.{IsCaseOf, goal_at}
use Rattle.np_goals.specs.Making.{crossing_set, forbidden_set, AreForbidden}
use Rattle.np_goals.specs.declared.cases.Case.{Case}

-- ---- the goals, one after another

-- one goal more
pub forbidden_more : (sets : List (List Bool)) (atoms first : ℕ) (goals : List Goal) (n : ℕ) (bad : List (List Bool)) (goal : Goal) (set : List Bool) → n < length goals → goal ≡ get_or goals n goal → AreForbidden sets atoms first goals n bad → set ≡ forbidden_set sets atoms (first + n) goal.only → AreForbidden sets atoms first goals (n + 1) (bad ++ set ∷ [])
forbidden_more sets atoms first goals n bad goal set below at are is =
    record {
      count = length-append bad (set ∷ []) ∙ ap (λ m. m + 1) are.count;
      each = λ k d less. by k d less (cases_lt k n);
    }
  where
    by : (k : ℕ) (d : Goal) → k < n + 1 → (k < n) ⊎ (n ≤ k) → get_or (bad ++ set ∷ []) k [] ≡ forbidden_set sets atoms (first + k) (goal_at goals d k).only
    by k d less (inl before) = get_or-append bad (set ∷ []) [] k (omega (arith, are.count)) ∙ are.each k d before
    by k d less (inr above) =
        let last : n ≡ k = omega arith in
        let there : goal ≡ goal_at goals d n = at ∙ get_or_default goals n goal d below in
        get_or_push bad set [] k (omega (arith, are.count))
        ∙ is
        ∙ (λ i. forbidden_set sets atoms (first + n) (there i).only)
        ∙ ap (λ m. forbidden_set sets atoms (first + m) (goal_at goals d m).only) last

-- some goal, where there is one of this number
pub some_goal : (goals : List Goal) (k : ℕ) → k < length goals → Goal
some_goal [] k below = absurd (omega arith)
some_goal (goal ∷ goals) k below = goal

-- ---- the tests of the cuts

-- of a valid header a test says what it says beside the validity
valid_beside : (v x : Bool) → v ≡ true → (v && x) ≡ x
valid_beside true x e = refl
valid_beside false x e = absurd (cc)

-- how many cuts there are
tests_counted : (lists : List (List Entry)) (goals : List Goal) → length (filter_tests lists goals) ≡ length lists + length goals
tests_counted lists goals =
    length-append (list_tests lists) (pred_tests (map (λ goal. goal.pred) goals))
    ∙ (λ i. length-map lists list_test i + (length-map (map (λ (goal : Goal). goal.pred) goals) pred_test ∙ length-map goals (λ (goal : Goal). goal.pred)) i)

-- the cuts of the lists are the first ones
list_cut : (lists : List (List Entry)) (goals : List Goal) (place : ℕ) (e : Header → Bool) → place < length lists → get_or (filter_tests lists goals) place e ≡ list_test (get_or lists place [])
list_cut lists goals place e below =
    get_or-append (list_tests lists) (pred_tests (map (λ goal. goal.pred) goals)) e place (subst (λ n. place < n) (sym (length-map lists list_test)) below)
    ∙ get_or-map list_test lists place [] e below

-- and those of the goals' predicates follow them
goal_cut : (lists : List (List Entry)) (goals : List Goal) (k : ℕ) (d : Goal) (e : Header → Bool) → k < length goals → get_or (filter_tests lists goals) (length lists + k) e ≡ pred_test (goal_at goals d k).pred
goal_cut lists goals k d e below =
    ap (λ n. get_or (filter_tests lists goals) (n + k) e) (sym (length-map lists list_test))
    ∙ get_or-append-add (list_tests lists) (pred_tests (map (λ goal. goal.pred) goals)) k e
    ∙ get_or-map pred_test (map (λ (goal : Goal). goal.pred) goals) k d.pred e (subst (λ n. k < n) (sym (length-map goals (λ (goal : Goal). goal.pred))) below)
    ∙ ap pred_test (get_or-map (λ (goal : Goal). goal.pred) goals k d d.pred below)

-- ---- sets with the sizes and the members that they ought to have

-- a set of all
full_length : (n : ℕ) → length (replicate n true) ≡ n
full_length n = length-replicate n true

-- what crosses a slot is a set of the atoms
crossing_length : (sets : List (List Bool)) (n : ℕ) (place : Option ℕ) → AllHaveLength n sets → IfSome place (λ p. p < length sets) → length (crossing_set sets n place) ≡ n
crossing_length sets n None all below = full_length n
crossing_length sets n (Some place) all below = all place below

-- a set without another one, among as many atoms
others_length : (n : ℕ) (set : List Bool) → length set ≡ n → length (without (replicate n true) set) ≡ n
others_length n set long = length-combine (λ x y. x && not y) (replicate n true) set (full_length n ∙ sym long) ∙ full_length n

-- it has what the other hasn't
others_have : (n : ℕ) (set : List Bool) (atom : ℕ) → length set ≡ n → atom < n → has_member (without (replicate n true) set) atom ≡ not (has_member set atom)
others_have n set atom long within =
    has_member-without (replicate n true) set (full_length n ∙ sym long) atom
    ∙ ap (λ b. b && not (has_member set atom)) (has_member-all n atom within)

-- what a goal forbids is a set of the atoms
forbidden_length : (sets : List (List Bool)) (n cut : ℕ) (only : Bool) → length (get_or sets cut []) ≡ n → length (forbidden_set sets n cut only) ≡ n
forbidden_length sets n cut true long = others_length n (get_or sets cut []) long
forbidden_length sets n cut false long = long

-- by what its predicate says of an atom
forbidden_has : (sets : List (List Bool)) (n cut atom : ℕ) (only says : Bool) → length (get_or sets cut []) ≡ n → atom < n → has_member (get_or sets cut []) atom ≡ says → has_member (forbidden_set sets n cut only) atom ≡ (if only then not says else says)
forbidden_has sets n cut atom true says long within is = others_have n (get_or sets cut []) atom long within ∙ ap not is
forbidden_has sets n cut atom false says long within is = is

-- ---- the case

module _ (goals : List Goal) (applied : AppliedLists) (atoms : Atoms) (are : AreAtoms (filter_tests applied.lists goals) atoms) where
  -- there is a set for each list and each goal
  pub sets_number : length atoms.cuts ≡ length applied.lists + length goals
  sets_number = (sets_counted (filter_tests applied.lists goals) atoms are).0 ∙ tests_counted applied.lists goals

  -- and in each the same atoms
  pub sets_long : AllHaveLength (length atoms.leasts) atoms.cuts
  sets_long = (sets_counted (filter_tests applied.lists goals) atoms are).1

  -- each place has a set
  pub places_have : IsApplied applied → (slot : ℕ) → IfSome (place_at applied slot) (λ p. p < length atoms.cuts)
  places_have is slot = by (place_at applied slot) (is.places slot)
    where
      by : (place : Option ℕ) → IfSome place (λ p. p < length applied.lists) → IfSome place (λ p. p < length atoms.cuts)
      by None below = below
      by (Some p) below = omega (arith, sets_number, below)

  -- the least members are valid
  least_valid : (atom : ℕ) → atom < length atoms.leasts → is_valid_header (get_or atoms.leasts atom zeros) ≡ true
  least_valid atom within = (are.leasts.each atom zeros within).valid

  -- a cut's set has an atom where its test has the least member
  cut_says : (cut atom : ℕ) → atom < length atoms.leasts → cut < length atoms.cuts → has_member (get_or atoms.cuts cut []) atom ≡ get_or (filter_tests applied.lists goals) cut (λ h. false) (get_or atoms.leasts atom zeros)
  cut_says cut atom within below =
      answer_said (filter_tests applied.lists goals) atoms atom cut zeros (λ h. false) are within (omega (arith, sets_number, tests_counted applied.lists goals))

  -- what crosses by a place is what its list lets cross
  crossing_says : (place : Option ℕ) (atom : ℕ) → IfSome place (λ p. p < length applied.lists) → atom < length atoms.leasts → has_member (crossing_set atoms.cuts (length atoms.leasts) place) atom ≡ option_map_or (λ p. list_permits (list_at applied p) (get_or atoms.leasts atom zeros)) place true
  crossing_says None atom below within = has_member-all (length atoms.leasts) atom within
  crossing_says (Some p) atom below within =
      let h = get_or atoms.leasts atom zeros in
      cut_says p atom within (omega (arith, sets_number, below))
      ∙ ap (λ f. f h) (list_cut applied.lists goals p (λ h. false) below)
      ∙ valid_beside (is_valid_header h) (list_permits (list_at applied p) h) (least_valid atom within)

  -- a goal's cut has an atom where its predicate holds
  goal_says : (k : ℕ) (d : Goal) (atom : ℕ) → k < length goals → atom < length atoms.leasts → has_member (get_or atoms.cuts (length applied.lists + k) []) atom ≡ pred_holds (goal_at goals d k).pred (get_or atoms.leasts atom zeros)
  goal_says k d atom below within =
      let h = get_or atoms.leasts atom zeros in
      cut_says (length applied.lists + k) atom within (omega (arith, sets_number))
      ∙ ap (λ f. f h) (goal_cut applied.lists goals k d (λ h. false) below)
      ∙ valid_beside (is_valid_header h) (pred_holds (goal_at goals d k).pred h) (least_valid atom within)

  module _ (interfaces : List Interface) (is : IsApplied applied) (two_each : length applied.at ≡ 2 * length interfaces) (bad : List (List Bool)) (forbidden : AreForbidden atoms.cuts (length atoms.leasts) (length applied.lists) goals (length goals) bad) where
    -- the sets of the slots
    abbrev slots : List (List Bool)
    slots = map (crossing_set atoms.cuts (length atoms.leasts)) applied.at

    -- the set of one
    slot_set : (slot : ℕ) → slot < length applied.at → get_or slots slot [] ≡ crossing_set atoms.cuts (length atoms.leasts) (place_at applied slot)
    slot_set slot below = get_or-map (crossing_set atoms.cuts (length atoms.leasts)) applied.at slot None [] below

    -- each is a set of the atoms
    slot_long : (slot : ℕ) → slot < length applied.at → length (get_or slots slot []) ≡ length atoms.leasts
    slot_long slot below =
        ap length (slot_set slot below) ∙ crossing_length atoms.cuts (length atoms.leasts) (place_at applied slot) sets_long (places_have is slot)

    -- the cut of a goal is a set of the atoms
    goal_cut_long : (k : ℕ) → k < length goals → length (get_or atoms.cuts (length applied.lists + k) []) ≡ length atoms.leasts
    goal_cut_long k below = sets_long (length applied.lists + k) (omega (arith, sets_number))

    -- and so is what the goal forbids
    bad_long : (k : ℕ) (d : Goal) → k < length goals → length (get_or bad k []) ≡ length atoms.leasts
    bad_long k d below =
        ap length (forbidden.each k d below)
        ∙ forbidden_length atoms.cuts (length atoms.leasts) (length applied.lists + k) (goal_at goals d k).only (goal_cut_long k below)

    -- a slot's set has an atom where its least member crosses
    slot_says : (slot atom : ℕ) → slot < length applied.at → atom < length atoms.leasts → lets_atom slots atom slot ≡ applied_lets applied slot (get_or atoms.leasts atom zeros)
    slot_says slot atom below within =
        ap (λ set. has_member set atom) (slot_set slot below) ∙ crossing_says (place_at applied slot) atom (is.places slot) within

    -- a goal's set has an atom where the goal forbids its least member
    bad_says : (k atom : ℕ) (d : Goal) → k < length goals → atom < length atoms.leasts → has_member (get_or bad k []) atom ≡ forbids (goal_at goals d k) (get_or atoms.leasts atom zeros)
    bad_says k atom d below within =
        ap (λ set. has_member set atom) (forbidden.each k d below)
        ∙ forbidden_has atoms.cuts (length atoms.leasts) (length applied.lists + k) atom (goal_at goals d k).only (pred_holds (goal_at goals d k).pred (get_or atoms.leasts atom zeros)) (goal_cut_long k below) within (goal_says k d atom below within)

    -- so it is the case of these lists
    pub case_is : (case : Case) → case.posture.slots ≡ map (crossing_set atoms.cuts (length atoms.leasts)) applied.at → case.bad ≡ bad → case.leasts ≡ atoms.leasts → IsCaseOf interfaces goals applied case
    case_is case slots_are bad_are leasts_are =
        record {
          sizes = record {
            slots = ap length slots_are ∙ slots_number ∙ two_each;
            slot_sizes = rw (slots_are, leasts_are) (λ k below. slot_long k (omega (arith, slots_number, below)));
            goals_each = ap length bad_are ∙ forbidden.count;
            goal_sizes = rw (bad_are, leasts_are) (λ k below. let goal : k < length goals = omega (arith, forbidden.count, below) in bad_long k (some_goal goals k goal) goal);
          };
          leasts = rw leasts_are are.leasts;
          lets = rw (slots_are, leasts_are) (λ slot atom below within. slot_says slot atom (omega (arith, two_each, below)) within);
          bad = rw (bad_are, leasts_are) (λ k atom d below within. bad_says k atom d below within);
        }
      where
        slots_number : length slots ≡ length applied.at
        slots_number = length-map applied.at (crossing_set atoms.cuts (length atoms.leasts))

-- From atoms to headers: a verdict that is right of the atoms is right of all valid headers.
use Rattle.std.proofs.Common.{◌≡◌, ℕ, zero, suc, ◌+◌, ◌*◌, ◌<◌, ◌≤◌, ◌&&◌, Bool, true, false, not, List, [], ◌∷◌, ◌++◌, length, map, get_or, refl, sym, ◌∙◌, subst, inl, inr, arith}
use Rattle.std.specs.Prelude.{Option, None, Some, if◌then◌else◌}
use Rattle.std.specs.Option.{option_map_or}
use Rattle.std.proofs.lemmas.Bool.{cases_lt}
use Rattle.std.proofs.lemmas.List.{get_or_default}
use Rattle.np_space.specs.Header.{is_valid_header, IsValid, IsLeastOf, header_le, zeros}
use Rattle.np_space.specs.declared.headers.Header.{Header}
use Rattle.np_space.specs.Classes.{IsAlike, IsLeastAlike, HasAlike}
use Rattle.np_space.proofs.Listing.{le_later}
use Rattle.np_space.proofs.OrderLemmas.{le_chained}
use Rattle.np_acl.specs.declared.entries.Entry.{Entry}
use Rattle.np_acl.specs.Entries.{list_permits}
use Rattle.np_atomset.proofs.Sets.{member_within}
use Rattle.np_pred.specs.Meaning.{pred_holds}
use Rattle.np_net.specs.Plan.{Plan}
use Rattle.np_net.specs.Path.{Leads, area_of}
use Rattle.np_net.specs.declared.filtering.Goal.{Goal}
use Rattle.np_net.specs.declared.filtering.Interface.{Interface}
use Rattle.np_cut.specs.AppliedLists.{AppliedLists, applied_lets, list_at, place_at}
use Rattle.np_cut.specs.FilterCuts.{filter_tests, list_tests, pred_tests}
use Rattle.np_flow.specs.Postures.{lets_atom}
use Rattle.np_flow.specs.Carrying.{AllCross, Carries, Reaches, IsFirstPath}
use Rattle.np_goals.specs.Verdicts.{forbids, Breaks, IsVerdict}
use Rattle.np_goals.specs.Cases.{IsCaseOf, goal_at}
use Rattle.np_goals.specs.Judging.{IsBadFor, IsLeastNumber, IsAtomVerdict, IsRight}
use Rattle.np_goals.specs.declared.cases.Case.{Case}
use Rattle.np_goals.specs.declared.verdicts.Verdict.{Verdict}
use Rattle.np_goals.specs.declared.verdicts.Verdict.TheVariants.{Holds, Violated}

-- ---- paths depend on the slots of the network alone

module _ (interfaces : List Interface) (f g : ℕ → Bool) (same : (slot : ℕ) → slot < 2 * length interfaces → f slot ≡ g slot) where
  -- hops that may be crossed
  cross_same : (a b : ℕ) (hops : List (ℕ × ℕ)) → Leads interfaces a hops b → AllCross f hops → AllCross g hops
  cross_same a b [] l c = tt
  cross_same a b (hop ∷ hops) l c =
      let into : hop.0 < length interfaces = l.0.0 in
      let out : hop.1 < length interfaces = l.0.1 in
      (sym (same (2 * hop.0) (omega arith)) ∙ c.0, sym (same (2 * hop.1 + 1) (omega arith)) ∙ c.1, cross_same (area_of interfaces hop.1) b hops l.2 c.2)

  -- a path that may be
  carries_same : (a : ℕ) (hops : List (ℕ × ℕ)) (b : ℕ) → Carries interfaces f a hops b → Carries interfaces g a hops b
  carries_same a hops b c = record { path = c.path; cross = cross_same a b hops c.path.leads c.cross }

  -- some such path
  reaches_same : (a b : ℕ) → Reaches interfaces f a b → Reaches interfaces g a b
  reaches_same a b r = record { hops = r.hops; carries = carries_same a r.hops b r.carries }

-- the first of the shortest ones
pub first_same : (interfaces : List Interface) (f g : ℕ → Bool) → ((slot : ℕ) → slot < 2 * length interfaces → f slot ≡ g slot) → (a : ℕ) (hops : List (ℕ × ℕ)) (b : ℕ) → IsFirstPath interfaces f a hops b → IsFirstPath interfaces g a hops b
first_same interfaces f g same a hops b p =
    record {
      carries = carries_same interfaces f g same a hops b p.carries;
      first = λ others c. p.first others (carries_same interfaces g f (λ slot below. sym (same slot below)) a others b c);
    }

-- ---- alike valid headers cross the same slots and are forbidden by the same goals

-- what is said beside a test that both pass
beside : (v w x y : Bool) → v ≡ true → w ≡ true → (v && x) ≡ (w && y) → x ≡ y
beside true true x y v w e = e
beside false w' x y v w e = absurd (cc)
beside true false x y v w e = absurd (cc)

-- the lists permit both or neither
alike_at_lists : (lists : List (List Entry)) (rest : List (Header → Bool)) (h k : Header) → IsValid h → IsValid k → IsAlike (list_tests lists ++ rest) h k → (place : ℕ) → list_permits (get_or lists place []) h ≡ list_permits (get_or lists place []) k
alike_at_lists [] rest h k v w alike place = refl
alike_at_lists (l ∷ ls) rest h k v w alike zero = beside (is_valid_header h) (is_valid_header k) (list_permits l h) (list_permits l k) v w (cc)
alike_at_lists (l ∷ ls) rest h k v w alike (suc place) = alike_at_lists ls rest h k v w (cc) place

-- they are alike for the tests after the lists'
alike_after_lists : (lists : List (List Entry)) (rest : List (Header → Bool)) (h k : Header) → IsAlike (list_tests lists ++ rest) h k → IsAlike rest h k
alike_after_lists [] rest h k alike = alike
alike_after_lists (l ∷ ls) rest h k alike = alike_after_lists ls rest h k (cc)

-- the goals' predicates hold of both or of neither
alike_at_goals : (goals : List Goal) (h k : Header) → IsValid h → IsValid k → IsAlike (pred_tests (map (λ goal. goal.pred) goals)) h k → (n : ℕ) (d : Goal) → n < length goals → pred_holds (get_or goals n d).pred h ≡ pred_holds (get_or goals n d).pred k
alike_at_goals [] h k v w alike n d below = absurd (omega arith)
alike_at_goals (g ∷ gs) h k v w alike zero d below = beside (is_valid_header h) (is_valid_header k) (pred_holds g.pred h) (pred_holds g.pred k) v w (cc)
alike_at_goals (g ∷ gs) h k v w alike (suc n) d below = alike_at_goals gs h k v w (cc) n d (omega arith)

-- what a list permits where one is applied, and everything elsewhere
lets_at : (applied : AppliedLists) (h k : Header) (place : Option ℕ) → ((n : ℕ) → list_permits (list_at applied n) h ≡ list_permits (list_at applied n) k) → option_map_or (λ n. list_permits (list_at applied n) h) place true ≡ option_map_or (λ n. list_permits (list_at applied n) k) place true
lets_at applied h k None same = refl
lets_at applied h k (Some n) same = same n

-- both cross a slot, or neither; a place past the lists has none, and permits all
pub lets_alike : (applied : AppliedLists) (goals : List Goal) (h k : Header) → IsValid h → IsValid k → IsAlike (filter_tests applied.lists goals) h k → (slot : ℕ) → applied_lets applied slot h ≡ applied_lets applied slot k
lets_alike applied goals h k v w alike slot =
    lets_at applied h k (place_at applied slot) (alike_at_lists applied.lists (pred_tests (map (λ goal. goal.pred) goals)) h k v w alike)

-- `only` and `never` alike go by what the predicate says
forbids_by : (only : Bool) (x y : Bool) → x ≡ y → (if only then not x else x) ≡ (if only then not y else y)
forbids_by only x y e = λ i. if only then not (e i) else e i

-- a goal forbids both or neither
pub forbids_alike : (applied : AppliedLists) (goals : List Goal) (h k : Header) → IsValid h → IsValid k → IsAlike (filter_tests applied.lists goals) h k → (n : ℕ) (d : Goal) → n < length goals → forbids (goal_at goals d n) h ≡ forbids (goal_at goals d n) k
forbids_alike applied goals h k v w alike n d below =
    let goal = get_or goals n d in
    forbids_by goal.only (pred_holds goal.pred h) (pred_holds goal.pred k) (alike_at_goals goals h k v w (alike_after_lists applied.lists (pred_tests (map (λ g. g.pred) goals)) h k alike) n d below)

-- so a header that is alike to one that breaks a goal breaks it too
breaks_alike : (interfaces : List Interface) (applied : AppliedLists) (goals : List Goal) (h k : Header) → IsValid k → IsAlike (filter_tests applied.lists goals) h k → (n : ℕ) (d : Goal) → n < length goals → Breaks interfaces (applied_lets applied) (goal_at goals d n) h → Breaks interfaces (applied_lets applied) (goal_at goals d n) k
breaks_alike interfaces applied goals h k w alike n d below b =
    record {
      valid = w;
      forbidden = sym (forbids_alike applied goals h k b.valid w alike n d below) ∙ b.forbidden;
      reaches = reaches_same interfaces (λ slot. applied_lets applied slot h) (λ slot. applied_lets applied slot k) (λ slot _. lets_alike applied goals h k b.valid w alike slot) (goal_at goals d n).from (goal_at goals d n).to b.reaches;
    }

-- ---- the atoms of a case

-- a number that isn't below another
not_below : (m n : ℕ) → (n < m → ⊥) → m ≤ n
not_below m n no_less = elim (cases_lt n m) [ inl less ↦ absurd (no_less less) | inr above ↦ above ]

module _ (net : Plan) (applied : AppliedLists) (case : Case) (are : IsCaseOf net.interfaces net.goals applied case) (n : ℕ) (d : Goal) (below : n < length net.goals) where
  -- the atom's least member is valid, and the least of those alike to it
  least_alike : (atom : ℕ) → atom < length case.leasts → IsLeastAlike (filter_tests applied.lists net.goals) (get_or case.leasts atom zeros)
  least_alike atom within = are.leasts.each atom zeros within

  -- the least member of a bad atom breaks the goal
  breaks_of_bad : (atom : ℕ) → atom < length case.leasts → IsBadFor net case (goal_at net.goals d n) n atom → Breaks net.interfaces (applied_lets applied) (goal_at net.goals d n) (get_or case.leasts atom zeros)
  breaks_of_bad atom within b =
      record {
        valid = (least_alike atom within).valid;
        forbidden = sym (are.bad n atom d below within) ∙ b.forbidden;
        reaches = reaches_same net.interfaces (lets_atom case.posture.slots atom) (λ slot. applied_lets applied slot (get_or case.leasts atom zeros)) (λ slot low. are.lets slot atom low within) (goal_at net.goals d n).from (goal_at net.goals d n).to b.reaches;
      }

  -- and the other way round
  bad_of_breaks : (atom : ℕ) → atom < length case.leasts → Breaks net.interfaces (applied_lets applied) (goal_at net.goals d n) (get_or case.leasts atom zeros) → IsBadFor net case (goal_at net.goals d n) n atom
  bad_of_breaks atom within b =
      record {
        forbidden = are.bad n atom d below within ∙ b.forbidden;
        reaches = reaches_same net.interfaces (λ slot. applied_lets applied slot (get_or case.leasts atom zeros)) (lets_atom case.posture.slots atom) (λ slot low. sym (are.lets slot atom low within)) (goal_at net.goals d n).from (goal_at net.goals d n).to b.reaches;
      }

  -- the least member of a header's atom is not above it, and breaks the goal with it
  atom_of : (h : Header) → Breaks net.interfaces (applied_lets applied) (goal_at net.goals d n) h → (atom : ℕ) × (atom < length case.leasts) × IsBadFor net case (goal_at net.goals d n) n atom × (header_le (get_or case.leasts atom zeros) h ≡ true)
  atom_of h b =
      let found : HasAlike (filter_tests applied.lists net.goals) case.leasts h = are.leasts.reached h b.valid in
      let atom = found.listed.0 in
      let within : atom < length case.leasts = found.listed.1 in
      let same : get_or case.leasts atom zeros ≡ found.one = get_or_default case.leasts atom zeros found.one within ∙ found.listed.2 in
      let alike : IsAlike (filter_tests applied.lists net.goals) (get_or case.leasts atom zeros) h = subst (λ x. IsAlike (filter_tests applied.lists net.goals) x h) (sym same) found.alike in
      let least = least_alike atom within in
      (atom, within, bad_of_breaks atom within (breaks_alike net.interfaces applied net.goals h (get_or case.leasts atom zeros) least.valid (sym alike) n d below b), least.least h b.valid alike)

  -- a forbidden atom is one of the case's
  bad_within : (atom : ℕ) → IsBadFor net case (goal_at net.goals d n) n atom → atom < length case.leasts
  bad_within atom b =
      let size : length (get_or case.bad n []) ≡ length case.leasts = are.sizes.goal_sizes n (omega (arith, are.sizes.goals_each)) in
      let within : atom < length (get_or case.bad n []) = member_within (get_or case.bad n []) atom b.forbidden in
      omega arith

  -- the least bad atom gives the least header that breaks the goal
  least_breaks : (atom : ℕ) → IsLeastNumber (IsBadFor net case (goal_at net.goals d n) n) atom → IsLeastOf (Breaks net.interfaces (applied_lets applied) (goal_at net.goals d n)) (get_or case.leasts atom zeros)
  least_breaks atom is =
      record {
        has = breaks_of_bad atom (bad_within atom is.holds) is.holds;
        least = λ h b.
            let other = atom_of h b in
            let upto : atom ≤ other.0 = not_below atom other.0 (λ less. is.least other.0 less other.2) in
            le_chained (get_or case.leasts atom zeros) (get_or case.leasts other.0 zeros) h (le_later case.leasts atom other.0 zeros are.leasts.ascending upto other.1) other.3;
      }

  -- a verdict that is right of the atoms
  right_of_atoms : (verdict : Verdict) → IsAtomVerdict net case (goal_at net.goals d n) n verdict → IsVerdict net.interfaces (applied_lets applied) (goal_at net.goals d n) verdict
  right_of_atoms Holds none = λ h b. let other = atom_of h b in none other.0 other.2
  right_of_atoms (Violated header path) found =
      let within = bad_within found.0 found.1.holds in
      let least = least_breaks found.0 found.1 in
      let first = first_same net.interfaces (lets_atom case.posture.slots found.0) (λ slot. applied_lets applied slot (get_or case.leasts found.0 zeros)) (λ slot low. are.lets slot found.0 low within) (goal_at net.goals d n).from path.hops (goal_at net.goals d n).to found.3 in (
        subst (λ x. IsLeastOf (Breaks net.interfaces (applied_lets applied) (goal_at net.goals d n)) x) (sym found.2) least,
        subst (λ x. IsFirstPath net.interfaces (λ slot. applied_lets applied slot x) (goal_at net.goals d n).from path.hops (goal_at net.goals d n).to) (sym found.2) first,
      )

-- and for whatever lists this is the case of
pub right_from_atoms : (net : Plan) (case : Case) (n : ℕ) (verdict : Verdict) → n < length net.goals → ((d : Goal) → IsAtomVerdict net case (goal_at net.goals d n) n verdict) → IsRight net case n verdict
right_from_atoms net case n verdict below atoms = record { right = λ applied are d. right_of_atoms net applied case are n d below verdict (atoms d) }

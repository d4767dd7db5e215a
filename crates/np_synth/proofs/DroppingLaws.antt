-- What is dropped, slot by slot and atom by atom.
use Rattle.std.proofs.Common.{◌≡◌, ℕ, ◌+◌, ◌*◌, ◌<◌, ◌≤◌, ◌⊎◌, Bool, true, false, List, [], ◌∷◌, ◌++◌, length, get_or, refl, sym, ◌∙◌, ap, subst, inl, inr, arith, length-append}
use Rattle.std.proofs.Math.ListN.{get_or-append}
use Rattle.std.proofs.lemmas.Bool.{cases_lt}
use Rattle.std.proofs.lemmas.List.{get_or_push}
use Rattle.np_net.specs.Plan.{Plan}
use Rattle.np_flow.specs.Postures.{lets_atom}
use Rattle.np_goals.specs.Cases.{goal_at}
use Rattle.np_goals.specs.Judging.{IsLeastNumber}
use Rattle.np_goals.specs.declared.cases.Case.{Case}
use Rattle.np_goals.proofs.CaseLaws.{first_same}
use Rattle.np_synth.specs.Choosing.{is_free, opened, BreaksSome, IsFirstBroken}
use Rattle.np_synth.specs.Dropping.{IsDropped, IsEarlier, nothing}
use Rattle.np_synth.specs.Synthesis.{bad_for}
use Rattle.np_synth.specs.Steps.{AreBreaking, Breaks, IsOpened, AreBreakingEach, IsIn, IsDropOf, IsBefore, AreDroppedBefore}
use Rattle.np_synth.specs.declared.chosen.Dropped.{Dropped}
use Rattle.np_synth.proofs.TravelLaws.{LetsMore, broken_more, breaks_more}

-- ---- what breaks each goal

-- the atoms of one goal more
pub each_more : (net : Plan) (case : Case) (slots : List (List Bool)) (n : ℕ) (sets : List (List Bool)) (set : List Bool) → AreBreakingEach net case slots n sets → AreBreaking net case slots n set → AreBreakingEach net case slots (n + 1) (sets ++ set ∷ [])
each_more net case slots n sets set are is =
    record {
      count = length-append sets (set ∷ []) ∙ ap (λ m. m + 1) are.count;
      each = λ k less. by k less (cases_lt k n);
    }
  where
    by : (k : ℕ) → k < n + 1 → (k < n) ⊎ (n ≤ k) → AreBreaking net case slots k (get_or (sets ++ set ∷ []) k [])
    by k less (inl below) = subst (λ x. AreBreaking net case slots k x) (sym (get_or-append sets (set ∷ []) [] k (omega (arith, are.count)))) (are.each k below)
    by k less (inr above) =
        let last : k ≡ n = omega arith in
        let there : get_or (sets ++ set ∷ []) k [] ≡ set = get_or_push sets set [] k (omega (arith, are.count)) in
        subst (λ x. AreBreaking net case slots k x) (sym there) (subst (λ m. AreBreaking net case slots m set) (sym last) is)

module _ (net : Plan) (case : Case) (slots : List (List Bool)) (sets : List (List Bool)) (are : AreBreakingEach net case slots (length net.goals) sets) (atom : ℕ) where
  -- the goal of a set that has the atom is broken
  broken_of_in : (k : ℕ) → IsIn sets atom k → Breaks net case slots k atom
  broken_of_in k is = let place : k < length sets = is.0 in ((are.each k (omega (arith, are.count))).exact atom).0 is.1

  -- and the other way round
  in_of_broken : (k : ℕ) → Breaks net case slots k atom → IsIn sets atom k
  in_of_broken k is = let place : k < length net.goals = is.within in (omega (arith, are.count), ((are.each k is.within).exact atom).1 is)

  -- so the first set that has it is that of the first goal that is broken
  pub first_of_sets : (k : ℕ) → IsLeastNumber (IsIn sets atom) k → IsFirstBroken net.interfaces net.goals (bad_for case.bad atom) (lets_atom slots atom) k
  first_of_sets k is = record { broken = broken_of_in k is.holds; first = λ j less b. is.least j less (in_of_broken j b) }

  -- and some set has it, if some goal is
  pub some_has : ((k : ℕ) → IsIn sets atom k → ⊥) → BreaksSome net.interfaces net.goals (bad_for case.bad atom) (lets_atom slots atom) → ⊥
  some_has none b = none b.goal (in_of_broken b.goal b.broken)

-- ---- a slot that is opened

module _ (net : Plan) (case : Case) (before : List (List Bool)) (slot : ℕ) (after : List (List Bool)) (opens : IsOpened net.interfaces (length case.leasts) slot before after) (atom : ℕ) (within : atom < length case.leasts) where
  -- its sets say what crosses then
  to_opened : LetsMore net.interfaces (lets_atom after atom) (opened (lets_atom before atom) slot)
  to_opened s place e = sym (opens.lets s atom place within) ∙ e

  from_opened : LetsMore net.interfaces (opened (lets_atom before atom) slot) (lets_atom after atom)
  from_opened s place e = opens.lets s atom place within ∙ e

  -- some goal is broken by them
  pub breaks_opened : BreaksSome net.interfaces net.goals (bad_for case.bad atom) (opened (lets_atom before atom) slot) → BreaksSome net.interfaces net.goals (bad_for case.bad atom) (lets_atom after atom)
  breaks_opened b = breaks_more net.interfaces (opened (lets_atom before atom) slot) (lets_atom after atom) from_opened net.goals (bad_for case.bad atom) b

  -- and what is dropped by them is dropped
  pub dropped_there : (drop : Dropped) → slot < 2 * length net.interfaces → is_free net.free slot ≡ true → lets_atom before atom slot ≡ false → IsDropOf net case after slot atom drop
      → IsDropped net.interfaces net.goals (bad_for case.bad drop.atom) net.free (lets_atom before drop.atom) drop.slot drop.goal drop.path.hops
  dropped_there drop place yes_free shut is =
      subst (λ a. IsDropped net.interfaces net.goals (bad_for case.bad a) net.free (lets_atom before a) drop.slot drop.goal drop.path.hops) (sym is.atom_is)
      (subst (λ s. IsDropped net.interfaces net.goals (bad_for case.bad atom) net.free (lets_atom before atom) s drop.goal drop.path.hops) (sym is.slot_is) record {
        within = place;
        free_is = yes_free;
        shut_is = shut;
        broken = record {
          broken = broken_more net.interfaces (lets_atom after atom) (opened (lets_atom before atom) slot) to_opened net.goals (bad_for case.bad atom) drop.goal is.broken.broken;
          first = λ j less b. is.broken.first j less (broken_more net.interfaces (opened (lets_atom before atom) slot) (lets_atom after atom) from_opened net.goals (bad_for case.bad atom) j b);
        };
        path = λ d. first_same net.interfaces (lets_atom after atom) (opened (lets_atom before atom) slot) (λ s low. opens.lets s atom low within) (goal_at net.goals d drop.goal).from drop.path.hops (goal_at net.goals d drop.goal).to (is.path d);
      })

-- ---- the order of slots and atoms

-- what stands before an atom stands before the next
before_next : (s a slot atom : ℕ) → IsBefore s a slot atom → IsBefore s a slot (atom + 1)
before_next s a slot atom (inl less) = inl less
before_next s a slot atom (inr same) = let lower : a < atom = same.1 in inr (same.0, omega arith)

-- what stands before the next atom stands before this one, or is it
next_cases : (s a slot atom : ℕ) → IsBefore s a slot (atom + 1) → IsBefore s a slot atom ⊎ ((s ≡ slot) × (a ≡ atom))
next_cases s a slot atom (inl less) = inl (inl less)
next_cases s a slot atom (inr same) =
    let upto : a < atom + 1 = same.1 in
    elim (cases_lt a atom) [
      | inl lower ↦ inl (inr (same.0, lower))
      | inr above ↦ inr (same.0, omega arith)
    ]

-- ---- one atom more

-- this is dropped
abbrev Stands : Plan → Case → List (List Bool) → Dropped → Type 0
Stands net case slots d = (d.atom < length case.leasts) × IsDropped net.interfaces net.goals (bad_for case.bad d.atom) net.free (lets_atom slots d.atom) d.slot d.goal d.path.hops

module _ (net : Plan) (case : Case) (slots : List (List Bool)) (slot : ℕ) where
  module _ (atom : ℕ) (drops : List Dropped) (are : AreDroppedBefore net case slots slot atom drops) where
    -- an atom that doesn't cross is dropped
    pub one_drop : (drop : Dropped) → drop.slot ≡ slot → drop.atom ≡ atom → atom < length case.leasts
        → IsDropped net.interfaces net.goals (bad_for case.bad drop.atom) net.free (lets_atom slots drop.atom) drop.slot drop.goal drop.path.hops
        → AreDroppedBefore net case slots slot (atom + 1) (drops ++ drop ∷ [])
    one_drop drop slot_is atom_is inside is =
        record {
          each = λ n less. each_at n (place n less);
          before = λ n less. before_at n (place n less);
          ascending = λ m n lower less. ascending_at m n lower (place n less);
          all = λ s a first low within yes_free shut. all_at s a low within yes_free shut (next_cases s a slot atom first);
        }
      where
        long : length (drops ++ drop ∷ []) ≡ length drops + 1
        long = length-append drops (drop ∷ [])

        early : (n : ℕ) → n < length drops → get_or (drops ++ drop ∷ []) n nothing ≡ get_or drops n nothing
        early n less = get_or-append drops (drop ∷ []) nothing n less

        last : (n : ℕ) → n ≡ length drops → get_or (drops ++ drop ∷ []) n nothing ≡ drop
        last n same = get_or_push drops drop nothing n (sym same)

        place : (n : ℕ) → n < length (drops ++ drop ∷ []) → (n < length drops) ⊎ (n ≡ length drops)
        place n less = elim (cases_lt n (length drops)) [ inl lower ↦ inl lower | inr above ↦ inr (omega (arith, long)) ]

        each_at : (n : ℕ) → (n < length drops) ⊎ (n ≡ length drops) → Stands net case slots (get_or (drops ++ drop ∷ []) n nothing)
        each_at n (inl less) = subst (Stands net case slots) (sym (early n less)) (are.each n less)
        each_at n (inr same) = subst (Stands net case slots) (sym (last n same)) (omega arith, is)

        before_at : (n : ℕ) → (n < length drops) ⊎ (n ≡ length drops) → IsBefore (get_or (drops ++ drop ∷ []) n nothing).slot (get_or (drops ++ drop ∷ []) n nothing).atom slot (atom + 1)
        before_at n (inl less) = subst (λ (d : Dropped). IsBefore d.slot d.atom slot (atom + 1)) (sym (early n less)) (before_next (get_or drops n nothing).slot (get_or drops n nothing).atom slot atom (are.before n less))
        before_at n (inr same) = subst (λ (d : Dropped). IsBefore d.slot d.atom slot (atom + 1)) (sym (last n same)) (inr (slot_is, omega arith))

        ends_at : (m : ℕ) → m < length drops → IsEarlier (get_or drops m nothing) drop
        ends_at m less =
            subst (λ s. IsBefore (get_or drops m nothing).slot (get_or drops m nothing).atom s drop.atom) (sym slot_is)
            (subst (λ a. IsBefore (get_or drops m nothing).slot (get_or drops m nothing).atom slot a) (sym atom_is) (are.before m less))

        ascending_at : (m n : ℕ) → m < n → (n < length drops) ⊎ (n ≡ length drops) → IsEarlier (get_or (drops ++ drop ∷ []) m nothing) (get_or (drops ++ drop ∷ []) n nothing)
        ascending_at m n lower (inl less) =
            subst (λ d. IsEarlier d (get_or (drops ++ drop ∷ []) n nothing)) (sym (early m (omega arith)))
            (subst (λ d. IsEarlier (get_or drops m nothing) d) (sym (early n less)) (are.ascending m n lower less))
        ascending_at m n lower (inr same) =
            subst (λ d. IsEarlier d (get_or (drops ++ drop ∷ []) n nothing)) (sym (early m (omega arith)))
            (subst (λ d. IsEarlier (get_or drops m nothing) d) (sym (last n same)) (ends_at m (omega arith)))

        all_at : (s a : ℕ) → s < 2 * length net.interfaces → a < length case.leasts → is_free net.free s ≡ true → lets_atom slots a s ≡ false → IsBefore s a slot atom ⊎ ((s ≡ slot) × (a ≡ atom))
            → (n : ℕ) × (n < length (drops ++ drop ∷ [])) × ((get_or (drops ++ drop ∷ []) n nothing).slot ≡ s) × ((get_or (drops ++ drop ∷ []) n nothing).atom ≡ a)
        all_at s a low within yes_free shut (inl earlier) =
            let found = are.all s a earlier low within yes_free shut in
            let less : found.0 < length drops = found.1 in
            (found.0, omega (arith, long), ap (λ d. d.slot) (early found.0 less) ∙ found.2, ap (λ d. d.atom) (early found.0 less) ∙ found.3)
        all_at s a low within yes_free shut (inr here) =
            (length drops, omega (arith, long), ap (λ d. d.slot) (last (length drops) refl) ∙ slot_is ∙ sym here.0, ap (λ d. d.atom) (last (length drops) refl) ∙ atom_is ∙ sym here.1)

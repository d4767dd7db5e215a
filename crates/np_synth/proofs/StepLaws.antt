-- The steps by which a posture is chosen.
use Rattle.std.proofs.Common.{◌≡◌, ℕ, ◌+◌, ◌*◌, ◌<◌, ◌≤◌, ◌⊎◌, ◌&&◌, Bool, true, false, not, ltb, List, [], ◌∷◌, ◌++◌, length, get_or, replicate, set, Err, refl, sym, ◌∙◌, ap, subst, inl, inr, arith, get_or-set_same, get_or-set_other, length-append}
use Rattle.std.specs.Prelude.{if◌then◌else◌, IsErrOf}
use Rattle.std.proofs.Math.ListN.{get_or-append}
use Rattle.std.proofs.lemmas.Bool.{cases_lt, cases_eq, cases_Bool, lt-ltb, both_ways, not-true, not-false}
use Rattle.std.proofs.lemmas.List.{get_or_push, get_or_default, length-replicate, length-set}
use Rattle.np_space.specs.Header.{zeros}
use Rattle.np_space.specs.declared.headers.Header.{Header}
use Rattle.np_atomset.specs.AtomSet.{has_member, without}
use Rattle.np_atomset.proofs.Sets.{has_member-all, has_member-none, has_member-without, length-combine}
use Rattle.np_net.specs.Plan.{Plan}
use Rattle.np_net.specs.declared.filtering.Interface.{Interface}
use Rattle.np_net.specs.declared.paths.Path.{Path}
use Rattle.np_flow.specs.Postures.{lets_atom}
use Rattle.np_goals.specs.Cases.{HasSizes, goal_at}
use Rattle.np_goals.specs.declared.cases.Case.{Case}
use Rattle.np_goals.proofs.CaseLaws.{first_same}
use Rattle.np_synth.specs.Choosing.{is_free, opened, so_far, BreaksSome, IsChosen}
use Rattle.np_synth.specs.Dropping.{AreDropped}
use Rattle.np_synth.specs.Synthesis.{bad_for, shut_for, IsSynthesis, IsUnattainable}
use Rattle.np_synth.specs.Steps.{AreSlots, AreOthers, AreBreakingSome, IsPathOf, AreMet, IsFirstBreaking, AreShut, IsOpened, IsFilled, BreaksAt, AreChosen, IsFull}
use Rattle.np_synth.specs.declared.chosen.Dropped.{Dropped}
use Rattle.np_synth.specs.declared.chosen.SynthError.{SynthError}
use Rattle.np_synth.specs.declared.chosen.SynthError.TheVariants.{Unattainable, Memory}
use Rattle.np_synth.proofs.TravelLaws.{LetsMore, broken_more, breaks_more}
use Rattle.np_synth.proofs.ChoosingLaws.{fixed_so_far, free_so_far, opened_here, opened_elsewhere, opened_more, chosen_is_full, same_broken}

-- ---- sets

-- all atoms but those of a set
pub others_from_without : (s others : List Bool) → others ≡ without (replicate (length s) true) s → AreOthers s others
others_from_without s others is =
    record {
      size = ap length is ∙ length-combine (λ x y. x && not y) (replicate (length s) true) s long ∙ length-replicate (length s) true;
      has = λ atom within.
          ap (λ x. has_member x atom) is
          ∙ has_member-without (replicate (length s) true) s long atom
          ∙ ap (λ b. b && not (has_member s atom)) (has_member-all (length s) atom within);
    }
  where
    long : length (replicate (length s) true) ≡ length s
    long = length-replicate (length s) true

-- nothing holds beside what doesn't
and_false : (x : Bool) → (x && false) ≡ false
and_false true = refl
and_false false = refl

-- ---- free slots are shut

-- what a slot that is shut, or not, has for an atom
shut_has : (free : Bool) (old : List Bool) (atom : ℕ) → has_member (if free then replicate (length old) false else old) atom ≡ (if free then false else has_member old atom)
shut_has true old atom = has_member-none (length old) atom
shut_has false old atom = refl

-- it has as many atoms
shut_long : (free : Bool) (old : List Bool) → length (if free then replicate (length old) false else old) ≡ length old
shut_long true old = length-replicate (length old) false
shut_long false old = refl

-- one slot more
pub shut_more : (net : Plan) (case : Case) (n : ℕ) (slots : List (List Bool)) (free : Bool) (old new : List Bool)
    → HasSizes net.interfaces net.goals case → n < length case.posture.slots → free ≡ get_or net.free n false → old ≡ get_or case.posture.slots n old
    → AreShut net case n slots → new ≡ (if free then replicate (length old) false else old) → AreShut net case (n + 1) (slots ++ new ∷ [])
shut_more net case n slots free old new sizes below free_is old_at are is =
    record {
      count = length-append slots (new ∷ []) ∙ ap (λ m. m + 1) are.count;
      sizes = λ k less. long k (omega (arith, less, length-append slots (new ∷ []), are.count));
      lets = λ s atom less. by s atom less (cases_lt s n);
    }
  where
    old_is : old ≡ get_or case.posture.slots n []
    old_is = old_at ∙ get_or_default case.posture.slots n old [] below

    last : (k : ℕ) → k ≡ n → get_or (slots ++ new ∷ []) k [] ≡ new
    last k same = get_or_push slots new [] k (omega (arith, are.count))

    before : (k : ℕ) → k < n → get_or (slots ++ new ∷ []) k [] ≡ get_or slots k []
    before k less = get_or-append slots (new ∷ []) [] k (omega (arith, are.count))

    long : (k : ℕ) → k < n + 1 → length (get_or (slots ++ new ∷ []) k []) ≡ length case.leasts
    long k less =
        elim (cases_lt k n) [
          | inl lower ↦ ap length (before k lower) ∙ are.sizes k (omega (arith, are.count))
          | inr above ↦ ap length (last k (omega arith)) ∙ ap length is ∙ shut_long free old ∙ ap length old_is ∙ sizes.slot_sizes n below
        ]

    by : (s atom : ℕ) → s < n + 1 → (s < n) ⊎ (n ≤ s) → lets_atom (slots ++ new ∷ []) atom s ≡ shut_for net case atom s
    by s atom less (inl lower) = ap (λ x. has_member x atom) (before s lower) ∙ are.lets s atom lower
    by s atom less (inr above) =
        let same : s ≡ n = omega arith in
        ap (λ x. has_member x atom) (last s same)
        ∙ ap (λ x. has_member x atom) is
        ∙ shut_has free old atom
        ∙ ap (λ b. if b then false else has_member old atom) free_is
        ∙ ap (λ x. if get_or net.free n false then false else has_member x atom) old_is
        ∙ ap (λ m. shut_for net case atom m) (sym same)

-- ---- unattainable goals

module _ (net : Plan) (case : Case) (slots : List (List Bool)) (are : AreShut net case (2 * length net.interfaces) slots) where
  -- the sets of the posture say what crosses while the free slots are shut
  to_shut : (atom : ℕ) → LetsMore net.interfaces (lets_atom slots atom) (shut_for net case atom)
  to_shut atom s within e = sym (are.lets s atom within) ∙ e

  from_shut : (atom : ℕ) → LetsMore net.interfaces (shut_for net case atom) (lets_atom slots atom)
  from_shut atom s within e = are.lets s atom within ∙ e

  -- a goal that is met there isn't broken while they are
  pub attained_of_met : AreMet net case slots (length net.goals) → (atom : ℕ) → BreaksSome net.interfaces net.goals (bad_for case.bad atom) (shut_for net case atom) → ⊥
  attained_of_met met atom b =
      met b.goal atom b.broken.within (broken_more net.interfaces (shut_for net case atom) (lets_atom slots atom) (from_shut atom) net.goals (bad_for case.bad atom) b.goal b.broken)

  -- and the first that is broken there is the first that is while they are
  pub unattainable_there : (k atom : ℕ) (header : Header) (hops : List (ℕ × ℕ)) → IsFirstBreaking net case slots k atom → IsPathOf net slots k atom hops → header ≡ get_or case.leasts atom zeros → IsUnattainable net case k header hops
  unattainable_there k atom header hops first path is =
      record {
        atom = atom;
        within = first.within;
        least = record {
          holds = broken_more net.interfaces (lets_atom slots atom) (shut_for net case atom) (to_shut atom) net.goals (bad_for case.bad atom) k first.least.holds;
          least = λ a less b. first.least.least a less (broken_more net.interfaces (shut_for net case a) (lets_atom slots a) (from_shut a) net.goals (bad_for case.bad a) k b);
        };
        header_is = is;
        path = λ d. first_same net.interfaces (lets_atom slots atom) (shut_for net case atom) (λ s within. are.lets s atom within) (goal_at net.goals d k).from hops (goal_at net.goals d k).to (path d);
        first = λ j a less b. first.first j a less (broken_more net.interfaces (shut_for net case a) (lets_atom slots a) (from_shut a) net.goals (bad_for case.bad a) j b);
      }

-- what an error says
abbrev Says : Plan → Case → SynthError → Type 0
Says net case (Unattainable goal header path) = IsUnattainable net case goal header path.hops
Says net case Memory = Unit {0}

-- an error that is the same one says the same
pub refused_same : {T : Type 0} (net : Plan) (case : Case) (k : ℕ) (least : Header) (first : Path) (goal : ℕ) (header : Header) (path : Path)
    → IsUnattainable net case k least first.hops → IsErrOf {T = T} (Err (Unattainable k least first)) (Unattainable goal header path) → IsUnattainable net case goal header path.hops
refused_same net case k least first goal header path is same =
    let e : Unattainable k least first ≡ Unattainable goal header path = cc in
    subst (Says net case) e is

-- ---- one slot is opened

-- for all atoms
pub opened_there : (interfaces : List Interface) (atoms slot : ℕ) (before after : List (List Bool)) → slot < length before → AreSlots interfaces atoms before → after ≡ set before slot (replicate atoms true) → IsOpened interfaces atoms slot before after
opened_there interfaces atoms slot before after place slots is =
    record {
      slots = record {
        two_each = ap length is ∙ length-set before slot (replicate atoms true) ∙ slots.two_each;
        sizes = λ k less. long k (omega (arith, less, ap length is, length-set before slot (replicate atoms true))) (cases_eq k slot);
      };
      lets = λ s atom low within. by s atom within (cases_eq s slot);
    }
  where
    there : get_or after slot [] ≡ replicate atoms true
    there = ap (λ x. get_or x slot []) is ∙ get_or-set_same before slot (replicate atoms true) [] place

    other : (s : ℕ) → (s ≡ slot → ⊥) → get_or after s [] ≡ get_or before s []
    other s ne = ap (λ x. get_or x s []) is ∙ get_or-set_other before slot s (replicate atoms true) [] ne

    long : (k : ℕ) → k < length before → (k ≡ slot) ⊎ (k ≡ slot → ⊥) → length (get_or after k []) ≡ atoms
    long k less (inl same) = ap (λ m. length (get_or after m [])) same ∙ ap length there ∙ length-replicate atoms true
    long k less (inr ne) = ap length (other k ne) ∙ slots.sizes k less

    by : (s atom : ℕ) → atom < atoms → (s ≡ slot) ⊎ (s ≡ slot → ⊥) → lets_atom after atom s ≡ opened (lets_atom before atom) slot s
    by s atom within (inl same) = ap (λ m. lets_atom after atom m) same ∙ ap (λ x. has_member x atom) there ∙ has_member-all atoms atom within ∙ sym (opened_here (lets_atom before atom) slot s same)
    by s atom within (inr ne) = ap (λ x. has_member x atom) (other s ne) ∙ sym (opened_elsewhere (lets_atom before atom) slot s ne)

-- ---- one slot is filled

-- as many atoms as it may let cross
pub filled_there : (net : Plan) (case : Case) (slot : ℕ) (before opening after : List (List Bool)) (broken others : List Bool)
    → slot < 2 * length net.interfaces → AreSlots net.interfaces (length case.leasts) before → IsOpened net.interfaces (length case.leasts) slot before opening
    → AreBreakingSome net case opening (length net.goals) broken → AreOthers broken others → after ≡ set before slot others → IsFilled net case slot before after
filled_there net case slot before opening after broken others place slots opens are rest is =
    record {
      slots = record {
        two_each = ap length is ∙ length-set before slot others ∙ slots.two_each;
        sizes = λ k less. long k (omega (arith, less, ap length is, length-set before slot others)) (cases_eq k slot);
      };
      others = λ s atom ne. ap (λ x. has_member (get_or x s []) atom) is ∙ ap (λ x. has_member x atom) (get_or-set_other before slot s others [] ne);
      opens = λ atom within lets b. absurd (both_ways (has_member broken atom) (not-true (has_member broken atom) (sym (rest.has atom (in_broken atom within)) ∙ sym (here atom) ∙ lets)) (breaks atom within b));
      closed = λ atom within lets. some atom within (not-false (has_member broken atom) (sym (rest.has atom (in_broken atom within)) ∙ sym (here atom) ∙ lets));
    }
  where
    place_in : slot < length before
    place_in = omega (arith, slots.two_each)

    in_broken : (atom : ℕ) → atom < length case.leasts → atom < length broken
    in_broken atom within = omega (arith, are.size)

    there : get_or after slot [] ≡ others
    there = ap (λ x. get_or x slot []) is ∙ get_or-set_same before slot others [] place_in

    here : (atom : ℕ) → lets_atom after atom slot ≡ has_member others atom
    here atom = ap (λ x. has_member x atom) there

    long : (k : ℕ) → k < length before → (k ≡ slot) ⊎ (k ≡ slot → ⊥) → length (get_or after k []) ≡ length case.leasts
    long k less (inl same) = ap (λ m. length (get_or after m [])) same ∙ ap length there ∙ rest.size ∙ are.size
    long k less (inr ne) = ap (λ x. length (get_or x k [])) is ∙ ap length (get_or-set_other before slot k others [] ne) ∙ slots.sizes k less

    breaks : (atom : ℕ) → atom < length case.leasts → BreaksSome net.interfaces net.goals (bad_for case.bad atom) (opened (lets_atom before atom) slot) → has_member broken atom ≡ true
    breaks atom within b =
        let more : LetsMore net.interfaces (opened (lets_atom before atom) slot) (lets_atom opening atom) = λ s low e. opens.lets s atom low within ∙ e in
        are.all b.goal atom b.broken.within (broken_more net.interfaces (opened (lets_atom before atom) slot) (lets_atom opening atom) more net.goals (bad_for case.bad atom) b.goal b.broken)

    some : (atom : ℕ) → atom < length case.leasts → has_member broken atom ≡ true → BreaksSome net.interfaces net.goals (bad_for case.bad atom) (opened (lets_atom before atom) slot)
    some atom within has =
        let found = are.only atom has in
        let less : LetsMore net.interfaces (lets_atom opening atom) (opened (lets_atom before atom) slot) = λ s low e. sym (opens.lets s atom low within) ∙ e in
        record { goal = found.0; broken = broken_more net.interfaces (lets_atom opening atom) (opened (lets_atom before atom) slot) less net.goals (bad_for case.bad atom) found.0 found.2 }

-- ---- one slot more is chosen

-- a slot that isn't free stays as it is
pub chosen_fixed : (net : Plan) (case : Case) (n : ℕ) (slots : List (List Bool)) → is_free net.free n ≡ false → AreChosen net case n slots → AreChosen net case (n + 1) slots
chosen_fixed net case n slots not_free are =
    record {
      slots_are = are.slots_are;
      fixed = are.fixed;
      later = λ s atom within above yes_free. are.later s atom within (omega arith) yes_free;
      opens = λ s atom less within yes_free lets. are.opens s atom (below s less yes_free) within yes_free lets;
      closed = λ s atom less within yes_free lets. are.closed s atom (below s less yes_free) within yes_free lets;
    }
  where
    below : (s : ℕ) → s < n + 1 → is_free net.free s ≡ true → s < n
    below s less yes_free =
        elim (cases_lt s n) [
          | inl low ↦ low
          | inr high ↦ let last : s ≡ n = omega arith in absurd (both_ways (is_free net.free s) (ap (λ m. is_free net.free m) last ∙ not_free) yes_free)
        ]

-- and a free one is filled
pub chosen_filled : (net : Plan) (case : Case) (n : ℕ) (before after : List (List Bool)) → n < 2 * length net.interfaces → is_free net.free n ≡ true → AreChosen net case n before → IsFilled net case n before after → AreChosen net case (n + 1) after
chosen_filled net case n before after place is_free_there are filled =
    record {
      slots_are = filled.slots;
      fixed = λ s atom within not_free. filled.others s atom (λ same. both_ways (is_free net.free s) not_free (ap (λ m. is_free net.free m) same ∙ is_free_there)) ∙ are.fixed s atom within not_free;
      later = λ s atom within above yes_free. let ne : s ≡ n → ⊥ = λ same. absurd (omega arith) in filled.others s atom ne ∙ are.later s atom within (omega arith) yes_free;
      opens = λ s atom less within yes_free lets b. opens_at s atom within yes_free lets b (cases_lt s n) less;
      closed = λ s atom less within yes_free lets. closed_at s atom within yes_free lets (cases_lt s n) less;
    }
  where
    below : (s atom : ℕ) → s < n → lets_atom after atom s ≡ lets_atom before atom s
    below s atom less = filled.others s atom (λ same. absurd (omega arith))

    back : (s atom : ℕ) → s ≤ n → BreaksAt net case after s atom → BreaksAt net case before s atom
    back s atom upto b = same_broken net.interfaces net.goals (bad_for case.bad atom) net.free (lets_atom case.posture.slots atom) (lets_atom after atom) (lets_atom before atom) s (λ t less _. below t atom (omega arith)) b

    forth : (s atom : ℕ) → s ≤ n → BreaksAt net case before s atom → BreaksAt net case after s atom
    forth s atom upto b = same_broken net.interfaces net.goals (bad_for case.bad atom) net.free (lets_atom case.posture.slots atom) (lets_atom before atom) (lets_atom after atom) s (λ t less _. sym (below t atom (omega arith))) b

    same_there : (s atom : ℕ) → s < 2 * length net.interfaces → so_far net.free (lets_atom case.posture.slots atom) (lets_atom before atom) n s ≡ lets_atom before atom s
    same_there s atom within =
        elim (cases_Bool (is_free net.free s)) [
          | inr not_free ↦ fixed_so_far net.free (lets_atom case.posture.slots atom) (lets_atom before atom) n s not_free ∙ sym (are.fixed s atom within not_free)
          | inl yes_free ↦
              free_so_far net.free (lets_atom case.posture.slots atom) (lets_atom before atom) n s yes_free
              ∙ elim (cases_lt s n) [
                | inl less ↦ ap (λ b. b && lets_atom before atom s) (lt-ltb s n less)
                | inr above ↦ ap (λ b. ltb s n && b) (are.later s atom within above yes_free) ∙ and_false (ltb s n) ∙ sym (are.later s atom within above yes_free)
              ]
        ]

    last_opens : (atom : ℕ) → BreaksAt net case before n atom → BreaksSome net.interfaces net.goals (bad_for case.bad atom) (opened (lets_atom before atom) n)
    last_opens atom b =
        breaks_more net.interfaces (opened (so_far net.free (lets_atom case.posture.slots atom) (lets_atom before atom) n) n) (opened (lets_atom before atom) n)
        (opened_more net.interfaces (so_far net.free (lets_atom case.posture.slots atom) (lets_atom before atom) n) (lets_atom before atom) n (λ s within e. sym (same_there s atom within) ∙ e)) net.goals (bad_for case.bad atom) b

    opens_last : (atom : ℕ) → BreaksSome net.interfaces net.goals (bad_for case.bad atom) (opened (lets_atom before atom) n) → BreaksAt net case before n atom
    opens_last atom b =
        breaks_more net.interfaces (opened (lets_atom before atom) n) (opened (so_far net.free (lets_atom case.posture.slots atom) (lets_atom before atom) n) n)
        (opened_more net.interfaces (lets_atom before atom) (so_far net.free (lets_atom case.posture.slots atom) (lets_atom before atom) n) n (λ s within e. same_there s atom within ∙ e)) net.goals (bad_for case.bad atom) b

    opens_at : (s atom : ℕ) → atom < length case.leasts → is_free net.free s ≡ true → lets_atom after atom s ≡ true → BreaksAt net case after s atom → (s < n) ⊎ (n ≤ s) → s < n + 1 → ⊥
    opens_at s atom within yes_free lets b (inl low) less = are.opens s atom low within yes_free (sym (below s atom low) ∙ lets) (back s atom (omega arith) b)
    opens_at s atom within yes_free lets b (inr high) less =
        let last : s ≡ n = omega arith in
        filled.opens atom within (ap (λ m. lets_atom after atom m) (sym last) ∙ lets)
        (last_opens atom (subst (λ m. BreaksAt net case before m atom) last (back s atom (omega arith) b)))

    closed_at : (s atom : ℕ) → atom < length case.leasts → is_free net.free s ≡ true → lets_atom after atom s ≡ false → (s < n) ⊎ (n ≤ s) → s < n + 1 → BreaksAt net case after s atom
    closed_at s atom within yes_free lets (inl low) less = forth s atom (omega arith) (are.closed s atom low within yes_free (sym (below s atom low) ∙ lets))
    closed_at s atom within yes_free lets (inr high) less =
        let last : s ≡ n = omega arith in
        forth s atom (omega arith) (subst (λ m. BreaksAt net case before m atom) (sym last)
        (opens_last atom (filled.closed atom within (ap (λ m. lets_atom after atom m) (sym last) ∙ lets))))

-- ---- all slots are chosen

-- what is chosen for each atom
pub chosen_for : (net : Plan) (case : Case) (slots : List (List Bool)) → AreChosen net case (2 * length net.interfaces) slots → (atom : ℕ) → atom < length case.leasts → IsChosen net.interfaces net.goals (bad_for case.bad atom) net.free (lets_atom case.posture.slots atom) (lets_atom slots atom)
chosen_for net case slots are atom within =
    record {
      fixed = λ s place not_free. are.fixed s atom place not_free;
      opens = λ s place yes_free lets. are.opens s atom place within yes_free lets;
      closed = λ s place yes_free lets. are.closed s atom place within yes_free lets;
    }

-- opening a free slot for an atom that it drops breaks some goal
pub full_from_chosen : (net : Plan) (case : Case) (slots : List (List Bool)) → AreChosen net case (2 * length net.interfaces) slots → IsFull net case slots
full_from_chosen net case slots are slot atom place within yes_free lets =
    chosen_is_full net.interfaces net.goals (bad_for case.bad atom) net.free (lets_atom case.posture.slots atom) (lets_atom slots atom) (chosen_for net case slots are atom within) slot place yes_free lets

-- so the posture is what is synthesised
pub synthesis_from_chosen : (net : Plan) (case : Case) (slots : List (List Bool)) (drops : List Dropped)
    → ((atom : ℕ) → BreaksSome net.interfaces net.goals (bad_for case.bad atom) (shut_for net case atom) → ⊥) → AreChosen net case (2 * length net.interfaces) slots
    → AreDropped net.interfaces net.goals net.free (length case.leasts) (bad_for case.bad) (lets_atom slots) drops → IsSynthesis net case slots drops
synthesis_from_chosen net case slots drops attained are dropped =
    record {
      two_each = are.slots_are.two_each;
      sizes = are.slots_are.sizes;
      attained = λ atom within b. attained atom b;
      chosen = λ atom within. chosen_for net case slots are atom within;
      dropped = dropped;
    }

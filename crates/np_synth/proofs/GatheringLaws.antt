-- The drops of postures are there, in order: they are gathered slot by slot, and for each slot atom by atom.
use Rattle.std.proofs.Common.{◌≡◌, ◌⊎◌, ℕ, zero, suc, ◌+◌, ◌*◌, ◌<◌, ◌≤◌, Bool, true, false, List, [], ◌∷◌, ◌++◌, length, get_or, refl, sym, ◌∙◌, ap, subst, inl, inr, arith}
use Rattle.std.proofs.lemmas.Bool.{cases_lt, cases_eq, cases_Bool, both_ways}
use Rattle.std.proofs.lemmas.List.{get_or_append_left, get_or_push, length_push, get_or_default}
use Rattle.np_net.specs.declared.filtering.Goal.{Goal}
use Rattle.np_net.specs.declared.filtering.Interface.{Interface}
use Rattle.np_flow.specs.Carrying.{IsFirstPath}
use Rattle.np_flow.proofs.FindingLaws.{have_first_paths}
use Rattle.np_goals.specs.Cases.{goal_at}
use Rattle.np_synth.specs.Choosing.{is_free, opened, BreaksSome, IsFirstBroken}
use Rattle.np_synth.specs.Dropping.{nothing, IsEarlier, IsDropped, AreDropped}
use Rattle.np_synth.specs.Headers.{no_goal}
use Rattle.np_synth.specs.declared.chosen.Dropped.{Dropped}
use Rattle.np_synth.proofs.DecidingLaws.{first_of_some}

-- ---- one drop more

module _ (xs : List Dropped) (x : Dropped) where
  old_at : (n : ℕ) → n < length xs → get_or (xs ++ x ∷ []) n nothing ≡ get_or xs n nothing
  old_at n within = get_or_append_left xs (x ∷ []) nothing n within

  new_at : get_or (xs ++ x ∷ []) (length xs) nothing ≡ x
  new_at = get_or_push xs x nothing (length xs) refl

  -- a place there is an old one or the new one
  old_or_new : (n : ℕ) → n < length (xs ++ x ∷ []) → (n < length xs) ⊎ (n ≡ length xs)
  old_or_new n within =
      let size : length (xs ++ x ∷ []) ≡ length xs + 1 = length_push xs x in
      elim (cases_lt n (length xs)) [ inl less ↦ inl less | inr above ↦ inr (omega arith) ]

  -- what holds of the old drops and of the new one holds of all
  all_with : (P : Dropped → Type 0) → ((n : ℕ) → n < length xs → P (get_or xs n nothing)) → P x → (n : ℕ) → n < length (xs ++ x ∷ []) → P (get_or (xs ++ x ∷ []) n nothing)
  all_with P old new n within =
      elim (old_or_new n within) [
        | inl less ↦ subst P (sym (old_at n less)) (old n less)
        | inr last ↦ subst (λ m. P (get_or (xs ++ x ∷ []) m nothing)) (sym last) (subst P (sym new_at) new)
      ]

-- ---- the order of places

-- a slot and an atom stand before others
abbrev Precedes : ℕ → ℕ → ℕ → ℕ → Type 0
Precedes s a slot atom = (s < slot) ⊎ ((s ≡ slot) × (a < atom))

-- what stands before the next atom stands before this one, or is it
before_next : (s a slot atom : ℕ) → Precedes s a slot (suc atom) → Precedes s a slot atom ⊎ ((s ≡ slot) × (a ≡ atom))
before_next s a slot atom (inl less) = inl (inl less)
before_next s a slot atom (inr here) =
    let upto : a < suc atom = here.1 in
    elim (cases_eq a atom) [ inl same ↦ inr (here.0, same) | inr other ↦ inl (inr (here.0, omega arith)) ]

-- what stands before this atom stands before the next one
next_after : (s a slot atom : ℕ) → Precedes s a slot atom → Precedes s a slot (suc atom)
next_after s a slot atom (inl less) = inl less
next_after s a slot atom (inr here) = let less : a < atom = here.1 in inr (here.0, omega arith)

-- this atom does
this_before_next : (s a slot atom : ℕ) → s ≡ slot → a ≡ atom → Precedes s a slot (suc atom)
this_before_next s a slot atom same_slot same_atom = inr (same_slot, omega arith)

-- and all of a slot stands before the next slot
next_slot : (s a slot atom : ℕ) → Precedes s a slot atom → Precedes s a (suc slot) 0
next_slot s a slot atom (inl less) = inl (omega arith)
next_slot s a slot atom (inr here) = let same : s ≡ slot = here.0 in inl (omega arith)

-- what stands before the next slot stands before the end of this one
before_next_slot : (s a slot atoms : ℕ) → a < atoms → Precedes s a (suc slot) 0 → Precedes s a slot atoms
before_next_slot s a slot atoms below (inr here) = let no : a < 0 = here.1 in absurd (omega arith)
before_next_slot s a slot atoms below (inl less) =
    elim (cases_eq s slot) [ inl same ↦ inr (same, below) | inr other ↦ inl (omega arith) ]

-- ---- gathering

-- the list has a drop of this slot and this atom
abbrev HasDrop : List Dropped → ℕ → ℕ → Type 0
HasDrop xs slot atom = (n : ℕ) × (n < length xs) × ((get_or xs n nothing).slot ≡ slot) × ((get_or xs n nothing).atom ≡ atom)

module _ (interfaces : List Interface) (goals : List Goal) (free : List Bool) (atoms : ℕ) (bad chosen : ℕ → ℕ → Bool) where
  -- the drop is of one of the atoms, and right
  abbrev IsRight : Dropped → Type 0
  IsRight x = (x.atom < atoms) × IsDropped interfaces goals (bad x.atom) free (chosen x.atom) x.slot x.goal x.path.hops

  -- a free slot that doesn't let the atom cross
  record IsShutFor (slot atom : ℕ) : Type 0 where
    pub within : slot < 2 * length interfaces
    pub below : atom < atoms
    pub yes_free : is_free free slot ≡ true
    pub is_shut : chosen atom slot ≡ false

  -- all drops before this slot and this atom
  record AreBefore (slot atom : ℕ) (xs : List Dropped) : Type 0 where
    pub each : (n : ℕ) → n < length xs → IsRight (get_or xs n nothing)
    pub ascending : (m n : ℕ) → m < n → n < length xs → IsEarlier (get_or xs m nothing) (get_or xs n nothing)
    pub before : (n : ℕ) → n < length xs → Precedes (get_or xs n nothing).slot (get_or xs n nothing).atom slot atom
    pub all : (s a : ℕ) → IsShutFor s a → Precedes s a slot atom → HasDrop xs s a

  -- there are none before the first one
  none_before : AreBefore 0 0 []
  none_before =
      record {
        each = λ n within. absurd (omega arith);
        ascending = λ m n less within. absurd (omega arith);
        before = λ n within. absurd (omega arith);
        all = λ s a shut precedes. absurd (first s a precedes);
      }
    where
      first : (s a : ℕ) → Precedes s a 0 0 → ⊥
      first s a (inl less) = omega arith
      first s a (inr here) = let less : a < 0 = here.1 in omega arith

  -- an atom that isn't dropped
  skip : (slot atom : ℕ) (xs : List Dropped) → AreBefore slot atom xs → (IsShutFor slot atom → ⊥) → AreBefore slot (suc atom) xs
  skip slot atom xs are crosses =
      record {
        each = are.each;
        ascending = are.ascending;
        before = λ n within. next_after (get_or xs n nothing).slot (get_or xs n nothing).atom slot atom (are.before n within);
        all = λ s a shut precedes. by s a shut (before_next s a slot atom precedes);
      }
    where
      by : (s a : ℕ) → IsShutFor s a → Precedes s a slot atom ⊎ ((s ≡ slot) × (a ≡ atom)) → HasDrop xs s a
      by s a shut (inl earlier) = are.all s a shut earlier
      by s a shut (inr here) = absurd (crosses (subst (λ b. IsShutFor slot b) here.1 (subst (λ t. IsShutFor t a) here.0 shut)))

  -- one that is
  add : (slot atom : ℕ) (xs : List Dropped) (x : Dropped) → AreBefore slot atom xs → x.slot ≡ slot → x.atom ≡ atom → IsRight x → AreBefore slot (suc atom) (xs ++ x ∷ [])
  add slot atom xs x are slot_is atom_is right =
      record {
        each = all_with xs x IsRight are.each right;
        ascending = λ m n less within. up m n less within (old_or_new xs x n within);
        before = all_with xs x (λ y. Precedes y.slot y.atom slot (suc atom))
            (λ n within. next_after (get_or xs n nothing).slot (get_or xs n nothing).atom slot atom (are.before n within))
            (this_before_next x.slot x.atom slot atom slot_is atom_is);
        all = λ s a shut precedes. by s a shut (before_next s a slot atom precedes);
      }
    where
      longer : length (xs ++ x ∷ []) ≡ length xs + 1
      longer = length_push xs x

      -- what stood before this slot and this atom stands before the new drop
      earlier : (y : Dropped) → Precedes y.slot y.atom slot atom → IsEarlier y x
      earlier y precedes = subst (λ t. Precedes y.slot y.atom t x.atom) (sym slot_is) (subst (λ b. Precedes y.slot y.atom slot b) (sym atom_is) precedes)

      up : (m n : ℕ) → m < n → n < length (xs ++ x ∷ []) → (n < length xs) ⊎ (n ≡ length xs) → IsEarlier (get_or (xs ++ x ∷ []) m nothing) (get_or (xs ++ x ∷ []) n nothing)
      up m n less within (inl old) =
          subst (λ y. IsEarlier y (get_or (xs ++ x ∷ []) n nothing)) (sym (old_at xs x m (omega arith)))
          (subst (λ y. IsEarlier (get_or xs m nothing) y) (sym (old_at xs x n old)) (are.ascending m n less old))
      up m n less within (inr last) =
          let there : m < length xs = omega arith in
          let new : get_or (xs ++ x ∷ []) n nothing ≡ x = ap (λ k. get_or (xs ++ x ∷ []) k nothing) last ∙ new_at xs x in
          subst (λ y. IsEarlier y (get_or (xs ++ x ∷ []) n nothing)) (sym (old_at xs x m there))
          (subst (λ y. IsEarlier (get_or xs m nothing) y) (sym new) (earlier (get_or xs m nothing) (are.before m there)))

      by : (s a : ℕ) → IsShutFor s a → Precedes s a slot atom ⊎ ((s ≡ slot) × (a ≡ atom)) → HasDrop (xs ++ x ∷ []) s a
      by s a shut (inl before) =
          let old = are.all s a shut before in
          let within : old.0 < length xs = old.1 in (
            old.0,
            omega (arith, longer),
            ap (λ (y : Dropped). y.slot) (old_at xs x old.0 within) ∙ old.2,
            ap (λ (y : Dropped). y.atom) (old_at xs x old.0 within) ∙ old.3,
          )
      by s a shut (inr here) = (
        length xs,
        omega (arith, longer),
        ap (λ (y : Dropped). y.slot) (new_at xs x) ∙ slot_is ∙ sym here.0,
        ap (λ (y : Dropped). y.atom) (new_at xs x) ∙ atom_is ∙ sym here.1,
      )

  -- a slot more
  next_row : (slot : ℕ) (xs : List Dropped) → AreBefore slot atoms xs → AreBefore (suc slot) 0 xs
  next_row slot xs are =
      record {
        each = are.each;
        ascending = are.ascending;
        before = λ n within. next_slot (get_or xs n nothing).slot (get_or xs n nothing).atom slot atoms (are.before n within);
        all = λ s a shut precedes. are.all s a shut (before_next_slot s a slot atoms shut.below precedes);
      }

  -- a free slot that doesn't let the atom cross, or not
  shut_or_not : (slot atom : ℕ) → slot < 2 * length interfaces → atom < atoms → IsShutFor slot atom ⊎ (IsShutFor slot atom → ⊥)
  shut_or_not slot atom within below =
      elim (cases_Bool (is_free free slot)) [
        | inr not_free ↦ inr (λ shut. both_ways (is_free free slot) not_free shut.yes_free)
        | inl yes_free ↦
            elim (cases_Bool (chosen atom slot)) [
              | inl crosses ↦ inr (λ shut. both_ways (chosen atom slot) shut.is_shut crosses)
              | inr is_shut ↦ inl record { within = within; below = below; yes_free = yes_free; is_shut = is_shut }
            ]
      ]

  module _ (full : (slot atom : ℕ) → IsShutFor slot atom → BreaksSome interfaces goals (bad atom) (opened (chosen atom) slot)) where
    -- the drop with the first path of this goal
    drop_by : (slot atom goal : ℕ) (hops : List (ℕ × ℕ)) → IsShutFor slot atom → IsFirstBroken interfaces goals (bad atom) (opened (chosen atom) slot) goal
        → IsFirstPath interfaces (opened (chosen atom) slot) (goal_at goals no_goal goal).from hops (goal_at goals no_goal goal).to
        → (x : Dropped) × (x.slot ≡ slot) × (x.atom ≡ atom) × IsRight x
    drop_by slot atom goal hops shut first path = (
      record { slot = slot; atom = atom; goal = goal; path = record { hops = hops } },
      refl,
      refl,
      (
        shut.below,
        record {
          within = shut.within;
          free_is = shut.yes_free;
          shut_is = shut.is_shut;
          broken = first;
          path = λ d. subst (λ (g : Goal). IsFirstPath interfaces (opened (chosen atom) slot) g.from hops g.to) (get_or_default goals goal no_goal d first.broken.within) path;
        },
      ),
    )

    -- the drop of this slot and this atom
    drop_at : (slot atom : ℕ) → IsShutFor slot atom → (x : Dropped) × (x.slot ≡ slot) × (x.atom ≡ atom) × IsRight x
    drop_at slot atom shut =
        let first = first_of_some interfaces goals (bad atom) (opened (chosen atom) slot) (full slot atom shut) in
        elim (have_first_paths interfaces (opened (chosen atom) slot) (goal_at goals no_goal first.0).from (goal_at goals no_goal first.0).to) [
          | inl path ↦ drop_by slot atom first.0 path.0 shut first.1 path.1
          | inr none ↦ absurd (none (first.1.broken.reaches no_goal))
        ]

    -- an atom more
    one_more : (slot atom : ℕ) → slot < 2 * length interfaces → atom < atoms → (xs : List Dropped) → AreBefore slot atom xs → (ys : List Dropped) × AreBefore slot (suc atom) ys
    one_more slot atom within below xs are =
        elim (shut_or_not slot atom within below) [
          | inr crosses ↦ (xs, skip slot atom xs are crosses)
          | inl shut ↦ let x = drop_at slot atom shut in (xs ++ x.0 ∷ [], add slot atom xs x.0 are x.1 x.2 x.3)
        ]

    -- the first atoms of a slot
    row : (slot : ℕ) → slot < 2 * length interfaces → (xs : List Dropped) → AreBefore slot 0 xs → (n : ℕ) → n ≤ atoms → (ys : List Dropped) × AreBefore slot n ys
    row slot within xs are zero upto = (xs, are)
    row slot within xs are (suc n) upto = let rest = row slot within xs are n (omega arith) in one_more slot n within (omega arith) rest.0 rest.1

    -- the first slots
    rows : (m : ℕ) → m ≤ 2 * length interfaces → (xs : List Dropped) × AreBefore m 0 xs
    rows zero upto = ([], none_before)
    rows (suc m) upto =
        let rest = rows m (omega arith) in
        let last = row m (omega arith) rest.0 rest.1 atoms (omega arith) in
        (last.0, next_row m last.0 last.1)

    -- all of them
    have_drops : (drops : List Dropped) × AreDropped interfaces goals free atoms bad chosen drops
    have_drops =
        let all = rows (2 * length interfaces) (omega arith) in (
          all.0,
          record {
            each = all.1.each;
            ascending = all.1.ascending;
            all = λ slot atom within below yes_free is_shut. all.1.all slot atom record { within = within; below = below; yes_free = yes_free; is_shut = is_shut } (inl within);
          },
        )

-- where opening any free slot that is shut breaks a goal, all is dropped for a reason
pub drops_of : (interfaces : List Interface) (goals : List Goal) (free : List Bool) (atoms : ℕ) (bad chosen : ℕ → ℕ → Bool)
    → ((slot atom : ℕ) → slot < 2 * length interfaces → atom < atoms → is_free free slot ≡ true → chosen atom slot ≡ false → BreaksSome interfaces goals (bad atom) (opened (chosen atom) slot))
    → (drops : List Dropped) × AreDropped interfaces goals free atoms bad chosen drops
drops_of interfaces goals free atoms bad chosen full =
    have_drops interfaces goals free atoms bad chosen (λ slot atom shut. full slot atom shut.within shut.below shut.yes_free shut.is_shut)

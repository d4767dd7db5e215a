-- The posture determines its drops.
use Rattle.std.proofs.Common.{◌≡◌, ◌⊎◌, ℕ, zero, suc, ◌<◌, ◌≤◌, Bool, List, length, get_or, refl, sym, ◌∙◌, subst, inl, inr, arith}
use Rattle.std.proofs.lemmas.Bool.{cases_lt, cases_eq, cases_order}
use Rattle.std.proofs.lemmas.List.{ext_get_or}
use Rattle.np_net.specs.declared.filtering.Goal.{Goal}
use Rattle.np_net.specs.declared.filtering.Interface.{Interface}
use Rattle.np_goals.specs.Cases.{goal_at}
use Rattle.np_synth.specs.Choosing.{opened, IsFirstBroken}
use Rattle.np_synth.specs.Dropping.{nothing, IsEarlier, IsDropped, AreDropped}
use Rattle.np_synth.specs.Headers.{no_goal}
use Rattle.np_synth.specs.Existence.{DroppedAreUnique}
use Rattle.np_synth.specs.declared.chosen.Dropped.{Dropped}
use Rattle.np_synth.proofs.FirstPathLaws.{one_path}

-- ---- lists of drops that ascend

-- no two drops stand before each other
not_both_earlier : (x y : Dropped) → IsEarlier x y → IsEarlier y x → ⊥
not_both_earlier x y (inl less) (inl more) = omega arith
not_both_earlier x y (inl less) (inr after) = let same = after.0 in omega arith
not_both_earlier x y (inr before) (inl more) = let same = before.0 in omega arith
not_both_earlier x y (inr before) (inr after) = let less = before.1 in let more = after.1 in omega arith

-- nor one before an equal one
not_before_itself : (x y : Dropped) → x ≡ y → IsEarlier x y → ⊥
not_before_itself x y same earlier = not_both_earlier x y earlier (subst (λ z. IsEarlier y z) (sym same) (subst (λ z. IsEarlier z y) same earlier))

-- each drop stands before the later ones
abbrev Ascend : List Dropped → Type 0
Ascend xs = (m n : ℕ) → m < n → n < length xs → IsEarlier (get_or xs m nothing) (get_or xs n nothing)

-- each drop of the one list is in the other
abbrev AreIn : List Dropped → List Dropped → Type 0
AreIn xs ys = (n : ℕ) → n < length xs → (m : ℕ) × (m < length ys) × (get_or xs n nothing ≡ get_or ys m nothing)

module _ (xs ys : List Dropped) (up : Ascend xs) (in_ys : AreIn xs ys) where
  -- where the lists agree below a place, the drop there isn't below it in the other list
  not_below : (n : ℕ) → n < length xs → ((k : ℕ) → k < n → get_or xs k nothing ≡ get_or ys k nothing) → (m : ℕ) → get_or xs n nothing ≡ get_or ys m nothing → n ≤ m
  not_below n within same m there =
      elim (cases_lt m n) [
        | inl below ↦ absurd (not_before_itself (get_or xs m nothing) (get_or xs n nothing) (same m below ∙ sym there) (up m n below within))
        | inr above ↦ above
      ]

  -- lists that agree as far as the second goes are equally long, or the first is shorter
  not_longer : ((k : ℕ) → k < length xs → k < length ys → get_or xs k nothing ≡ get_or ys k nothing) → length xs ≤ length ys
  not_longer same =
      elim (cases_lt (length ys) (length xs)) [
        | inr upto ↦ upto
        | inl longer ↦
            let found = in_ys (length ys) longer in
            let within : found.0 < length ys = found.1 in
            let upto : length ys ≤ found.0 = not_below (length ys) longer (λ k less. same k (omega arith) less) found.0 found.2 in
            absurd (omega arith)
      ]

module _ (xs ys : List Dropped) (up : Ascend xs) (rise : Ascend ys) (in_ys : AreIn xs ys) (in_xs : AreIn ys xs) where
  -- where they agree below a place they agree there
  same_at : (n : ℕ) → n < length xs → n < length ys → ((k : ℕ) → k < n → get_or xs k nothing ≡ get_or ys k nothing) → get_or xs n nothing ≡ get_or ys n nothing
  same_at n within below same = by (cases_eq n first.0) (cases_eq n second.0)
    where
      first : (m : ℕ) × (m < length ys) × (get_or xs n nothing ≡ get_or ys m nothing)
      first = in_ys n within

      second : (m : ℕ) × (m < length xs) × (get_or ys n nothing ≡ get_or xs m nothing)
      second = in_xs n below

      upto_first : n ≤ first.0
      upto_first = not_below xs ys up in_ys n within same first.0 first.2

      upto_second : n ≤ second.0
      upto_second = not_below ys xs rise in_xs n below (λ k less. sym (same k less)) second.0 second.2

      by : (n ≡ first.0) ⊎ (n ≡ first.0 → ⊥) → (n ≡ second.0) ⊎ (n ≡ second.0 → ⊥) → get_or xs n nothing ≡ get_or ys n nothing
      by (inl here) other = first.2 ∙ subst (λ m. get_or ys m nothing ≡ get_or ys n nothing) here refl
      by (inr later) (inl here) = sym (second.2 ∙ subst (λ m. get_or xs m nothing ≡ get_or xs n nothing) here refl)
      by (inr later) (inr too) =
          let above_first : n < first.0 = omega (arith, upto_first) in
          let above_second : n < second.0 = omega (arith, upto_second) in
          absurd (not_both_earlier (get_or xs n nothing) (get_or ys n nothing)
          (subst (λ z. IsEarlier (get_or xs n nothing) z) (sym second.2) (up n second.0 above_second second.1))
          (subst (λ z. IsEarlier (get_or ys n nothing) z) (sym first.2) (rise n first.0 above_first first.1)))

  -- so they agree below any place
  same_below : (n : ℕ) → n ≤ length xs → n ≤ length ys → (k : ℕ) → k < n → get_or xs k nothing ≡ get_or ys k nothing
  same_below zero upto too k less = absurd (omega arith)
  same_below (suc n) upto too k less =
      elim (cases_eq k n) [
        | inr other ↦ same_below n (omega arith) (omega arith) k (omega arith)
        | inl last ↦ subst (λ m. get_or xs m nothing ≡ get_or ys m nothing) (sym last) (same_at n (omega arith) (omega arith) (same_below n (omega arith) (omega arith)))
      ]

  -- and are the same list
  same_drops : xs ≡ ys
  same_drops =
      let same : (k : ℕ) → k < length xs → k < length ys → get_or xs k nothing ≡ get_or ys k nothing = λ k within below. same_below (suc k) (omega arith) (omega arith) k (omega arith) in
      let upto : length xs ≤ length ys = not_longer xs ys up in_ys same in
      let downto : length ys ≤ length xs = not_longer ys xs rise in_xs (λ k below within. sym (same k within below)) in
      ext_get_or nothing xs ys (omega arith) (λ k within. same k within (omega arith))

-- ---- a drop's reason

module _ (interfaces : List Interface) (goals : List Goal) (bad : ℕ → Bool) where
  -- there is one first goal that is broken
  one_goal : (lets : ℕ → Bool) (j k : ℕ) → IsFirstBroken interfaces goals bad lets j → IsFirstBroken interfaces goals bad lets k → j ≡ k
  one_goal lets j k is too =
      elim (cases_order j k) [
        | inl same ↦ same
        | inr apart ↦ elim apart [ inl less ↦ absurd (too.first j less is.broken) | inr more ↦ absurd (is.first k more too.broken) ]
      ]

  -- and one first path
  one_reason : (free : List Bool) (chosen : ℕ → Bool) (slot j k : ℕ) (xs ys : List (ℕ × ℕ)) → j ≡ k → IsDropped interfaces goals bad free chosen slot j xs → IsDropped interfaces goals bad free chosen slot k ys → xs ≡ ys
  one_reason free chosen slot j k xs ys same is too =
      let there : IsDropped interfaces goals bad free chosen slot k xs = subst (λ g. IsDropped interfaces goals bad free chosen slot g xs) same is in
      one_path interfaces (opened chosen slot) (goal_at goals no_goal k).from (goal_at goals no_goal k).to xs ys (there.path no_goal) (too.path no_goal)

module _ (interfaces : List Interface) (goals : List Goal) (free : List Bool) (atoms : ℕ) (bad chosen : ℕ → ℕ → Bool) where
  -- the drop is right
  abbrev Is : Dropped → Type 0
  Is x = IsDropped interfaces goals (bad x.atom) free (chosen x.atom) x.slot x.goal x.path.hops

  -- drops of the same slot and the same atom are the same
  same_drop : (x y : Dropped) → x.slot ≡ y.slot → x.atom ≡ y.atom → Is x → Is y → x ≡ y
  same_drop x y slot atom is too = λ i. record { slot = slot i; atom = atom i; goal = goal i; path = record { hops = hops i } }
    where
      there : IsDropped interfaces goals (bad y.atom) free (chosen y.atom) y.slot x.goal x.path.hops
      there = subst (λ s. IsDropped interfaces goals (bad y.atom) free (chosen y.atom) s x.goal x.path.hops) slot (subst (λ a. IsDropped interfaces goals (bad a) free (chosen a) x.slot x.goal x.path.hops) atom is)

      goal : x.goal ≡ y.goal
      goal = one_goal interfaces goals (bad y.atom) (opened (chosen y.atom) y.slot) x.goal y.goal there.broken too.broken

      hops : x.path.hops ≡ y.path.hops
      hops = one_reason interfaces goals (bad y.atom) free (chosen y.atom) y.slot x.goal y.goal x.path.hops y.path.hops goal there too

  -- what one list of all drops has the other has
  among : (xs ys : List Dropped) → AreDropped interfaces goals free atoms bad chosen xs → AreDropped interfaces goals free atoms bad chosen ys → AreIn xs ys
  among xs ys are too n within =
      let x : Dropped = get_or xs n nothing in
      let one = are.each n within in
      let found = too.all x.slot x.atom one.1.within one.0 one.1.free_is one.1.shut_is in
      (found.0, found.1, same_drop x (get_or ys found.0 nothing) (sym found.2) (sym found.3) one.1 (too.each found.0 found.1).1)

-- the drops are determined by the posture
pub dropped_are_unique : DroppedAreUnique
dropped_are_unique interfaces goals free atoms bad chosen xs ys are too =
    same_drops xs ys are.ascending too.ascending (among interfaces goals free atoms bad chosen xs ys are too) (among interfaces goals free atoms bad chosen ys xs too are)

-- The chosen posture is maximal, and there is one.
use Rattle.std.proofs.Common.{◌≡◌, ℕ, zero, suc, ◌*◌, ◌<◌, ◌≤◌, ◌&&◌, Bool, true, false, ltb, List, length, refl, sym, ◌∙◌, ap, inl, inr, arith}
use Rattle.std.specs.Prelude.{if◌then◌else◌}
use Rattle.std.proofs.lemmas.Bool.{cases_lt, cases_eq, cases_Bool, and_parts, and_from, lt-ltb, ltb-true, eq-eqb, ne_eqb, both_ways}
use Rattle.np_net.specs.declared.filtering.Goal.{Goal}
use Rattle.np_net.specs.declared.filtering.Interface.{Interface}
use Rattle.np_synth.specs.Choosing.{is_free, shut, opened, so_far, BreaksSome, IsChosen, IsMaximal}
use Rattle.np_synth.proofs.TravelLaws.{LetsMore, breaks_more}

-- ---- the slots of a posture that is chosen in part

module _ (free : List Bool) (lets chosen : ℕ → Bool) where
  -- a slot that isn't free is as it was
  pub fixed_so_far : (n s : ℕ) → is_free free s ≡ false → so_far free lets chosen n s ≡ lets s
  fixed_so_far n s e = ap (λ b. if b then ltb s n && chosen s else lets s) e

  -- a free slot is as chosen, or shut
  pub free_so_far : (n s : ℕ) → is_free free s ≡ true → so_far free lets chosen n s ≡ (ltb s n && chosen s)
  free_so_far n s e = ap (λ b. if b then ltb s n && chosen s else lets s) e

-- a slot that isn't free isn't shut
fixed_shut : (free : List Bool) (lets : ℕ → Bool) (s : ℕ) → is_free free s ≡ false → shut free lets s ≡ lets s
fixed_shut free lets s e = ap (λ b. if b then false else lets s) e

-- the slot that is opened
pub opened_here : (lets : ℕ → Bool) (slot s : ℕ) → s ≡ slot → opened lets slot s ≡ true
opened_here lets slot s e = ap (λ b. if b then true else lets s) (eq-eqb s slot e)

-- and the others
pub opened_elsewhere : (lets : ℕ → Bool) (slot s : ℕ) → (s ≡ slot → ⊥) → opened lets slot s ≡ lets s
opened_elsewhere lets slot s ne = ap (λ b. if b then true else lets s) (ne_eqb s slot ne)

-- opening a slot keeps what lets more
pub opened_more : (interfaces : List Interface) (f g : ℕ → Bool) (slot : ℕ) → LetsMore interfaces f g → LetsMore interfaces (opened f slot) (opened g slot)
opened_more interfaces f g slot more s within is =
    elim (cases_eq s slot) [
      | inl here ↦ opened_here g slot s here
      | inr other ↦ opened_elsewhere g slot s other ∙ more s within (sym (opened_elsewhere f slot s other) ∙ is)
    ]

-- ---- maximal

module _ (interfaces : List Interface) (goals : List Goal) (bad : ℕ → Bool) (free : List Bool) (lets chosen : ℕ → Bool) (is : IsChosen interfaces goals bad free lets chosen) where
  -- what crosses while a part is chosen crosses in the end
  so_far_less : (n : ℕ) → LetsMore interfaces (so_far free lets chosen n) chosen
  so_far_less n s within e =
      elim (cases_Bool (is_free free s)) [
        | inl yes_free ↦ (and_parts (ltb s n) (chosen s) (sym (free_so_far free lets chosen n s yes_free) ∙ e)).1
        | inr not_free ↦ is.fixed s within not_free ∙ sym (fixed_so_far free lets chosen n s not_free) ∙ e
      ]

  -- opening a free slot that is shut breaks some goal
  pub chosen_is_full : (s : ℕ) → s < 2 * length interfaces → is_free free s ≡ true → chosen s ≡ false → BreaksSome interfaces goals bad (opened chosen s)
  chosen_is_full s within yes_free shut_there =
      breaks_more interfaces (opened (so_far free lets chosen s) s) (opened chosen s) (opened_more interfaces (so_far free lets chosen s) chosen s (so_far_less s)) goals bad (is.closed s within yes_free shut_there)

  -- with no slot chosen all free ones are shut
  none_chosen : LetsMore interfaces (so_far free lets chosen 0) (shut free lets)
  none_chosen s within e =
      elim (cases_Bool (is_free free s)) [
        | inl yes_free ↦
            let less : s < 0 = ltb-true s 0 (and_parts (ltb s 0) (chosen s) (sym (free_so_far free lets chosen 0 s yes_free) ∙ e)).0 in
            absurd (omega arith)
        | inr not_free ↦ fixed_shut free lets s not_free ∙ sym (fixed_so_far free lets chosen 0 s not_free) ∙ e
      ]

  -- with one slot more, other slots are as before
  one_other : (n s : ℕ) → (s ≡ n → ⊥) → so_far free lets chosen (suc n) s ≡ true → so_far free lets chosen n s ≡ true
  one_other n s ne e =
      elim (cases_Bool (is_free free s)) [
        | inl yes_free ↦
            let parts = and_parts (ltb s (suc n)) (chosen s) (sym (free_so_far free lets chosen (suc n) s yes_free) ∙ e) in
            let upto : s < suc n = ltb-true s (suc n) parts.0 in
            let less : s < n = elim (cases_lt s n) [ inl less ↦ less | inr above ↦ absurd (ne (omega arith)) ] in
            free_so_far free lets chosen n s yes_free ∙ and_from (ltb s n) (chosen s) (lt-ltb s n less) parts.1
        | inr not_free ↦ fixed_so_far free lets chosen n s not_free ∙ sym (fixed_so_far free lets chosen (suc n) s not_free) ∙ e
      ]

  -- a slot more lets no more cross than with that slot opened
  one_more : (n : ℕ) → LetsMore interfaces (so_far free lets chosen (suc n)) (opened (so_far free lets chosen n) n)
  one_more n s within e =
      elim (cases_eq s n) [
        | inl here ↦ opened_here (so_far free lets chosen n) n s here
        | inr other ↦ opened_elsewhere (so_far free lets chosen n) n s other ∙ one_other n s other e
      ]

  -- and no more than without it, where it isn't free
  one_fixed : (n : ℕ) → is_free free n ≡ false → LetsMore interfaces (so_far free lets chosen (suc n)) (so_far free lets chosen n)
  one_fixed n not_free s within e =
      elim (cases_eq s n) [
        | inl here ↦
            let there : is_free free s ≡ false = ap (λ m. is_free free m) here ∙ not_free in
            fixed_so_far free lets chosen n s there ∙ sym (fixed_so_far free lets chosen (suc n) s there) ∙ e
        | inr other ↦ one_other n s other e
      ]

  -- or shut
  one_shut : (n : ℕ) → is_free free n ≡ true → chosen n ≡ false → LetsMore interfaces (so_far free lets chosen (suc n)) (so_far free lets chosen n)
  one_shut n yes_free shut_there s within e =
      elim (cases_eq s n) [
        | inl here ↦
            let there : is_free free s ≡ true = ap (λ m. is_free free m) here ∙ yes_free in
            let open_there : chosen s ≡ true = (and_parts (ltb s (suc n)) (chosen s) (sym (free_so_far free lets chosen (suc n) s there) ∙ e)).1 in
            absurd (both_ways (chosen s) (ap chosen here ∙ shut_there) open_there)
        | inr other ↦ one_other n s other e
      ]

  module _ (attained : BreaksSome interfaces goals bad (shut free lets) → ⊥) where
    -- no goal is broken while the slots up to here are chosen
    met_so_far : (n : ℕ) → n ≤ 2 * length interfaces → BreaksSome interfaces goals bad (so_far free lets chosen n) → ⊥
    met_so_far zero upto b = attained (breaks_more interfaces (so_far free lets chosen 0) (shut free lets) none_chosen goals bad b)
    met_so_far (suc n) upto b =
        let below : n < 2 * length interfaces = omega arith in
        elim (cases_Bool (is_free free n)) [
          | inr not_free ↦ met_so_far n (omega arith) (breaks_more interfaces (so_far free lets chosen (suc n)) (so_far free lets chosen n) (one_fixed n not_free) goals bad b)
          | inl yes_free ↦
              elim (cases_Bool (chosen n)) [
                | inl open_there ↦ is.opens n below yes_free open_there (breaks_more interfaces (so_far free lets chosen (suc n)) (opened (so_far free lets chosen n) n) (one_more n) goals bad b)
                | inr shut_there ↦ met_so_far n (omega arith) (breaks_more interfaces (so_far free lets chosen (suc n)) (so_far free lets chosen n) (one_shut n yes_free shut_there) goals bad b)
              ]
        ]

    -- past the last slot all are
    all_chosen : LetsMore interfaces chosen (so_far free lets chosen (2 * length interfaces))
    all_chosen s within e =
        elim (cases_Bool (is_free free s)) [
          | inl yes_free ↦ free_so_far free lets chosen (2 * length interfaces) s yes_free ∙ and_from (ltb s (2 * length interfaces)) (chosen s) (lt-ltb s (2 * length interfaces) within) e
          | inr not_free ↦ fixed_so_far free lets chosen (2 * length interfaces) s not_free ∙ sym (is.fixed s within not_free) ∙ e
        ]

    -- so the chosen posture is maximal
    pub is_maximal : IsMaximal interfaces goals bad free chosen
    is_maximal =
        record {
          meets = λ b. met_so_far (2 * length interfaces) (omega arith) (breaks_more interfaces chosen (so_far free lets chosen (2 * length interfaces)) all_chosen goals bad b);
          full = chosen_is_full;
        }

pub chosen_is_maximal : (interfaces : List Interface) (goals : List Goal) (bad : ℕ → Bool) (free : List Bool) (lets chosen : ℕ → Bool) → IsChosen interfaces goals bad free lets chosen → (BreaksSome interfaces goals bad (shut free lets) → ⊥) → IsMaximal interfaces goals bad free chosen
chosen_is_maximal interfaces goals bad free lets chosen is attained = is_maximal interfaces goals bad free lets chosen is attained

-- ---- unique

-- two postures that agree below a slot let the same cross while what is below it is chosen
pub same_so_far : (interfaces : List Interface) (free : List Bool) (lets f g : ℕ → Bool) (n : ℕ) → ((s : ℕ) → s < n → is_free free s ≡ true → f s ≡ g s) → LetsMore interfaces (so_far free lets f n) (so_far free lets g n)
same_so_far interfaces free lets f g n same s within e =
    elim (cases_Bool (is_free free s)) [
      | inl yes_free ↦
          let parts = and_parts (ltb s n) (f s) (sym (free_so_far free lets f n s yes_free) ∙ e) in
          free_so_far free lets g n s yes_free ∙ and_from (ltb s n) (g s) parts.0 (sym (same s (ltb-true s n parts.0) yes_free) ∙ parts.1)
      | inr not_free ↦ fixed_so_far free lets g n s not_free ∙ sym (fixed_so_far free lets f n s not_free) ∙ e
    ]

-- so what is broken with the slot opened is broken in the one as in the other
pub same_broken : (interfaces : List Interface) (goals : List Goal) (bad : ℕ → Bool) (free : List Bool) (lets f g : ℕ → Bool) (n : ℕ) → ((s : ℕ) → s < n → is_free free s ≡ true → f s ≡ g s) → BreaksSome interfaces goals bad (opened (so_far free lets f n) n) → BreaksSome interfaces goals bad (opened (so_far free lets g n) n)
same_broken interfaces goals bad free lets f g n same b =
    breaks_more interfaces (opened (so_far free lets f n) n) (opened (so_far free lets g n) n) (opened_more interfaces (so_far free lets f n) (so_far free lets g n) n (same_so_far interfaces free lets f g n same)) goals bad b

module _ (interfaces : List Interface) (goals : List Goal) (bad : ℕ → Bool) (free : List Bool) (lets chosen other : ℕ → Bool) (is : IsChosen interfaces goals bad free lets chosen) (too : IsChosen interfaces goals bad free lets other) where
  -- two that agree below a free slot agree there
  same_here : (n : ℕ) → n < 2 * length interfaces → is_free free n ≡ true → ((s : ℕ) → s < n → chosen s ≡ other s) → (b c : Bool) → chosen n ≡ b → other n ≡ c → b ≡ c
  same_here n within yes_free same true true e f = refl
  same_here n within yes_free same false false e f = refl
  same_here n within yes_free same true false e f =
      absurd (is.opens n within yes_free e (same_broken interfaces goals bad free lets other chosen n (λ s less _. sym (same s less)) (too.closed n within yes_free f)))
  same_here n within yes_free same false true e f =
      absurd (too.opens n within yes_free f (same_broken interfaces goals bad free lets chosen other n (λ s less _. same s less) (is.closed n within yes_free e)))

  -- and so at any slot
  same_at : (n : ℕ) → n < 2 * length interfaces → ((s : ℕ) → s < n → chosen s ≡ other s) → chosen n ≡ other n
  same_at n within same =
      elim (cases_Bool (is_free free n)) [
        | inl yes_free ↦ same_here n within yes_free same (chosen n) (other n) refl refl
        | inr not_free ↦ is.fixed n within not_free ∙ sym (too.fixed n within not_free)
      ]

  -- so they agree at the first slots
  same_below : (n : ℕ) → n ≤ 2 * length interfaces → (s : ℕ) → s < n → chosen s ≡ other s
  same_below zero upto s less = absurd (omega arith)
  same_below (suc n) upto s less =
      elim (cases_lt s n) [
        | inl below ↦ same_below n (omega arith) s below
        | inr above ↦
            let last : s ≡ n = omega arith in
            ap chosen last ∙ same_at n (omega arith) (same_below n (omega arith)) ∙ ap other (sym last)
      ]

pub chosen_is_unique : (interfaces : List Interface) (goals : List Goal) (bad : ℕ → Bool) (free : List Bool) (lets chosen other : ℕ → Bool) → IsChosen interfaces goals bad free lets chosen → IsChosen interfaces goals bad free lets other → (s : ℕ) → s < 2 * length interfaces → chosen s ≡ other s
chosen_is_unique interfaces goals bad free lets chosen other is too s within = same_below interfaces goals bad free lets chosen other is too (2 * length interfaces) (omega arith) s within

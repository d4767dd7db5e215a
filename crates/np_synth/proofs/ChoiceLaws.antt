-- There is a chosen posture: it is made slot by slot.
use Rattle.std.proofs.Common.{◌≡◌, ℕ, zero, suc, ◌*◌, ◌<◌, ◌==◌, Bool, true, false, List, length, refl, sym, ap, subst, inl, inr, arith}
use Rattle.std.specs.Prelude.{if◌then◌else◌}
use Rattle.std.proofs.lemmas.Bool.{cases_eq, cases_Bool, eq-eqb, ne_eqb, both_ways}
use Rattle.np_net.specs.declared.filtering.Goal.{Goal}
use Rattle.np_net.specs.declared.filtering.Interface.{Interface}
use Rattle.np_synth.specs.Choosing.{is_free, opened, so_far, BreaksSome, IsChosen}
use Rattle.np_synth.proofs.ChoosingLaws.{same_broken}
use Rattle.np_synth.proofs.DecidingLaws.{breaks_or_not}

-- this slot as it is said, and the others as they are
with_slot : (ℕ → Bool) → ℕ → Bool → ℕ → Bool
with_slot f slot b s = if s == slot then b else f s

-- that slot
with_slot_here : (f : ℕ → Bool) (slot : ℕ) (b : Bool) → with_slot f slot b slot ≡ b
unfolding with_slot
with_slot_here f slot b = ap (λ t. if t then b else f slot) (eq-eqb slot slot refl)

-- and the others
with_slot_elsewhere : (f : ℕ → Bool) (slot : ℕ) (b : Bool) (s : ℕ) → (s ≡ slot → ⊥) → with_slot f slot b s ≡ f s
unfolding with_slot
with_slot_elsewhere f slot b s ne = ap (λ t. if t then b else f s) (ne_eqb s slot ne)

module _ (interfaces : List Interface) (goals : List Goal) (bad : ℕ → Bool) (free : List Bool) (lets : ℕ → Bool) where
  -- some goal is broken with this slot opened, those before it as chosen, and those after it shut
  abbrev BreaksWith : (ℕ → Bool) → ℕ → Type 0
  BreaksWith chosen s = BreaksSome interfaces goals bad (opened (so_far free lets chosen s) s)

  -- what may be said of a slot once those before it are chosen
  record FitsSlot (chosen : ℕ → Bool) (s : ℕ) (b : Bool) : Type 0 where
    pub fixed : is_free free s ≡ false → b ≡ lets s
    pub opens : is_free free s ≡ true → b ≡ true → BreaksWith chosen s → ⊥
    pub closed : is_free free s ≡ true → b ≡ false → BreaksWith chosen s

  -- something may be said of it
  fitting : (chosen : ℕ → Bool) (s : ℕ) → (b : Bool) × FitsSlot chosen s b
  fitting chosen s =
      elim (cases_Bool (is_free free s)) [
        | inr not_free ↦ (
          lets s,
          record {
            fixed = λ e. refl;
            opens = λ e. absurd (both_ways (is_free free s) not_free e);
            closed = λ e. absurd (both_ways (is_free free s) not_free e);
          },
        )
        | inl yes_free ↦
            elim (breaks_or_not interfaces goals bad (opened (so_far free lets chosen s) s)) [
              | inl breaks ↦ (
                false,
                record { fixed = λ e. absurd (both_ways (is_free free s) e yes_free); opens = λ e no. absurd (cc); closed = λ e f. breaks },
              )
              | inr whole ↦ (
                true,
                record { fixed = λ e. absurd (both_ways (is_free free s) e yes_free); opens = λ e t. whole; closed = λ e no. absurd (cc) },
              )
            ]
      ]

  -- the first n slots are chosen
  abbrev AreChosen : ℕ → (ℕ → Bool) → Type 0
  AreChosen n chosen = (s : ℕ) → s < n → FitsSlot chosen s (chosen s)

  -- what fits a slot goes by the slots before it alone
  fits_same : (f g : ℕ → Bool) (s : ℕ) (b : Bool) → ((t : ℕ) → t < s → f t ≡ g t) → FitsSlot f s b → FitsSlot g s b
  fits_same f g s b same fits =
      record {
        fixed = fits.fixed;
        opens = λ yes_free e breaks. fits.opens yes_free e (same_broken interfaces goals bad free lets g f s (λ t less _. sym (same t less)) breaks);
        closed = λ yes_free e. same_broken interfaces goals bad free lets f g s (λ t less _. same t less) (fits.closed yes_free e);
      }

  -- one slot more
  choose_more : (n : ℕ) (f : ℕ → Bool) (b : Bool) → AreChosen n f → FitsSlot f n b → AreChosen (suc n) (with_slot f n b)
  choose_more n f b are fits s less =
      elim (cases_eq s n) [
        | inl here ↦ subst (λ m. FitsSlot (with_slot f n b) m (with_slot f n b m)) (sym here) last
        | inr other ↦ before (omega arith)
      ]
    where
      as_before : (t : ℕ) → t < n → f t ≡ with_slot f n b t
      as_before t below = sym (with_slot_elsewhere f n b t (λ e. let same : t ≡ n = e in absurd (omega arith)))

      last : FitsSlot (with_slot f n b) n (with_slot f n b n)
      last = subst (λ c. FitsSlot (with_slot f n b) n c) (sym (with_slot_here f n b)) (fits_same f (with_slot f n b) n b as_before fits)

      before : s < n → FitsSlot (with_slot f n b) s (with_slot f n b s)
      before below =
          subst (λ c. FitsSlot (with_slot f n b) s c) (as_before s below)
          (fits_same f (with_slot f n b) s (f s) (λ t less. as_before t (omega arith)) (are s below))

  -- so the first slots can be chosen, as many as there are
  choose : (n : ℕ) → (chosen : ℕ → Bool) × AreChosen n chosen
  choose zero = (lets, λ s less. absurd (omega arith))
  choose (suc n) =
      let rest = choose n in
      let here = fitting rest.0 n in
      (with_slot rest.0 n here.0, choose_more n rest.0 here.0 rest.1 here.1)

  -- the chosen posture
  pub have_chosen : (chosen : ℕ → Bool) × IsChosen interfaces goals bad free lets chosen
  have_chosen =
      let all = choose (2 * length interfaces) in (
        all.0,
        record {
          fixed = λ s within. (all.1 s within).fixed;
          opens = λ s within. (all.1 s within).opens;
          closed = λ s within. (all.1 s within).closed;
        },
      )

-- What the operators on values and wild masks mean for the numbers that patterns have.
use Rattle.std.proofs.Common.{◌≡◌, ℕ, zero, suc, ◌+◌, ◌-◌, ◌*◌, ◌%◌, ◌<◌, ◌≤◌, ◌^◌, Bool, true, false, refl, sym, ◌∙◌, ap, arith, bit_and, bit_or, nat_lt, nat_eq, inl, inr}
use Rattle.std.specs.Prelude.{◌&&◌, ◌||◌, not, ◌≢◌, bit_xor}
use Rattle.std.proofs.lemmas.Bool.{and_parts, lt-ltb, ltb-true, eq-eqb, eqb-true, cases_eq, cases_lt, or_right, and_right, true≢false, cases_Bool}
use Rattle.std.proofs.lemmas.Nat.{and_le_l, and_le_r, or_of_32}
use Rattle.np_space.specs.Bit.{has_bit}
use Rattle.np_space.specs.Flag.{flag_number, same_flag}
use Rattle.np_space.specs.Ternary.{agrees_at, agrees_below, pattern_has, ternary_has, HasAsStated}
use Rattle.np_space.specs.declared.patterns.Ternary.{Ternary}
use Rattle.np_space.proofs.BitLemmas.{bit-and, bit-or, bit-xor, bit-not, bit-above, bit-zero, bit-mask_same, bit-mask_other, same_from_has_bit, some_bit}
use Rattle.np_space.proofs.FlagLemmas.{same_flag-equal, same_answers, same_flag-refl, and_both, and_true, or_false}

-- ---- from the bits to the pattern

-- the test of all bits says what it says of each
below_at : (v w x n i : ℕ) → agrees_below v w x n ≡ true → i < n → agrees_at v w x i ≡ true
unfolding agrees_below
below_at v w x zero i h l = absurd (omega arith)
below_at v w x (suc n) i h l =
    let parts = and_parts (agrees_at v w x n) (agrees_below v w x n) h in
    elim (cases_eq i n) [
      | inl e ↦ ap (λ j. agrees_at v w x j) e ∙ parts.0
      | inr ne ↦ below_at v w x n i parts.1 (omega arith)
    ]

-- and holds where each of them does
below_from : (v w x n : ℕ) → ((i : ℕ) → i < n → agrees_at v w x i ≡ true) → agrees_below v w x n ≡ true
unfolding agrees_below
below_from v w x zero h = refl
below_from v w x (suc n) h =
    and_both (agrees_at v w x n) (agrees_below v w x n) (h n (omega arith)) (below_from v w x n (λ i l. h i (omega arith)))

-- a number of the pattern agrees on each bit
pub pattern_at : (v w x i : ℕ) → pattern_has v w x ≡ true → i < 32 → agrees_at v w x i ≡ true
unfolding pattern_has
pattern_at v w x i h l = below_at v w x 32 i (and_parts (nat_lt x (2 ^ 32)) (agrees_below v w x 32) h).1 l

-- a number of the pattern has 32 bits
pub pattern_width : (v w x : ℕ) → pattern_has v w x ≡ true → x < 2 ^ 32
unfolding pattern_has
pattern_width v w x h = ltb-true x (2 ^ 32) (and_parts (nat_lt x (2 ^ 32)) (agrees_below v w x 32) h).0

-- a number of 32 bits that agrees on each bit is in the pattern
pub pattern_from : (v w x : ℕ) → x < 2 ^ 32 → ((i : ℕ) → i < 32 → agrees_at v w x i ≡ true) → pattern_has v w x ≡ true
unfolding pattern_has
pattern_from v w x l h = and_both (nat_lt x (2 ^ 32)) (agrees_below v w x 32) (lt-ltb x (2 ^ 32) l) (below_from v w x 32 h)

-- patterns whose bits give the same answers have the same numbers
pub pattern_same : (v w v' w' x : ℕ) → ((i : ℕ) → i < 32 → agrees_at v w x i ≡ agrees_at v' w' x i) → pattern_has v w x ≡ pattern_has v' w' x
pattern_same v w v' w' x h =
    same_answers (pattern_has v w x) (pattern_has v' w' x)
    (λ e. pattern_from v' w' x (pattern_width v w x e) (λ i l. sym (h i l) ∙ pattern_at v w x i e l))
    (λ e. pattern_from v w x (pattern_width v' w' x e) (λ i l. h i l ∙ pattern_at v' w' x i e l))

-- where the bits give both answers, the pattern has the common numbers
pub pattern_both : (v w v' w' m n x : ℕ) → ((i : ℕ) → i < 32 → agrees_at m n x i ≡ (agrees_at v w x i && agrees_at v' w' x i)) → pattern_has m n x ≡ (pattern_has v w x && pattern_has v' w' x)
pattern_both v w v' w' m n x h =
    same_answers (pattern_has m n x) (pattern_has v w x && pattern_has v' w' x)
    (λ e. let at = λ (i : ℕ) (l : i < 32). and_parts (agrees_at v w x i) (agrees_at v' w' x i) (sym (h i l) ∙ pattern_at m n x i e l) in
    and_both _ _ (pattern_from v w x (pattern_width m n x e) (λ i l. (at i l).0)) (pattern_from v' w' x (pattern_width m n x e) (λ i l. (at i l).1)))
    (λ e. let both = and_parts (pattern_has v w x) (pattern_has v' w' x) e in
    pattern_from m n x (pattern_width v w x both.0) (λ i l. h i l ∙ and_both _ _ (pattern_at v w x i both.0 l) (pattern_at v' w' x i both.1 l)))

-- a bit on which the number cannot agree keeps it out
pub pattern_not : (v w x i : ℕ) → i < 32 → agrees_at v w x i ≡ false → pattern_has v w x ≡ false
pattern_not v w x i l apart =
    elim (cases_Bool (pattern_has v w x)) [
      | inl e ↦ absurd (true≢false (sym (pattern_at v w x i e l) ∙ apart))
      | inr e ↦ e
    ]

-- ---- what a pattern has, in words

-- a pattern has what its bits say
pub has_as_stated : HasAsStated
has_as_stated p x = (
  (λ has. record {
    width = pattern_width p.value p.wild x has;
    agrees = λ i l fixed. same_flag-equal (has_bit x i) (has_bit p.value i) (sym (ap (λ w. w || same_flag (has_bit x i) (has_bit p.value i)) fixed) ∙ pattern_at p.value p.wild x i has l);
  }),
  (λ stated. pattern_from p.value p.wild x stated.width (λ i l.
      elim (cases_Bool (has_bit p.wild i)) [
        | inl wild ↦ ap (λ w. w || same_flag (has_bit x i) (has_bit p.value i)) wild
        | inr fixed ↦ or_right (has_bit p.wild i) (same_flag (has_bit x i) (has_bit p.value i)) (ap (λ t. same_flag t (has_bit p.value i)) (stated.agrees i l fixed) ∙ same_flag-refl (has_bit p.value i))
      ])),
)

-- ---- the mask

-- a cleared pattern's value has no wild bit
pub wild_clear : (p : Ternary) (i : ℕ) → has_bit p.wild i ≡ true → has_bit p.value i ≡ false
wild_clear p i w =
    elim (cases_Bool (has_bit p.value i)) [
      | inl v ↦ absurd (true≢false (sym (and_both _ _ v w) ∙ sym (bit-and p.value p.wild i) ∙ ap (λ n. has_bit n i) p.cleared ∙ bit-zero i))
      | inr unset ↦ unset
    ]

-- the value may have anything on a wild bit
pub of_bits : (v w i : ℕ) (x : ℕ) → w < 2 ^ 32 → i < 32 → agrees_at (bit_and v (4294967295 - w)) w x i ≡ agrees_at v w x i
of_bits v w i x lw l =
    by (has_bit w i) (has_bit v i) (has_bit (bit_and v (4294967295 - w)) i) (has_bit x i)
    (bit-and v (4294967295 - w) i ∙ ap (λ b. has_bit v i && b) (bit-not w i lw l))
  where
    by : (w v m x : Bool) → m ≡ (v && not w) → (w || same_flag x m) ≡ (w || same_flag x v)
    by false false m x e = ap (λ b. same_flag x b) e
    by false true m x e = ap (λ b. same_flag x b) e
    by true v m x e = refl

-- so a value that is cleared there has the same numbers
pub of_same : (v w x : ℕ) → w < 2 ^ 32 → pattern_has (bit_and v (4294967295 - w)) w x ≡ pattern_has v w x
of_same v w x lw = pattern_same (bit_and v (4294967295 - w)) w v w x (λ i l. of_bits v w i x lw l)

-- the test by the mask
pub mask_tests : (p : Ternary) (x : ℕ) → x < 2 ^ 32 → nat_eq (bit_and x (4294967295 - p.wild)) p.value ≡ ternary_has p x
mask_tests p x lx =
    same_answers (nat_eq (bit_and x (4294967295 - p.wild)) p.value) (pattern_has p.value p.wild x)
    (λ e. pattern_from p.value p.wild x lx (λ i l.
    to (has_bit p.wild i) (has_bit x i) (has_bit p.value i) (sym (masked i l) ∙ ap (λ n. has_bit n i) (eqb-true _ _ e))))
    (λ e. eq-eqb _ _ (same_from_has_bit _ _ (omega (arith, and_le_l x (4294967295 - p.wild))) p.value_width (λ i l.
    masked i l ∙ from (has_bit p.wild i) (has_bit x i) (has_bit p.value i) (wild_clear p i) (pattern_at p.value p.wild x i e l))))
  where
    masked : (i : ℕ) → i < 32 → has_bit (bit_and x (4294967295 - p.wild)) i ≡ (has_bit x i && not (has_bit p.wild i))
    masked i l = bit-and x (4294967295 - p.wild) i ∙ ap (λ b. has_bit x i && b) (bit-not p.wild i p.wild_width l)

    to : (w x v : Bool) → (x && not w) ≡ v → (w || same_flag x v) ≡ true
    to true x v e = refl
    to false false v e = ap not (sym e)
    to false true v e = sym e

    from : (w x v : Bool) → (w ≡ true → v ≡ false) → (w || same_flag x v) ≡ true → (x && not w) ≡ v
    from true false v clear e = sym (clear refl)
    from true true v clear e = sym (clear refl)
    from false false false clear e = refl
    from false false true clear e = e
    from false true v clear e = sym e

-- ---- the common numbers

-- no bit on which both patterns are fixed tells them apart
abbrev pub IsCompatible : Ternary → Ternary → ℕ → Type 0
IsCompatible p q i = has_bit p.wild i ≡ false → has_bit q.wild i ≡ false → has_bit p.value i ≡ has_bit q.value i

module _ (p q : Ternary) where
  -- the bits that differ though both patterns fix them
  abbrev pub clash : ℕ
  clash = bit_and (bit_xor p.value q.value) (4294967295 - bit_or p.wild q.wild)

  -- the wild bits of both fit a word
  or_width : bit_or p.wild q.wild < 2 ^ 32
  or_width = or_of_32 p.wild q.wild p.wild_width q.wild_width

  -- the bits on which two patterns clash
  pub clash_bit : (i : ℕ) → i < 32 → has_bit clash i ≡ (not (same_flag (has_bit p.value i) (has_bit q.value i)) && not (has_bit p.wild i || has_bit q.wild i))
  clash_bit i l =
      bit-and (bit_xor p.value q.value) (4294967295 - bit_or p.wild q.wild) i
      ∙ (λ j. bit-xor p.value q.value i j && (bit-not (bit_or p.wild q.wild) i or_width l ∙ ap not (bit-or p.wild q.wild i)) j)

  -- where none is set, the patterns are compatible
  pub no_clash : clash ≡ 0 → (i : ℕ) → i < 32 → IsCompatible p q i
  no_clash e i l = by (has_bit p.wild i) (has_bit q.wild i) (has_bit p.value i) (has_bit q.value i) (sym (clash_bit i l) ∙ ap (λ n. has_bit n i) e ∙ bit-zero i)
    where
      by : (w u v t : Bool) → (not (same_flag v t) && not (w || u)) ≡ false → w ≡ false → u ≡ false → v ≡ t
      by true u v t h ew eu = absurd (true≢false ew)
      by false true v t h ew eu = absurd (true≢false eu)
      by false false false false h ew eu = refl
      by false false false true h ew eu = sym h
      by false false true false h ew eu = h
      by false false true true h ew eu = refl

  -- where one is set, they have no number in common
  pub clash_apart : (i : ℕ) → i < 32 → has_bit clash i ≡ true → (x : ℕ) → (ternary_has p x && ternary_has q x) ≡ false
  clash_apart i l set x =
      elim (cases_Bool (ternary_has p x && ternary_has q x)) [
        | inr neither ↦ neither
        | inl common ↦
            let both = and_parts (ternary_has p x) (ternary_has q x) common in
            let parts = and_parts _ _ (sym (clash_bit i l) ∙ set) in
            absurd (by (has_bit p.wild i) (has_bit q.wild i) (has_bit p.value i) (has_bit q.value i) (has_bit x i) parts.0 parts.1
            (pattern_at p.value p.wild x i both.0 l) (pattern_at q.value q.wild x i both.1 l))
      ]
    where
      by : (w u v t x : Bool) → not (same_flag v t) ≡ true → not (w || u) ≡ true → (w || same_flag x v) ≡ true → (u || same_flag x t) ≡ true → ⊥
      by true u v t x differ fixed a b = true≢false (sym fixed)
      by false true v t x differ fixed a b = true≢false (sym fixed)
      by false false false false x differ fixed a b = true≢false (sym differ)
      by false false true true x differ fixed a b = true≢false (sym differ)
      by false false false true false differ fixed a b = true≢false (sym b)
      by false false false true true differ fixed a b = true≢false (sym a)
      by false false true false false differ fixed a b = true≢false (sym a)
      by false false true false true differ fixed a b = true≢false (sym b)

  -- the common pattern agrees where both do
  pub meet_bits : (x : ℕ) → clash ≡ 0 → (i : ℕ) → i < 32 → agrees_at (bit_or p.value q.value) (bit_and p.wild q.wild) x i ≡ (agrees_at p.value p.wild x i && agrees_at q.value q.wild x i)
  meet_bits x e i l =
      (λ j. bit-and p.wild q.wild i j || same_flag (has_bit x i) (bit-or p.value q.value i j))
      ∙ by (has_bit p.wild i) (has_bit q.wild i) (has_bit p.value i) (has_bit q.value i) (has_bit x i) (wild_clear p i) (wild_clear q i) (no_clash e i l)
    where
      by : (w u v t x : Bool) → (w ≡ true → v ≡ false) → (u ≡ true → t ≡ false) → (w ≡ false → u ≡ false → v ≡ t) → ((w && u) || same_flag x (v || t)) ≡ ((w || same_flag x v) && (u || same_flag x t))
      by true true v t x clear_v clear_t same = refl
      by true false false t x clear_v clear_t same = refl
      by true false true t x clear_v clear_t same = absurd (true≢false (clear_v refl))
      by false true v true x clear_v clear_t same = absurd (true≢false (clear_t refl))
      by false true false false false clear_v clear_t same = refl
      by false true false false true clear_v clear_t same = refl
      by false true true false false clear_v clear_t same = refl
      by false true true false true clear_v clear_t same = refl
      by false false false false false clear_v clear_t same = refl
      by false false false false true clear_v clear_t same = refl
      by false false true true false clear_v clear_t same = refl
      by false false true true true clear_v clear_t same = refl
      by false false false true x clear_v clear_t same = absurd (true≢false (sym (same refl refl)))
      by false false true false x clear_v clear_t same = absurd (true≢false (same refl refl))

  -- so it has the common numbers
  pub meet_same : clash ≡ 0 → (x : ℕ) → pattern_has (bit_or p.value q.value) (bit_and p.wild q.wild) x ≡ (ternary_has p x && ternary_has q x)
  meet_same e x = pattern_both p.value p.wild q.value q.wild (bit_or p.value q.value) (bit_and p.wild q.wild) x (meet_bits x e)

  -- patterns that clash have none
  pub clash_none : clash ≢ 0 → (x : ℕ) → false ≡ (ternary_has p x && ternary_has q x)
  clash_none ne x = let at = some_bit clash clash_width (omega arith) in sym (clash_apart at.0 at.1 at.2 x)
    where
      clash_width : clash < 2 ^ 32
      clash_width = omega (arith, and_le_r (bit_xor p.value q.value) (4294967295 - bit_or p.wild q.wild))

  -- its value is cleared on its wild bits
  pub meet_cleared : clash ≡ 0 → bit_and (bit_or p.value q.value) (bit_and p.wild q.wild) ≡ 0
  meet_cleared e =
      same_from_has_bit _ _ (omega (arith, and_le_l (bit_or p.value q.value) (bit_and p.wild q.wild), or_of_32 p.value q.value p.value_width q.value_width)) (omega arith) (λ i l.
      bit-and (bit_or p.value q.value) (bit_and p.wild q.wild) i ∙ (λ j. bit-or p.value q.value i j && bit-and p.wild q.wild i j)
      ∙ by (has_bit p.wild i) (has_bit q.wild i) (has_bit p.value i) (has_bit q.value i) (wild_clear p i) (wild_clear q i) ∙ sym (bit-zero i))
    where
      by : (w u v t : Bool) → (w ≡ true → v ≡ false) → (u ≡ true → t ≡ false) → ((v || t) && (w && u)) ≡ false
      by true true false false clear_v clear_t = refl
      by true true true t clear_v clear_t = absurd (true≢false (clear_v refl))
      by true true false true clear_v clear_t = absurd (true≢false (clear_t refl))
      by true false v t clear_v clear_t = and_right (v || t) false refl
      by false u v t clear_v clear_t = and_right (v || t) false refl

  -- where the first pattern is fixed, the common one is as it is
  pub meet_narrower : clash ≡ 0 → (i : ℕ) → has_bit p.wild i ≡ false → (has_bit (bit_and p.wild q.wild) i ≡ has_bit p.wild i) × (has_bit (bit_or p.value q.value) i ≡ has_bit p.value i)
  meet_narrower e i fixed = (
    bit-and p.wild q.wild i ∙ ap (λ b. b && has_bit q.wild i) fixed ∙ sym fixed,
    bit-or p.value q.value i ∙ (elim (cases_lt i 32) [
      | inl l ↦ by (has_bit p.value i) (has_bit q.value i) (has_bit q.wild i) (wild_clear q i) (λ u. no_clash e i l fixed u)
      | inr l ↦ (λ j. bit-above p.value i p.value_width l j || bit-above q.value i q.value_width l j) ∙ sym (bit-above p.value i p.value_width l)
    ]),
  )
    where
      by : (v t u : Bool) → (u ≡ true → t ≡ false) → (u ≡ false → v ≡ t) → (v || t) ≡ v
      by true t u clear same = refl
      by false false u clear same = refl
      by false true true clear same = clear refl
      by false true false clear same = sym (same refl)

-- ---- one bit fixed

module _ (p : Ternary) (k : ℕ) (within : k < 32) where
  -- the bit alone
  abbrev mask : ℕ
  mask = 1 * 2 ^ k % 4294967296

  -- it has 32 bits
  mask_width : mask < 2 ^ 32
  mask_width = omega arith

  -- the wild bits without the one that is fixed
  abbrev pub kept_wild : ℕ
  kept_wild = bit_and p.wild (4294967295 - mask)

  -- the value with the bit that r has there
  abbrev pub fixed_value : ℕ → ℕ
  fixed_value r = bit_or p.value (bit_and r mask)

  -- the bit is no longer wild
  pub kept_wild-same : has_bit kept_wild k ≡ false
  kept_wild-same =
      bit-and p.wild (4294967295 - mask) k
      ∙ (λ j. has_bit p.wild k && (bit-not mask k mask_width within ∙ ap not (bit-mask_same k within)) j)
      ∙ and_right (has_bit p.wild k) false refl

  -- and the others stay as they are
  pub kept_wild-other : (i : ℕ) → i ≢ k → has_bit kept_wild i ≡ has_bit p.wild i
  kept_wild-other i ne = elim (cases_lt i 32) [
    | inl l ↦
        bit-and p.wild (4294967295 - mask) i
        ∙ (λ j. has_bit p.wild i && (bit-not mask i mask_width l ∙ ap not (bit-mask_other k i within ne)) j)
        ∙ and_true (has_bit p.wild i)
    | inr l ↦
        bit-and p.wild (4294967295 - mask) i
        ∙ ap (λ b. b && has_bit (4294967295 - mask) i) (bit-above p.wild i p.wild_width l)
        ∙ sym (bit-above p.wild i p.wild_width l)
  ]

  -- the bit is that of the new value
  pub fixed_value-same : (r : ℕ) → has_bit p.wild k ≡ true → has_bit (fixed_value r) k ≡ has_bit r k
  fixed_value-same r wild =
      bit-or p.value (bit_and r mask) k
      ∙ (λ j. wild_clear p k wild j || (bit-and r mask k ∙ ap (λ b. has_bit r k && b) (bit-mask_same k within)) j)
      ∙ and_true (has_bit r k)

  -- and the others stay as they are
  pub fixed_value-other : (r i : ℕ) → i ≢ k → has_bit (fixed_value r) i ≡ has_bit p.value i
  fixed_value-other r i ne =
      bit-or p.value (bit_and r mask) i
      ∙ (λ j. has_bit p.value i || (bit-and r mask i ∙ ap (λ b. has_bit r i && b) (bit-mask_other k i within ne) ∙ and_right (has_bit r i) false refl) j)
      ∙ or_false (has_bit p.value i)

  -- the new value has 32 bits
  pub fixed_width : (r : ℕ) → fixed_value r < 2 ^ 32
  fixed_width r = or_of_32 p.value (bit_and r mask) p.value_width (omega (arith, mask_width, and_le_r r mask))

  -- so have the wild bits that are left
  kept_width : kept_wild < 2 ^ 32
  kept_width = omega (arith, p.wild_width, and_le_l p.wild (4294967295 - mask))

  -- the new value is cleared on them
  pub fixed_cleared : (r : ℕ) → bit_and (fixed_value r) kept_wild ≡ 0
  fixed_cleared r =
      same_from_has_bit _ _ (omega (arith, fixed_width r, and_le_l (fixed_value r) kept_wild)) (omega arith) (λ i l.
      bit-and (fixed_value r) kept_wild i ∙ at i ∙ sym (bit-zero i))
    where
      at : (i : ℕ) → (has_bit (fixed_value r) i && has_bit kept_wild i) ≡ false
      at i = elim (cases_eq i k) [
        | inl e ↦ and_right (has_bit (fixed_value r) i) (has_bit kept_wild i) (ap (λ j. has_bit kept_wild j) e ∙ kept_wild-same)
        | inr ne ↦ (λ j. fixed_value-other r i ne j && kept_wild-other i ne j) ∙ sym (bit-and p.value p.wild i) ∙ ap (λ n. has_bit n i) p.cleared ∙ bit-zero i
      ]

  module _ (r x : ℕ) (wild : has_bit p.wild k ≡ true) where
    -- a number with the fixed bit stays
    fixed_stays : same_flag (has_bit x k) (has_bit r k) ≡ true → pattern_has (fixed_value r) kept_wild x ≡ ternary_has p x
    fixed_stays h = pattern_same (fixed_value r) kept_wild p.value p.wild x (λ i l. at i)
      where
        at : (i : ℕ) → agrees_at (fixed_value r) kept_wild x i ≡ agrees_at p.value p.wild x i
        at i = elim (cases_eq i k) [
          | inl e ↦
              ap (λ j. agrees_at (fixed_value r) kept_wild x j) e
              ∙ (λ j. kept_wild-same j || same_flag (has_bit x k) (fixed_value-same r wild j))
              ∙ h
              ∙ sym (ap (λ b. b || same_flag (has_bit x k) (has_bit p.value k)) wild)
              ∙ sym (ap (λ j. agrees_at p.value p.wild x j) e)
          | inr ne ↦ (λ j. kept_wild-other i ne j || same_flag (has_bit x i) (fixed_value-other r i ne j))
        ]

    -- a number with the other bit goes
    fixed_goes : same_flag (has_bit x k) (has_bit r k) ≡ false → pattern_has (fixed_value r) kept_wild x ≡ false
    fixed_goes h = pattern_not (fixed_value r) kept_wild x k within
        ((λ j. kept_wild-same j || same_flag (has_bit x k) (fixed_value-same r wild j)) ∙ h)

  -- each number of the pattern has the bit of r or that of s, where these differ
  pub fixed_splits : (r s x : ℕ) → has_bit p.wild k ≡ true → has_bit s k ≡ not (has_bit r k) → flag_number (ternary_has p x) ≡ flag_number (pattern_has (fixed_value r) kept_wild x) + flag_number (pattern_has (fixed_value s) kept_wild x)
  fixed_splits r s x wild differ = by (has_bit x k) (has_bit r k) refl refl
    where
      here : same_flag (has_bit x k) (has_bit r k) ≡ true → same_flag (has_bit x k) (has_bit s k) ≡ false → flag_number (ternary_has p x) ≡ flag_number (pattern_has (fixed_value r) kept_wild x) + flag_number (pattern_has (fixed_value s) kept_wild x)
      here a b = rw (fixed_stays r x wild a, fixed_goes s x wild b) (omega arith)

      there : same_flag (has_bit x k) (has_bit r k) ≡ false → same_flag (has_bit x k) (has_bit s k) ≡ true → flag_number (ternary_has p x) ≡ flag_number (pattern_has (fixed_value r) kept_wild x) + flag_number (pattern_has (fixed_value s) kept_wild x)
      there a b = rw (fixed_goes r x wild a, fixed_stays s x wild b) (omega arith)

      by : (b c : Bool) → has_bit x k ≡ b → has_bit r k ≡ c → flag_number (ternary_has p x) ≡ flag_number (pattern_has (fixed_value r) kept_wild x) + flag_number (pattern_has (fixed_value s) kept_wild x)
      by false false eb ec = here (λ j. same_flag (eb j) (ec j)) (λ j. same_flag (eb j) ((differ ∙ ap not ec) j))
      by false true eb ec = there (λ j. same_flag (eb j) (ec j)) (λ j. same_flag (eb j) ((differ ∙ ap not ec) j))
      by true false eb ec = there (λ j. same_flag (eb j) (ec j)) (λ j. same_flag (eb j) ((differ ∙ ap not ec) j))
      by true true eb ec = here (λ j. same_flag (eb j) (ec j)) (λ j. same_flag (eb j) ((differ ∙ ap not ec) j))

-- the bit k is wild in the first and not in the second: what the code tests
module _ (p q : Ternary) (k : ℕ) (within : k < 32) where
  -- the bit, where it is wild here and not there
  abbrev pub opening : ℕ
  opening = bit_and (bit_and p.wild (4294967295 - q.wild)) (1 * 2 ^ k % 4294967296)

  -- each bit of it
  opening_bit : (i : ℕ) → i < 32 → has_bit opening i ≡ ((has_bit p.wild i && not (has_bit q.wild i)) && has_bit (1 * 2 ^ k % 4294967296) i)
  opening_bit i l =
      bit-and (bit_and p.wild (4294967295 - q.wild)) (1 * 2 ^ k % 4294967296) i
      ∙ ap (λ b. b && has_bit (1 * 2 ^ k % 4294967296) i) (bit-and p.wild (4294967295 - q.wild) i ∙ ap (λ b. has_bit p.wild i && b) (bit-not q.wild i q.wild_width l))

  -- where it is 0, nothing is fixed
  pub opening-none : opening ≡ 0 → has_bit p.wild k ≡ true → has_bit q.wild k ≡ true
  opening-none e wild = by (has_bit q.wild k)
      (sym ((λ j. ((sym wild) j && not (has_bit q.wild k)) && (sym (bit-mask_same k within)) j)
      ∙ sym (opening_bit k within) ∙ ap (λ n. has_bit n k) e ∙ bit-zero k))
    where
      by : (b : Bool) → false ≡ ((true && not b) && true) → b ≡ true
      by true h = refl
      by false h = h

  -- where it is not, the bit is wild here and fixed there
  pub opening-some : opening ≢ 0 → (has_bit p.wild k ≡ true) × (has_bit q.wild k ≡ false)
  opening-some ne =
      let at = some_bit opening width (omega arith) in
      elim (cases_eq at.0 k) [
        | inl e ↦ by (has_bit p.wild k) (has_bit q.wild k) (and_parts _ _ (sym (opening_bit k within) ∙ ap (λ i. has_bit opening i) (sym e) ∙ at.2)).0
        | inr other ↦ absurd (true≢false (sym (and_parts _ _ (sym (opening_bit at.0 at.1) ∙ at.2)).1 ∙ bit-mask_other k at.0 within other))
      ]
    where
      width : opening < 2 ^ 32
      width = omega (arith, p.wild_width, and_le_l p.wild (4294967295 - q.wild), and_le_l (bit_and p.wild (4294967295 - q.wild)) (1 * 2 ^ k % 4294967296))

      by : (w u : Bool) → (w && not u) ≡ true → (w ≡ true) × (u ≡ false)
      by true false h = (refl, refl)
      by true true h = (refl, sym h)
      by false u h = (h, absurd (true≢false (sym h)))

-- ---- the least number

-- a pattern has its value
pub has_least_value : (p : Ternary) → ternary_has p p.value ≡ true
has_least_value p = pattern_from p.value p.wild p.value p.value_width (λ i l. or_right (has_bit p.wild i) (same_flag (has_bit p.value i) (has_bit p.value i)) (same_flag-refl (has_bit p.value i)))

-- and no number below it
pub least_value : (p : Ternary) (x : ℕ) → ternary_has p x ≡ true → p.value ≤ x
least_value p x has =
    let masked : bit_and x (4294967295 - p.wild) ≡ p.value = eqb-true _ _ (mask_tests p x (pattern_width p.value p.wild x has) ∙ has) in
    omega (arith, and_le_l x (4294967295 - p.wild))

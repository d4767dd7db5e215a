-- The tests of patterns, bit by bit from the lowest.
use Rattle.std.proofs.Common.{◌≡◌, ℕ, zero, suc, ◌+◌, ◌-◌, ◌*◌, ◌%◌, ◌<◌, ◌^◌, Bool, true, false, List, length, refl, sym, ◌∙◌, ap, arith, if◌then◌else◌}
use Rattle.std.specs.Prelude.{◌&&◌, ◌||◌, ◌==◌}
use Rattle.std.specs.Int.{bit_at}
use Rattle.std.proofs.lemmas.Bool.{lt-ltb}
use Rattle.std.proofs.lemmas.Nat.Bits.{bit_at_above, bit_at_cat_low, bit_at_cat_high}
use Rattle.np_space.specs.Bit.{has_bit}
use Rattle.np_space.specs.Flag.{same_flag}
use Rattle.np_space.specs.Ternary.{agrees_at, agrees_below, pattern_has, ternary_has}
use Rattle.np_space.specs.declared.patterns.Ternary.{Ternary}
use Rattle.np_bdd.specs.declared.views.View.{View}
use Rattle.np_bdd.specs.Views.{leads_to_yes}
use Rattle.np_bdd.specs.Nodes.{KeepsNodes, StartsAt, Chooses}
use Rattle.np_bdd.specs.Fields.{TestsField, AlwaysAnswers, IsField, pattern_below}
use Rattle.np_bdd.proofs.KeepingLemmas.{keeps_nodes_itself, keeps_nodes_chained}
use Rattle.np_bdd.proofs.FieldLemmas.{bit_of_rest, rest_bits, split_field, field_kept}

-- ---- the bits of a number below a power, and of such a number more

-- a number has no bit from its power on
pub bit_above : (n k : ℕ) → n < 2 ^ k → has_bit n k ≡ false
unfolding has_bit
bit_above n k l = ap (λ m. m == 1) (bit_at_above n k k l (omega arith))

-- with the power added it has that bit
pub bit_more : (n k : ℕ) → n < 2 ^ k → has_bit (2 ^ k + n) k ≡ true
unfolding has_bit
bit_more n k l = ap (λ m. bit_at m k == 1) parts ∙ ap (λ m. m == 1) (bit_at_cat_high 1 k n k l (omega arith)) ∙ ap (λ j. bit_at 1 j == 1) none
  where
    parts : 2 ^ k + n ≡ 1 * 2 ^ k + n
    parts = omega arith

    none : k - k ≡ 0
    none = omega arith

-- and the lower bits as before
pub bit_less : (n k i : ℕ) → i < k → has_bit (2 ^ k + n) i ≡ has_bit n i
unfolding has_bit
bit_less n k i l = ap (λ m. bit_at m i == 1) parts ∙ ap (λ m. m == 1) (bit_at_cat_low 1 k n i l)
  where
    parts : 2 ^ k + n ≡ 1 * 2 ^ k + n
    parts = omega arith

-- ---- the test of the lowest bits

-- numbers with the same lowest bits pass it alike
pub agree_alike : (v w m n k : ℕ) → ((i : ℕ) → i < k → has_bit m i ≡ has_bit n i) → agrees_below v w m k ≡ agrees_below v w n k
unfolding agrees_below
agree_alike v w m n zero h = refl
agree_alike v w m n (suc k) h = λ j. (has_bit w k || same_flag (h k (omega arith) j) (has_bit v k)) && agree_alike v w m n k (λ i l. h i (omega arith)) j

module _ (p : Ternary) (k : ℕ) where
  -- one bit more
  pub one_more : (n : ℕ) → pattern_below p (k + 1) n ≡ (agrees_at p.value p.wild n k && pattern_below p k n)
  unfolding agrees_below
  one_more n = ap (λ j. agrees_below p.value p.wild n j) next
    where
      next : k + 1 ≡ suc k
      next = omega arith

  -- a wild bit
  pub wild_same : has_bit p.wild k ≡ true → (n : ℕ) → pattern_below p (k + 1) n ≡ pattern_below p k (n % 2 ^ k)
  wild_same wild n =
      one_more n
      ∙ ap (λ b. (b || same_flag (has_bit n k) (has_bit p.value k)) && pattern_below p k n) wild
      ∙ sym (agree_alike p.value p.wild (n % 2 ^ k) n k (λ i l. bit_of_rest n k i l))

  -- a fixed bit, where the number's is clear
  fixed_clear : (b : Bool) → has_bit p.wild k ≡ false → has_bit p.value k ≡ b → (n : ℕ) → n < 2 ^ k → pattern_below p (k + 1) n ≡ (same_flag false b && pattern_below p k n)
  fixed_clear b fixed value n l = one_more n ∙ (λ j. (fixed j || same_flag (bit_above n k l j) (value j)) && pattern_below p k n)

  -- and where it is set
  fixed_set : (b : Bool) → has_bit p.wild k ≡ false → has_bit p.value k ≡ b → (n : ℕ) → n < 2 ^ k → pattern_below p (k + 1) (2 ^ k + n) ≡ (same_flag true b && pattern_below p k n)
  fixed_set b fixed value n l =
      one_more (2 ^ k + n)
      ∙ (λ j. (fixed j || same_flag (bit_more n k l j) (value j)) && agree_alike p.value p.wild (2 ^ k + n) n k (λ i h. bit_less n k i h) j)

-- the whole test
pub pattern_whole : (p : Ternary) (n : ℕ) → n < 2 ^ 32 → pattern_below p 32 n ≡ ternary_has p n
unfolding pattern_has
pattern_whole p n l = sym (ap (λ b. b && pattern_below p 32 n) (lt-ltb n (2 ^ 32) l))

-- ---- the nodes

-- no bit is tested
pub pattern_start : (p : Ternary) (first : ℕ) (views : List View) (tail : ℕ) → StartsAt views first tail → IsField (pattern_below p 0) first 0 views tail tail
unfolding agrees_below
pattern_start p first views tail starts = record { starts = starts; tests = λ bits n are. refl }

-- no bit is before them
pub none_before : (first : ℕ) → first + (32 - 32) ≡ first
none_before first = omega arith

-- all are
pattern_end : (p : Ternary) (first : ℕ) (views : List View) (tail x : ℕ) → TestsField (pattern_below p 32) first 32 views tail x → TestsField (ternary_has p) first 32 views tail x
pattern_end p first views tail x tests bits n are =
    tests bits n are ∙ ap (λ b. b && leads_to_yes views bits tail) (pattern_whole p n are.small)

-- a wild bit is passed over
pub pattern_wild : (p : Ternary) (bit k : ℕ) (views : List View) (tail x : ℕ) → has_bit p.wild k ≡ true
    → IsField (pattern_below p k) (1 + bit) k views tail x → IsField (pattern_below p (k + 1)) bit (k + 1) views tail x
pattern_wild p bit k views tail x wild field = record {
  starts = record { there = field.starts.there; from = omega (arith, field.starts.from) };
  tests = λ bits n are.
      field.tests bits (n % 2 ^ k) (rest_bits bits bit k n (rw next at are))
      ∙ ap (λ b. b && leads_to_yes views bits tail) (sym (wild_same p k wild n));
}
  where
    next : k + 1 ≡ 1 + k
    next = omega arith

-- a place that always denies tests nothing at all
denies : (first width : ℕ) (views : List View) (tail x : ℕ) → AlwaysAnswers false views x → TestsField (λ n. false) first width views tail x
denies first width views tail x none bits n are = none.leads bits

-- of a fixed bit one branch goes on
pub pattern_fixed : (b : Bool) (p : Ternary) (bit k : ℕ) (old new : List View) (tail x denied z : ℕ) → has_bit p.wild k ≡ false → has_bit p.value k ≡ b
    → tail < length old → IsField (pattern_below p k) (1 + bit) k old tail x → AlwaysAnswers false old denied → KeepsNodes old new
    → StartsAt new bit z → Chooses new bit (if b then denied else x) (if b then x else denied) z → IsField (pattern_below p (k + 1)) bit (k + 1) new tail z
pattern_fixed true p bit k old new tail x denied z fixed value there field none kept starts chooses = record {
  starts = starts;
  tests =
      split_field (pattern_below p (k + 1)) (λ n. false) (pattern_below p k) bit (k + 1) k (omega arith) (fixed_clear p k true fixed value) (fixed_set p k true fixed value)
      new tail denied x z
      (field_kept (λ n. false) (1 + bit) k old new tail denied kept there none.starts.there (denies (1 + bit) k old tail denied none))
      (field_kept (pattern_below p k) (1 + bit) k old new tail x kept there field.starts.there field.tests)
      chooses;
}
pattern_fixed false p bit k old new tail x denied z fixed value there field none kept starts chooses = record {
  starts = starts;
  tests =
      split_field (pattern_below p (k + 1)) (pattern_below p k) (λ n. false) bit (k + 1) k (omega arith) (fixed_clear p k false fixed value) (fixed_set p k false fixed value)
      new tail x denied z
      (field_kept (pattern_below p k) (1 + bit) k old new tail x kept there field.starts.there field.tests)
      (field_kept (λ n. false) (1 + bit) k old new tail denied kept there none.starts.there (denies (1 + bit) k old tail denied none))
      chooses;
}

-- ---- the loop

-- the node so far tests the lowest bits, as many as the loop has passed
pub record IsSoFar (p : Ternary) (first k : ℕ) (old views : List View) (tail x : ℕ) : Type 0 where
  pub kept : KeepsNodes old views
  pub field : IsField (pattern_below p k) (first + (32 - k)) k views tail x

-- before the first
pub so_far_start : (p : Ternary) (first : ℕ) (old : List View) (tail : ℕ) → StartsAt old (first + 32) tail → IsSoFar p first 0 old old tail tail
so_far_start p first old tail starts = record { kept = keeps_nodes_itself old; field = pattern_start p (first + 32) old tail starts }

-- after one more
pub so_far_more : (p : Ternary) (first k : ℕ) (old views new : List View) (tail x z : ℕ) → IsSoFar p first k old views tail x → KeepsNodes views new
    → IsField (pattern_below p (k + 1)) (first + (32 - (k + 1))) (k + 1) new tail z → IsSoFar p first (k + 1) old new tail z
so_far_more p first k old views new tail x z so_far kept field = record { kept = keeps_nodes_chained old views new so_far.kept kept; field = field }

-- ---- the whole address

-- with all bits tested a node starts at the first
pub pattern_starts : (p : Ternary) (first : ℕ) (views : List View) (tail x : ℕ) → IsField (pattern_below p 32) (first + (32 - 32)) 32 views tail x → StartsAt views first x
pattern_starts p first views tail x field = (rw (none_before first) at field).starts

-- and tests the pattern
pub pattern_tests : (p : Ternary) (first : ℕ) (views : List View) (tail x : ℕ) → IsField (pattern_below p 32) (first + (32 - 32)) 32 views tail x
    → TestsField (ternary_has p) first 32 views tail x
pattern_tests p first views tail x field = pattern_end p first views tail x (rw (none_before first) at field).tests

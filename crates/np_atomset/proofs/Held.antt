-- The words that hold a set.
use Rattle.std.proofs.Common.{◌≡◌, ◌≢◌, ℕ, ◌-◌, ◌*◌, ◌/◌, ◌%◌, ◌^◌, ◌<◌, ◌≤◌, ◌&&◌, ◌||◌, Bool, true, false, eqb, List, length, replicate, get_or, set, refl, sym, ◌∙◌, ap, subst, inl, inr, arith, ext_get_or, length-set, get_or-set_same, get_or-set_other}
use Rattle.std.proofs.lemmas.List.{length-replicate, get_or-replicate, get_or_past}
use Rattle.std.proofs.lemmas.List.FromFn.{length-map-range_with_len, get_or-map-range_with_len}
use Rattle.std.proofs.lemmas.Bool.{cases_eq, cases_lt}
use Rattle.std.proofs.lemmas.Nat.Bits.{bit_at_ones, bit_at_ones_above}
use Rattle.std.proofs.lemmas.Nat.{one_shl}
use Rattle.std.specs.Int.{bit_at, div_ceil}
use Rattle.np_atomset.specs.AtomSet.{AreWords, has_member, combine, joined, met, word_bit, AreWordsOf, members, FitsLength}
use Rattle.std.proofs.lemmas.Bool.{false_from_ne_true}
use Rattle.std.proofs.lemmas.Bool.Decides.{same_from_decides}
use Rattle.std.specs.Bool.{Decides, beq}
use Rattle.std.specs.Prelude.{IsTrue, ◌↔◌}
use Rattle.std.specs.Cmp.Lexicographic.{pointwise}
use Rattle.np_atomset.proofs.Sets.{equal_sets, same_members, has_member-past, length-combine, has_member-combine, has_member-joined, has_member-met}
use Rattle.np_atomset.proofs.Bits.{zero_bit, words_from_bits}

-- ---- the words of a set

pub length-members : (n : ℕ) (words : List ℕ) → length (members n words) ≡ n
unfolding members
length-members n words = length-map-range_with_len (word_bit words) 0 n

pub has_member-members : (n : ℕ) (words : List ℕ) (k : ℕ) → k < n → has_member (members n words) k ≡ word_bit words k
unfolding members
has_member-members n words k h = get_or-map-range_with_len (word_bit words) 0 n k k false h (omega arith)

-- what the invariant of a set says of its words
pub AreWordsOf-members : (n : ℕ) (words : List ℕ) → FitsLength n words → AreWordsOf (members n words) words
AreWordsOf-members n words fits = record {
  count = rw length-members fits.count;
  bits = λ k. elim (cases_lt k n) [
    | inl within ↦ sym (has_member-members n words k within)
    | inr past ↦
        let beyond : length (members n words) ≤ k = rw length-members past in
        fits.clear k past ∙ sym (has_member-past (members n words) k beyond)
  ];
}

pub FitsLength-from_words : (s : List Bool) (words : List ℕ) (n : ℕ) → n < 2 ^ 64 → AreWordsOf s words → length s ≡ n
    → FitsLength n words
FitsLength-from_words s words n small are len = record {
  small = small;
  count = are.count ∙ ap (λ m. div_ceil m 64) len;
  clear = λ k past.
      let beyond : length s ≤ k = omega arith in
      are.bits k ∙ has_member-past s k beyond;
}

pub members-from_words : (s : List Bool) (words : List ℕ) (n : ℕ) → AreWordsOf s words → length s ≡ n → members n words ≡ s
members-from_words s words n are len =
    ext_get_or false _ _ (length-members n words ∙ sym len)
    (λ k h.
    let within : k < n = rw length-members at h in
    has_member-members n words k within ∙ are.bits k)

-- ---- a set's value and its words

-- the words of a set whose value is s
pub AreWordsOf-value : (s : List Bool) (n : ℕ) (words : List ℕ) → members n words ≡ s → FitsLength n words → AreWordsOf s words
AreWordsOf-value s n words is fits =
    let P : List Bool → Type 0 = λ t. AreWordsOf t words in subst P is (AreWordsOf-members n words fits)

-- the same of a slice that is those words
pub AreWordsOf-slice : (s : List Bool) (n : ℕ) (words slice : List ℕ) → members n words ≡ s → FitsLength n words → slice ≡ words
    → AreWordsOf s slice
AreWordsOf-slice s n words slice is fits same = rw same (AreWordsOf-value s n words is fits)

pub length-value : (s : List Bool) (n : ℕ) (words : List ℕ) → members n words ≡ s → length s ≡ n
length-value s n words is = ap length (sym is) ∙ length-members n words

-- the word that has a place's bit is there
pub word_within : (s : List Bool) (words : List ℕ) (n : ℕ) → AreWordsOf s words → n < length s → n / 64 < length words
word_within s words n are within = omega (arith, are.count)

-- ---- a set made from others, by the bits of its words

-- one member set or cleared
pub AreWordsOf-set : (s : List Bool) (words new : List ℕ) (n : ℕ) (b : Bool) → AreWordsOf s words → n < length s
    → length new ≡ length words → word_bit new n ≡ b → ((k : ℕ) → k ≢ n → word_bit new k ≡ word_bit words k)
    → AreWordsOf (set s n b) new
AreWordsOf-set s words new n b are within same at_n others = record {
  count = same ∙ are.count ∙ ap (λ m. div_ceil m 64) (sym (length-set s n b));
  bits = λ k. elim (cases_eq k n) [
    | inl here ↦ rw here (at_n ∙ sym (get_or-set_same s n b false within))
    | inr other ↦ others k other ∙ are.bits k ∙ sym (get_or-set_other s n k b false other)
  ];
}

-- two sets made into one
pub AreWordsOf-combine : (f : Bool → Bool → Bool) → f false false ≡ false → (s t : List Bool) (words others new : List ℕ)
    → AreWordsOf s words → AreWordsOf t others → length s ≡ length t → length new ≡ length words
    → ((k : ℕ) → word_bit new k ≡ f (word_bit words k) (word_bit others k))
    → AreWordsOf (combine f s t) new
AreWordsOf-combine f none s t words others new are_s are_t len same made = record {
  count = same ∙ are_s.count ∙ ap (λ m. div_ceil m 64) (sym (length-combine f s t len));
  bits = λ k.
      made k ∙ ap (λ b. f b (word_bit others k)) (are_s.bits k) ∙ ap (f (has_member s k)) (are_t.bits k)
      ∙ sym (has_member-combine f none s t len k);
}

-- a set with what two others have in common
pub AreWordsOf-join_met : (s t u : List Bool) (words xs ys new : List ℕ)
    → AreWordsOf s words → AreWordsOf t xs → AreWordsOf u ys → length s ≡ length t → length s ≡ length u → length new ≡ length words
    → ((k : ℕ) → word_bit new k ≡ (word_bit words k || (word_bit xs k && word_bit ys k)))
    → AreWordsOf (joined s (met t u)) new
AreWordsOf-join_met s t u words xs ys new are_s are_t are_u len_t len_u same made =
    let common : length (met t u) ≡ length t = length-combine (λ x y. x && y) t u (omega arith) in
    let fits : length s ≡ length (met t u) = omega arith in
    record {
      count = same ∙ are_s.count ∙ ap (λ m. div_ceil m 64) (sym (length-combine (λ x y. x || y) s (met t u) fits));
      bits = λ k.
          made k
          ∙ ap (λ b. b || (word_bit xs k && word_bit ys k)) (are_s.bits k)
          ∙ ap (λ b. has_member s k || (b && word_bit ys k)) (are_t.bits k)
          ∙ ap (λ b. has_member s k || (has_member t k && b)) (are_u.bits k)
          ∙ ap (λ b. has_member s k || b) (sym (has_member-met t u (omega arith) k))
          ∙ sym (has_member-joined s (met t u) fits k);
    }

-- ---- every member

full_bit : (n : ℕ) (words : List ℕ) → length words ≡ div_ceil n 64
    → ((i : ℕ) → i < n / 64 → get_or words i 0 ≡ 2 ^ 64 - 1)
    → (n % 64 ≢ 0 → get_or words (n / 64) 0 ≡ 2 ^ (n % 64) - 1)
    → (k : ℕ) → word_bit words k ≡ has_member (replicate n true) k
full_bit n words count whole last k =
    let low : k % 64 < 64 = omega arith in
    elim (cases_lt k n) [
      | inl within ↦
          let is_in : has_member (replicate n true) k ≡ true = get_or-replicate n k true false within in
          elim (cases_lt (k / 64) (n / 64)) [
            | inl before ↦
                ap (λ x. eqb (bit_at x (k % 64)) 1) (whole (k / 64) before)
                ∙ ap (λ x. eqb x 1) (bit_at_ones 64 (k % 64) low) ∙ sym is_in
            | inr not_before ↦
                let here : k / 64 ≡ n / 64 = omega arith in
                let below : k % 64 < n % 64 = omega arith in
                ap (λ i. eqb (bit_at (get_or words i 0) (k % 64)) 1) here
                ∙ ap (λ x. eqb (bit_at x (k % 64)) 1) (last (λ e. omega arith))
                ∙ ap (λ x. eqb x 1) (bit_at_ones (n % 64) (k % 64) below) ∙ sym is_in
          ]
      | inr past ↦
          let is_out : has_member (replicate n true) k ≡ false =
          get_or_past (replicate n true) k false (omega (arith, length-replicate {A = Bool} n true)) in
          elim (cases_lt (k / 64) (length words)) [
            | inl within ↦
                let here : k / 64 ≡ n / 64 = omega arith in
                let above : n % 64 ≤ k % 64 = omega arith in
                ap (λ i. eqb (bit_at (get_or words i 0) (k % 64)) 1) here
                ∙ ap (λ x. eqb (bit_at x (k % 64)) 1) (last (λ e. omega arith))
                ∙ ap (λ x. eqb x 1) (bit_at_ones_above (n % 64) (k % 64) above) ∙ sym is_out
            | inr beyond ↦ zero_bit words k (get_or_past words (k / 64) 0 beyond) ∙ sym is_out
          ]
    ]

-- each whole word is all ones, and a last word that is not whole has its low bits alone
pub AreWordsOf-full : (n : ℕ) (words : List ℕ) → length words ≡ div_ceil n 64
    → ((i : ℕ) → i < n / 64 → get_or words i 0 ≡ 2 ^ 64 - 1)
    → (n % 64 ≢ 0 → get_or words (n / 64) 0 ≡ 2 ^ (n % 64) - 1)
    → AreWordsOf (replicate n true) words
AreWordsOf-full n words count whole last = record {
  count = count ∙ ap (λ m. div_ceil m 64) (sym (length-replicate n true));
  bits = λ k. full_bit n words count whole last k;
}

-- ---- full words

-- `vec![u64::MAX; n.div_ceil(64)]`, and the same with the low bits alone in a last word that is not whole
pub AreWordsOf-whole : (n : ℕ) (words : List ℕ) → words ≡ replicate (div_ceil n 64) (2 ^ 64 - 1) → n % 64 ≡ 0
    → AreWordsOf (replicate n true) words
AreWordsOf-whole n words is none =
    let long : length words ≡ div_ceil n 64 = ap length is ∙ length-replicate (div_ceil n 64) (2 ^ 64 - 1) in
    AreWordsOf-full n words long
    (λ i h. rw is (get_or-replicate (div_ceil n 64) i (2 ^ 64 - 1) 0 (omega arith)))
    (λ some. absurd (some none))

pub AreWordsOf-cut : (n : ℕ) (words : List ℕ) → words ≡ replicate (div_ceil n 64) (2 ^ 64 - 1) → n % 64 ≢ 0
    → AreWordsOf (replicate n true) (set words (n / 64) (1 * 2 ^ (n % 64) % 2 ^ 64 - 1))
AreWordsOf-cut n words is some =
    let long : length words ≡ div_ceil n 64 = ap length is ∙ length-replicate (div_ceil n 64) (2 ^ 64 - 1) in
    let last : ℕ = 1 * 2 ^ (n % 64) % 2 ^ 64 - 1 in
    let low : n % 64 < 64 = omega arith in
    let within : n / 64 < length words = omega arith in
    AreWordsOf-full n (set words (n / 64) last) (length-set words (n / 64) last ∙ long)
    (λ i h.
    let other : i ≢ n / 64 = omega arith in
    get_or-set_other words (n / 64) i last 0 other ∙ rw is (get_or-replicate (div_ceil n 64) i (2 ^ 64 - 1) 0 (omega arith)))
    (λ _. get_or-set_same words (n / 64) last 0 within ∙ ap (λ x. x - 1) (one_shl (n % 64) 64 low))

-- ---- a set and its words determine one another

pub AreWordsOf-unique : (s : List Bool) (words others : List ℕ) → AreWordsOf s words → AreWordsOf s others
    → AreWords words → AreWords others → words ≡ others
AreWordsOf-unique s words others are these fit_words fit_others =
    words_from_bits words others fit_words fit_others (are.count ∙ sym these.count) (λ k. are.bits k ∙ sym (these.bits k))

-- words hold one set of a length
pub same_set : (s t : List Bool) (words : List ℕ) → AreWordsOf s words → AreWordsOf t words → length s ≡ length t → s ≡ t
same_set s t words are_s are_t len = same_members s t len (λ k. sym (are_s.bits k) ∙ are_t.bits k)

-- sets of one length are equal where their words are
pub equal_words : (s t : List Bool) (words others : List ℕ) (r : Bool) → AreWordsOf s words → AreWordsOf t others
    → AreWords words → AreWords others
    → length s ≡ length t → (IsTrue r ↔ (words ≡ others)) → r ≡ pointwise beq s t
equal_words s t words others r are_s are_t fit_words fit_others len is =
    let P : List ℕ → Type 0 = λ ws. AreWordsOf t ws in
    let Q : List Bool → Type 0 = λ u. AreWordsOf u others in
    let decides : Decides r (s ≡ t) = (
      λ h. same_set s t words are_s (subst P (sym (is.0 h)) are_t) len,
      λ e. is.1 (AreWordsOf-unique s words others are_s (subst Q (sym e) are_t) fit_words fit_others),
    ) in
    same_from_decides r (pointwise beq s t) decides (equal_sets s t (pointwise beq s t) refl)

-- sets of two lengths are not equal
pub unequal_lengths : (s t : List Bool) → (length s ≡ length t → ⊥) → false ≡ pointwise beq s t
unequal_lengths s t differ =
    let decides = equal_sets s t (pointwise beq s t) refl in
    sym (false_from_ne_true (pointwise beq s t) (λ e. differ (ap length (decides.0 e))))

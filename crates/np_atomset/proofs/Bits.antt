-- The bits of a list of words.
use Rattle.std.proofs.Common.{◌≡◌, ◌≢◌, ℕ, ◌+◌, ◌-◌, ◌*◌, ◌/◌, ◌%◌, ◌^◌, ◌<◌, ◌⊎◌, ◌&&◌, ◌||◌, Bool, true, false, not, eqb, List, length, get_or, set, min, max, refl, sym, ◌∙◌, ap, inl, inr, arith, rules, ext_get_or, get_or-set_same, get_or-set_other, eq-eqb, w64}
use Rattle.std.proofs.lemmas.List.{get_or_past, set_past, set-get_or}
use Rattle.std.proofs.lemmas.Bool.{cases_eq, cases_lt, cases_Bool, eqb-true, eqb-false}
use Rattle.std.proofs.lemmas.Nat.Bits.{bit_at_set_same, bit_at_set_other, bit_at_clear_same, bit_at_clear_other, bit_at-zero, bit_at-lt, bit_at_and, bit_at_or, bit_at_not, same_from_bits_below, bit_at-trailing_zeros}
use Rattle.std.specs.Prelude.{bit_and, bit_or, IsTrue, ◌↔◌}
use Rattle.std.specs.Bool.{MatchBool}
use Rattle.std.specs.Int.{bit_at, bit_not, trailing_zeros}
use Rattle.np_atomset.specs.AtomSet.{word_bit, AreWords}

-- ---- one word written

-- what a write of word n / 64 does to each bit, where it sets bit n to b and keeps the others of its word
word_bit-write : (words : List ℕ) (n v : ℕ) (b : Bool) → n / 64 < length words
    → eqb (bit_at v (n % 64)) 1 ≡ b
    → ((i : ℕ) → i < 64 → i ≢ n % 64 → bit_at v i ≡ bit_at (get_or words (n / 64) 0) i)
    → (word_bit (set words (n / 64) v) n ≡ b)
    × ((k : ℕ) → k ≢ n → word_bit (set words (n / 64) v) k ≡ word_bit words k)
word_bit-write words n v b within at_n others = (
  ap (λ x. eqb (bit_at x (n % 64)) 1) (get_or-set_same words (n / 64) v 0 within) ∙ at_n,
  λ k differs.
      elim (cases_eq (k / 64) (n / 64)) [
        | inl here ↦
            let low : k % 64 < 64 = omega arith in
            let place : k % 64 ≢ n % 64 = λ e. differs (omega arith) in
            ap (λ i. eqb (bit_at (get_or (set words (n / 64) v) i 0) (k % 64)) 1) here
            ∙ ap (λ x. eqb (bit_at x (k % 64)) 1) (get_or-set_same words (n / 64) v 0 within)
            ∙ ap (λ x. eqb x 1) (others (k % 64) low place)
            ∙ ap (λ i. eqb (bit_at (get_or words i 0) (k % 64)) 1) (sym here)
        | inr elsewhere ↦ ap (λ x. eqb (bit_at x (k % 64)) 1) (get_or-set_other words (n / 64) (k / 64) v 0 elsewhere)
      ],
)

-- `words[n / 64] |= 1 << (n % 64)`
pub word_bit-insert : (words : List ℕ) (n : ℕ) → n / 64 < length words
    → (word_bit (set words (n / 64) (bit_or (get_or words (n / 64) 0) (1 * 2 ^ (n % 64) % 2 ^ 64))) n ≡ true)
    × ((k : ℕ) → k ≢ n
    → word_bit (set words (n / 64) (bit_or (get_or words (n / 64) 0) (1 * 2 ^ (n % 64) % 2 ^ 64))) k ≡ word_bit words k)
word_bit-insert words n within =
    let word : ℕ = get_or words (n / 64) 0 in
    let low : n % 64 < 64 = omega arith in
    word_bit-write words n (bit_or word (1 * 2 ^ (n % 64) % 2 ^ 64)) true within
    (eq-eqb _ 1 (bit_at_set_same w64 word (n % 64) low))
    (λ i _ other. bit_at_set_other w64 word (n % 64) low i other)

-- `words[n / 64] &= !(1 << (n % 64))`
pub word_bit-remove : (words : List ℕ) (n : ℕ) → n / 64 < length words
    → (word_bit (set words (n / 64) (bit_and (get_or words (n / 64) 0) (bit_not w64 (1 * 2 ^ (n % 64) % 2 ^ 64)))) n ≡ false)
    × ((k : ℕ) → k ≢ n
    → word_bit (set words (n / 64) (bit_and (get_or words (n / 64) 0) (bit_not w64 (1 * 2 ^ (n % 64) % 2 ^ 64)))) k ≡ word_bit words k)
word_bit-remove words n within =
    let word : ℕ = get_or words (n / 64) 0 in
    let low : n % 64 < 64 = omega arith in
    word_bit-write words n (bit_and word (bit_not w64 (1 * 2 ^ (n % 64) % 2 ^ 64))) false within
    (ap (λ x. eqb x 1) (bit_at_clear_same w64 word (n % 64) low))
    (λ i small other. bit_at_clear_other w64 word (n % 64) low i small other)

-- ---- an operation on words

bit_cases : (x : ℕ) → x < 2 → (x ≡ 0) ⊎ (x ≡ 1)
bit_cases x small = elim (cases_eq x 0) [ inl none ↦ inl none | inr some ↦ inr (omega arith) ]

max_bits : (x y : ℕ) → x < 2 → y < 2 → eqb (max x y) 1 ≡ (eqb x 1 || eqb y 1)
max_bits x y small_x small_y =
    elim (bit_cases x small_x) [
      | inl x0 ↦ elim (bit_cases y small_y) [ inl y0 ↦ rw (x0, y0) refl | inr y1 ↦ rw (x0, y1) refl ]
      | inr x1 ↦ elim (bit_cases y small_y) [ inl y0 ↦ rw (x1, y0) refl | inr y1 ↦ rw (x1, y1) refl ]
    ]

min_bits : (x y : ℕ) → x < 2 → y < 2 → eqb (min x y) 1 ≡ (eqb x 1 && eqb y 1)
min_bits x y small_x small_y =
    elim (bit_cases x small_x) [
      | inl x0 ↦ elim (bit_cases y small_y) [ inl y0 ↦ rw (x0, y0) refl | inr y1 ↦ rw (x0, y1) refl ]
      | inr x1 ↦ elim (bit_cases y small_y) [ inl y0 ↦ rw (x1, y0) refl | inr y1 ↦ rw (x1, y1) refl ]
    ]

not_bit : (x : ℕ) → x < 2 → eqb (1 - x) 1 ≡ not (eqb x 1)
not_bit x small = elim (bit_cases x small) [ inl x0 ↦ rw x0 refl | inr x1 ↦ rw x1 refl ]

-- what `|`, `&` and `& !` do to one bit, as a truth value
pub word_or : (a b i : ℕ) → eqb (bit_at (bit_or a b) i) 1 ≡ (eqb (bit_at a i) 1 || eqb (bit_at b i) 1)
word_or a b i =
    ap (λ x. eqb x 1) (bit_at_or a b i) ∙ max_bits (bit_at a i) (bit_at b i) (bit_at-lt a i) (bit_at-lt b i)

pub word_and : (a b i : ℕ) → eqb (bit_at (bit_and a b) i) 1 ≡ (eqb (bit_at a i) 1 && eqb (bit_at b i) 1)
word_and a b i =
    ap (λ x. eqb x 1) (bit_at_and a b i) ∙ min_bits (bit_at a i) (bit_at b i) (bit_at-lt a i) (bit_at-lt b i)

pub word_and_not : (a b i : ℕ) → b < 2 ^ 64 → i < 64
    → eqb (bit_at (bit_and a (bit_not w64 b)) i) 1 ≡ (eqb (bit_at a i) 1 && not (eqb (bit_at b i) 1))
word_and_not a b i fits low =
    word_and a (bit_not w64 b) i
    ∙ ap (λ x. eqb (bit_at a i) 1 && eqb x 1) (bit_at_not w64 b i fits low)
    ∙ ap (λ x. eqb (bit_at a i) 1 && x) (not_bit (bit_at b i) (bit_at-lt b i))

-- an operation on words does to each bit what f does to truth values
pub record WorksOnBits (f : Bool → Bool → Bool) (op : ℕ → ℕ → ℕ) : Type 0 where
  pub none : f false false ≡ false
  pub each : (a b i : ℕ) → b < 2 ^ 64 → i < 64 → eqb (bit_at (op a b) i) 1 ≡ f (eqb (bit_at a i) 1) (eqb (bit_at b i) 1)

pub joins : WorksOnBits (λ x y. x || y) bit_or
joins = record { none = refl; each = λ a b i _ _. word_or a b i }

pub meets : WorksOnBits (λ x y. x && y) bit_and
meets = record { none = refl; each = λ a b i _ _. word_and a b i }

pub subtracts : WorksOnBits (λ x y. x && not y) (λ a b. bit_and a (bit_not w64 b))
subtracts = record { none = refl; each = λ a b i fits low. word_and_not a b i fits low }

pub zero_bit : (words : List ℕ) (k : ℕ) → get_or words (k / 64) 0 ≡ 0 → word_bit words k ≡ false
zero_bit words k none = ap (λ x. eqb (bit_at x (k % 64)) 1) none ∙ ap (λ x. eqb x 1) (bit_at-zero (k % 64))

-- the bits of words that an operation made of two lists of one length
pub word_bit-made : (f : Bool → Bool → Bool) (op : ℕ → ℕ → ℕ) → WorksOnBits f op → (words others new : List ℕ)
    → length words ≡ length others → AreWords others → length new ≡ length words
    → ((k : ℕ) → k < length words → get_or new k 0 ≡ op (get_or words k 0) (get_or others k 0))
    → (k : ℕ) → word_bit new k ≡ f (word_bit words k) (word_bit others k)
word_bit-made f op works words others new len fit same made k =
    let low : k % 64 < 64 = omega arith in
    elim (cases_lt (k / 64) (length words)) [
      | inl within ↦
          ap (λ x. eqb (bit_at x (k % 64)) 1) (made (k / 64) within)
          ∙ works.each (get_or words (k / 64) 0) (get_or others (k / 64) 0) (k % 64) (fit (k / 64)) low
      | inr past ↦
          let of_words : word_bit words k ≡ false = zero_bit words k (get_or_past words (k / 64) 0 past) in
          let of_others : word_bit others k ≡ false = zero_bit others k (get_or_past others (k / 64) 0 (omega arith)) in
          let of_new : word_bit new k ≡ false = zero_bit new k (get_or_past new (k / 64) 0 (omega arith)) in
          of_new ∙ sym works.none ∙ ap (λ b. f b false) (sym of_words) ∙ ap (f (word_bit words k)) (sym of_others)
    ]

-- the bits of words that each have a word more of what two others have in common
pub word_bit-join_met : (words xs ys new : List ℕ) → length words ≡ length xs → length words ≡ length ys → length new ≡ length words
    → ((k : ℕ) → k < length words → get_or new k 0 ≡ bit_or (get_or words k 0) (bit_and (get_or xs k 0) (get_or ys k 0)))
    → (k : ℕ) → word_bit new k ≡ (word_bit words k || (word_bit xs k && word_bit ys k))
word_bit-join_met words xs ys new len_xs len_ys same made k =
    elim (cases_lt (k / 64) (length words)) [
      | inl within ↦
          ap (λ x. eqb (bit_at x (k % 64)) 1) (made (k / 64) within)
          ∙ word_or (get_or words (k / 64) 0) (bit_and (get_or xs (k / 64) 0) (get_or ys (k / 64) 0)) (k % 64)
          ∙ ap (λ x. word_bit words k || x) (word_and (get_or xs (k / 64) 0) (get_or ys (k / 64) 0) (k % 64))
      | inr past ↦
          let of_words : word_bit words k ≡ false = zero_bit words k (get_or_past words (k / 64) 0 past) in
          let of_xs : word_bit xs k ≡ false = zero_bit xs k (get_or_past xs (k / 64) 0 (omega arith)) in
          let of_new : word_bit new k ≡ false = zero_bit new k (get_or_past new (k / 64) 0 (omega arith)) in
          of_new ∙ sym (ap (λ b. b || (word_bit xs k && word_bit ys k)) of_words ∙ ap (λ b. b && word_bit ys k) of_xs)
    ]

-- ---- words are determined by their bits

word_bit_of : (words : List ℕ) (w i : ℕ) → i < 64 → word_bit words (w * 64 + i) ≡ eqb (bit_at (get_or words w 0) i) 1
word_bit_of words w i low =
    let word : (w * 64 + i) / 64 ≡ w = omega arith in
    let place : (w * 64 + i) % 64 ≡ i = omega arith in
    ap (λ j. eqb (bit_at (get_or words j 0) ((w * 64 + i) % 64)) 1) word ∙ ap (λ j. eqb (bit_at (get_or words w 0) j) 1) place

bits_from_tests : (x y : ℕ) → x < 2 → y < 2 → eqb x 1 ≡ eqb y 1 → x ≡ y
bits_from_tests x y small_x small_y same =
    elim (bit_cases x small_x) [
      | inl x0 ↦ elim (bit_cases y small_y) [
        | inl y0 ↦ omega arith
        | inr y1 ↦ let no : false ≡ true = rw (x0, y1) at same in cc
      ]
      | inr x1 ↦ elim (bit_cases y small_y) [
        | inl y0 ↦ let no : true ≡ false = rw (x1, y0) at same in cc
        | inr y1 ↦ omega arith
      ]
    ]

pub words_from_bits : (words others : List ℕ) → AreWords words → AreWords others → length words ≡ length others
    → ((k : ℕ) → word_bit words k ≡ word_bit others k) → words ≡ others
words_from_bits words others fit_words fit_others len same =
    ext_get_or 0 words others len
    (λ w _.
    same_from_bits_below 64 (get_or words w 0) (get_or others w 0) (fit_words w) (fit_others w)
    (λ i low.
    bits_from_tests (bit_at (get_or words w 0) i) (bit_at (get_or others w 0) i)
    (bit_at-lt (get_or words w 0) i) (bit_at-lt (get_or others w 0) i)
    (sym (word_bit_of words w i low) ∙ same (w * 64 + i) ∙ word_bit_of others w i low)))

-- ---- the least bit that is set

-- where each word is 0, no bit is set
pub word_bit-zeros : (words : List ℕ) → ((i : ℕ) → i < length words → get_or words i 0 ≡ 0) → (k : ℕ) → word_bit words k ≡ false
word_bit-zeros words none k = zero_bit words k (elim (cases_lt (k / 64) (length words)) [
  | inl within ↦ none (k / 64) within
  | inr past ↦ get_or_past words (k / 64) 0 past
])

-- the lowest bit of the first word that is not 0 is the first bit that is set
pub word_bit-first : (words : List ℕ) (w : ℕ) → get_or words w 0 ≢ 0 → get_or words w 0 < 2 ^ 64
    → ((i : ℕ) → i < w → get_or words i 0 ≡ 0)
    → (word_bit words (w * 64 + trailing_zeros w64 (get_or words w 0)) ≡ true)
    × ((k : ℕ) → k < w * 64 + trailing_zeros w64 (get_or words w 0) → word_bit words k ≡ false)
word_bit-first words w some fits below =
    let word : ℕ = get_or words w 0 in
    let lowest = bit_at-trailing_zeros w64 word (omega arith) fits in (
      word_bit_of words w (trailing_zeros w64 word) lowest.0 ∙ eq-eqb _ 1 lowest.1,
      λ k before. elim (cases_lt (k / 64) w) [
        | inl earlier ↦ zero_bit words k (below (k / 64) earlier)
        | inr not_earlier ↦
            let low : trailing_zeros w64 word < 64 = lowest.0 in
            let here : k / 64 ≡ w = omega arith in
            let under : k % 64 < trailing_zeros w64 word = omega arith in
            ap (λ j. eqb (bit_at (get_or words j 0) (k % 64)) 1) here ∙ ap (λ x. eqb x 1) (lowest.2 (k % 64) under)
      ],
    )

-- ---- the loop of a join, which writes v at i

pub fit_more : (words : List ℕ) (i v : ℕ) → AreWords words → v < 2 ^ 64 → AreWords (set words i v)
fit_more words i v fit small k =
    elim (cases_lt i (length words)) [
      | inl within ↦
          elim (cases_eq k i) [
            | inl same ↦ rw (same, get_or-set_same words i v 0 within) small
            | inr other ↦ rw (get_or-set_other words i k v 0 other) (fit k)
          ]
      | inr past ↦ rw (set_past words i v past) (fit k)
    ]

pub changed_more : (changed : Bool) (old words : List ℕ) (i v : ℕ) → i < length words
    → get_or words i 0 ≡ get_or old i 0
    → MatchBool changed ((k : ℕ) × (k < i) × (get_or words k 0 ≢ get_or old k 0)) (words ≡ old)
    → MatchBool (changed || not (eqb v (get_or words i 0)))
    ((k : ℕ) × (k < i + 1) × (get_or (set words i v) k 0 ≢ get_or old k 0)) (set words i v ≡ old)
changed_more true old words i v within here before =
    let k : ℕ = before.0 in
    let under : k < i = before.1 in
    let other : k ≢ i = omega arith in
    (k, omega arith, λ e. before.2 (sym (get_or-set_other words i k v 0 other) ∙ e))
changed_more false old words i v within here before =
    elim (cases_Bool (eqb v (get_or words i 0))) [
      | inl same ↦
          let is : v ≡ get_or words i 0 = eqb-true v (get_or words i 0) same in
          rw same (rw is (set-get_or words i 0 ∙ before))
      | inr differs ↦
          let other : v ≢ get_or words i 0 = eqb-false v (get_or words i 0) differs in
          rw differs (i, omega arith, λ e. other (sym (get_or-set_same words i v 0 within) ∙ e ∙ sym here))
    ]

-- a list that differs from another at some place is another list
pub changed_words : (changed : Bool) (i : ℕ) (old words : List ℕ)
    → MatchBool changed ((k : ℕ) × (k < i) × (get_or words k 0 ≢ get_or old k 0)) (words ≡ old)
    → IsTrue changed ↔ (words ≢ old)
changed_words true i old words differs =
    (λ _ same. differs.2 (ap (λ (ws : List ℕ). get_or ws differs.0 0) same), λ _. search rules)
changed_words false i old words same = (λ t. search rules, λ differs. absurd (differs same))

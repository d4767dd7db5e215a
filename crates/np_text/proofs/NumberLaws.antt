-- Laws of numbers in decimal.
use Rattle.std.proofs.Common.{◌≡◌, ℕ, ◌+◌, ◌-◌, ◌*◌, ◌^◌, ◌<◌, ◌≤◌, true, cond, ◌&&◌, leb, List, [], ◌∷◌, length, Option, Some, None, inl, inr, sym, refl, ap, ◌∙◌, arith}
use Rattle.std.specs.Char.{is_ascii_digit, digit_value}
use Rattle.std.specs.List.{list_all}
use Rattle.std.specs.Option.{option_and_then}
use Rattle.std.specs.Str.{all_ascii_digits}
use Rattle.std.specs.Str.Parse.{digits_value, digits_value_after}
use Rattle.std.proofs.lemmas.Bool.{cases_Bool, le-leb, lt-leb, leb-true, leb-false, lt-ltb, and_parts, and_right, cond-false, ltb-true}
use Rattle.std.proofs.lemmas.Bool.Decides.{nat_tests}
use Rattle.std.proofs.lemmas.Str.Parse.{IsNumeralModel, numerals_by_value, tells_all_ascii_digits}
use Rattle.std.proofs.lemmas.Fmt.{digits_decimal, digits_value-decimal, decimal_nonempty, length-decimal-le}
use Rattle.std.proofs.lemmas.Int.Digits.{digits_value-lt}
use Rattle.std.proofs.lemmas.Option.{cond_some}
use Rattle.std.specs.Fmt.{decimal}
use Rattle.np_text.specs.Numbers.{number_of, with_digit}

-- the digits, read from the left behind a value; no value on the way is past max
abbrev pub read_on : ℕ → ℕ → List ℕ → Option ℕ
read_on max value [] = Some value
read_on max value (b ∷ bs) = option_and_then (λ more. read_on max more bs) (with_digit max value b)

digit_value-ascii : (b : ℕ) → is_ascii_digit b ≡ true → digit_value b ≡ b - 48
digit_value-ascii b h = grind (arith, nat_tests)

digits_value_after-ge : (n : ℕ) (ds : List ℕ) → n ≤ digits_value_after 10 n ds
digits_value_after-ge n [] = omega arith
digits_value_after-ge n (d ∷ ds) = omega (arith, digits_value_after-ge (n * 10 + digit_value d) ds)

-- what a word of digits gives behind a value
abbrev read_whole : ℕ → ℕ → List ℕ → Option ℕ
read_whole max value bs = cond (all_ascii_digits bs && leb (digits_value_after 10 value bs) max) (Some (digits_value_after 10 value bs)) None

read_whole_past : (max value : ℕ) (bs : List ℕ) → max < value → read_whole max value bs ≡ None
read_whole_past max value bs h =
    cond-false _ _ _ (and_right (all_ascii_digits bs) _ (lt-leb (digits_value_after 10 value bs) max (omega (arith, digits_value_after-ge value bs))))

read_on-is : (max value : ℕ) (bs : List ℕ) → value ≤ max → read_on max value bs ≡ read_whole max value bs
read_on-is max value [] h = rw (le-leb value max h) refl
read_on-is max value (b ∷ bs) h =
    let more = value * 10 + (b - 48) in
    elim (cases_Bool (is_ascii_digit b)) [
      | inr other ↦ rw other refl
      | inl digit ↦
          let same : read_whole max value (b ∷ bs) ≡ read_whole max more bs =
          rw digit (ap (λ d. read_whole max (value * 10 + d) bs) (digit_value-ascii b digit)) in
          elim (cases_Bool (leb more max)) [
            | inl low ↦ rw (digit, low) (read_on-is max more bs (leb-true more max low)) ∙ sym same
            | inr high ↦ rw (digit, high) refl ∙ sym (read_whole_past max more bs (leb-false more max high)) ∙ sym same
          ]
    ]

-- a word that is not empty is read from 0
pub number_of-read : (word : List ℕ) (max : ℕ) → 0 < length word → read_on max 0 word ≡ number_of word max
unfolding number_of
number_of-read word max some = read_on-is max 0 word (omega arith) ∙ rw (lt-ltb 0 (length word) some) refl

pub number_of_empty : (word : List ℕ) (max : ℕ) → length word ≡ 0 → number_of word max ≡ None
unfolding number_of
number_of_empty word max none = rw none refl

-- the test of digits, and the number that they write
pub digits_by_test : IsNumeralModel (λ ds. all_ascii_digits ds ≡ true) (digits_value 10)
digits_by_test = numerals_by_value _ tells_all_ascii_digits

-- what is written in decimal reads back
pub number_of-decimal : (n max : ℕ) → n < 2 ^ 64 → n ≤ max → number_of (decimal n) max ≡ Some n
unfolding number_of
number_of-decimal n max small low =
    let numeral = digits_decimal digits_by_test n small in
    let value = digits_value-decimal digits_by_test n small in
    let some = lt-ltb 0 (length (decimal n)) (decimal_nonempty n small) in
    rw (some, numeral, value, le-leb n max low) refl

-- a number is within its limit
pub number_of-le : (word : List ℕ) (max n : ℕ) → Some n ≡ number_of word max → n ≤ max
unfolding number_of
number_of-le word max n h = grind (arith, nat_tests)

-- no word that reads as the number is shorter
pub decimal_shortest : (word : List ℕ) (max value : ℕ) → value < 2 ^ 64 → number_of word max ≡ Some value → length (decimal value) ≤ length word
unfolding number_of
decimal_shortest word max value small h =
    let read = cond_some _ (digits_value 10 word) value h in
    let numeral = and_parts _ _ (and_parts _ _ read.0).0 in
    let some = ltb-true 0 (length word) numeral.0 in
    let below = digits_value-lt 10 word (digits_by_test.to word numeral.1) in
    length-decimal-le (length word) value some (omega (arith, below, read.1)) small

-- the test of digits, byte by byte
pub all_digits : (word : List ℕ) → list_all is_ascii_digit word ≡ all_ascii_digits word
all_digits [] = refl
all_digits (b ∷ bs) = ap (λ t. is_ascii_digit b && t) (all_digits bs)

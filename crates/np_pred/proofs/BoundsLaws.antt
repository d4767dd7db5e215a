-- A number or a span of numbers as a word.
use Rattle.std.specs.Fmt.{decimal}
use Rattle.std.proofs.Common.{◌≡◌, ◌≢◌, ℕ, ◌<◌, ◌≤◌, nat_le, Bool, true, false, cond, [], ◌∷◌, ◌++◌, eq-eqb, List, length, Option, Some, None, sym, refl, arith}
use Rattle.std.specs.List.{position_or_len, before_first, after_first}
use Rattle.std.specs.Option.{option_and_then, option_map}
use Rattle.std.proofs.lemmas.Bool.{le-ltb, lt-ltb, ne_eqb}
use Rattle.std.proofs.lemmas.Bool.Decides.{nat_tests}
use Rattle.np_text.specs.Numbers.{number_of}
use Rattle.np_text.proofs.NumberLaws.{number_of-le}
use Rattle.np_pred.specs.Bounds.{is_hyphen, ordered, bounds_of, bounds_text}

-- a word without a hyphen is one number
pub bounds_of_one : (max : ℕ) (word : List ℕ) → position_or_len is_hyphen word ≡ length word → bounds_of max word ≡ option_map (λ only. (only, only)) (number_of word max)
unfolding bounds_of
bounds_of_one max word none = rw (le-ltb (position_or_len is_hyphen word) (length word) (omega arith)) refl

-- a word with a hyphen is two numbers
pub bounds_of_two : (max : ℕ) (word low high : List ℕ) → position_or_len is_hyphen word < length word → low ≡ before_first is_hyphen word → high ≡ after_first is_hyphen word →
    bounds_of max word ≡ option_and_then (λ first. option_and_then (λ last. ordered first last) (number_of high max)) (number_of low max)
unfolding bounds_of
bounds_of_two max word low high some before after = rw (before, after, lt-ltb (position_or_len is_hyphen word) (length word) some) refl

-- the word of equal bounds
pub bounds_text_one : (low high : ℕ) → low ≡ high → bounds_text low high ≡ decimal low
unfolding bounds_text
bounds_text_one low high e = rw (eq-eqb low high e) refl

-- the word of different bounds
pub bounds_text_two : (low high : ℕ) → low ≢ high → bounds_text low high ≡ decimal low ++ (45 ∷ [] ++ decimal high)
unfolding bounds_text
bounds_text_two low high e = rw (ne_eqb low high e) refl

-- ---- what is read is in order and at most the greatest

-- bounds in order, the last at most `max`
pub record AreBounds (max : ℕ) (b : ℕ × ℕ) : Type 0 where
  pub ordered : b.0 ≤ b.1
  pub most : b.1 ≤ max

-- two numbers that are in order
ordered_by_cases : (max low high : ℕ) (t : Bool) (b : ℕ × ℕ) → (t ≡ true → low ≤ high) → high ≤ max → cond t (Some (low, high)) None ≡ Some b → AreBounds max b
ordered_by_cases max low high true b h most e = let same : (low, high) ≡ b = cc in rw (← same) (record { ordered = h refl; most = most })
ordered_by_cases max low high false b h most e = cc

-- one number
one_read : (max : ℕ) (n : Option ℕ) (b : ℕ × ℕ) → ((m : ℕ) → n ≡ Some m → m ≤ max) → option_map (λ only. (only, only)) n ≡ Some b → AreBounds max b
one_read max None b h e = cc
one_read max (Some m) b h e = let same : (m, m) ≡ b = cc in rw (← same) (record { ordered = omega arith; most = h m refl })

-- two numbers
two_read : (max : ℕ) (low high : Option ℕ) (b : ℕ × ℕ) → ((m : ℕ) → high ≡ Some m → m ≤ max) → option_and_then (λ first. option_and_then (λ last. ordered first last) high) low ≡ Some b → AreBounds max b
two_read max None high b h e = cc
two_read max (Some first) None b h e = cc
two_read max (Some first) (Some last) b h e = ordered_by_cases max first last (nat_le first last) b (λ t. grind (arith, nat_tests)) (h last refl) e

-- one or two, by the hyphen
either_read : (max : ℕ) (t : Bool) (x y : Option (ℕ × ℕ)) (b : ℕ × ℕ) → (x ≡ Some b → AreBounds max b) → (y ≡ Some b → AreBounds max b) → cond t x y ≡ Some b → AreBounds max b
either_read max true x y b f g e = f e
either_read max false x y b f g e = g e

-- the bounds that a word gives are in order and at most the greatest
pub bounds_of-fit : (max : ℕ) (word : List ℕ) (b : ℕ × ℕ) → bounds_of max word ≡ Some b → AreBounds max b
unfolding bounds_of
bounds_of-fit max word b e =
    either_read max _ _ _ b
    (two_read max _ (number_of (after_first is_hyphen word) max) b (λ m f. number_of-le (after_first is_hyphen word) max m (sym f)))
    (one_read max (number_of word max) b (λ m f. number_of-le word max m (sym f))) e

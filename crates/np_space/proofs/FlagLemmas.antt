-- Facts on two or three flags, each by its cases.
use Rattle.std.proofs.Common.{◌≡◌, ◌+◌, ◌≤◌, Bool, true, false, refl, sym, ◌∙◌, arith}
use Rattle.std.specs.Prelude.{◌&&◌, ◌||◌, not}
use Rattle.np_space.specs.Flag.{flag_number, same_flag}

-- two tests that imply each other give the same answer
pub same_answers : (s t : Bool) → (s ≡ true → t ≡ true) → (t ≡ true → s ≡ true) → s ≡ t
same_answers false false f g = refl
same_answers false true f g = g refl
same_answers true false f g = sym (f refl)
same_answers true true f g = refl

-- a flag is the same as itself
pub same_flag-refl : (s : Bool) → same_flag s s ≡ true
same_flag-refl false = refl
same_flag-refl true = refl

-- flags that are the same are equal
pub same_flag-equal : (s t : Bool) → same_flag s t ≡ true → s ≡ t
same_flag-equal false false h = refl
same_flag-equal false true h = h
same_flag-equal true false h = sym h
same_flag-equal true true h = refl

-- of four conditions the middle two may change places
pub and_interchange : (a b c d : Bool) → ((a && b) && (c && d)) ≡ ((a && c) && (b && d))
and_interchange false b c d = refl
and_interchange true false false d = refl
and_interchange true false true d = refl
and_interchange true true false d = refl
and_interchange true true true d = refl

-- both hold
pub and_both : (a b : Bool) → a ≡ true → b ≡ true → (a && b) ≡ true
and_both a b ha hb = (λ i. ha i && hb i)

-- a condition that holds may be left out
pub and_true : (b : Bool) → (b && true) ≡ b
and_true false = refl
and_true true = refl

-- so may one that does not hold
pub or_false : (b : Bool) → (b || false) ≡ b
or_false false = refl
or_false true = refl

-- the last two of three conditions may change places
pub and_swap : (a b c : Bool) → ((a && b) && c) ≡ ((a && c) && b)
and_swap false b c = refl
and_swap true false false = refl
and_swap true false true = refl
and_swap true true false = refl
and_swap true true true = refl

-- where the tests agree one by one, so do their conjunctions
pub and_join : (x y x1 x2 y1 y2 : Bool) → x ≡ (x1 && x2) → y ≡ (y1 && y2) → (x && y) ≡ ((x1 && y1) && (x2 && y2))
and_join x y x1 x2 y1 y2 ex ey = (λ i. ex i && ey i) ∙ and_interchange x1 x2 y1 y2

-- a further condition takes nothing from a sum of cases
pub and_sum : (o p q r : Bool) → flag_number p ≡ flag_number q + flag_number r → flag_number (o && p) ≡ flag_number (o && q) + flag_number (o && r)
and_sum false p q r h = omega arith
and_sum true p q r h = h

-- the same for three cases
pub and_sum_three : (o p q r s : Bool) → flag_number p ≡ flag_number q + flag_number r + flag_number s → flag_number (o && p) ≡ flag_number (o && q) + flag_number (o && r) + flag_number (o && s)
and_sum_three false p q r s h = omega arith
and_sum_three true p q r s h = h

-- what passes a test passes another too, or does not
pub flag_apart : (p q : Bool) → flag_number (p && q) + flag_number (p && not q) ≡ flag_number p
flag_apart false q = refl
flag_apart true false = refl
flag_apart true true = refl

-- a flag is at most 1
pub flag_small : (b : Bool) → flag_number b ≤ 1
flag_small false = omega arith
flag_small true = omega arith

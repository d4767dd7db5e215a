-- How many named calls have been made.
use Rattle.std.proofs.Common.{ℕ, ◌+◌, ◌≤◌, ◌||◌, ◌∷◌, ◌++◌, [], List, Bool, true, false, cond, length, arith, eqb, leb}
use Rattle.std.specs.List.{list_any}
use Rattle.std.proofs.lemmas.Bool.Decides.{nat_tests}
use Rattle.np_outside.specs.Calls.{count_passed}

-- one call later, one more has been made if that call is named
head_passes : (k made : ℕ) (later : Bool) (old new : ℕ) → old + cond later 1 0 ≤ new
    → (cond (leb k made) 1 0 + old) + cond (eqb k (made + 1) || later) 1 0 ≤ cond (leb k (made + 1)) 1 0 + new
head_passes k made true old new rest = grind (arith, nat_tests)
head_passes k made false old new rest = grind (arith, nat_tests)

pub count_passed_next : (made : ℕ) (named : List ℕ) → count_passed made named + cond (list_any (λ k. eqb k (made + 1)) named) 1 0 ≤ count_passed (made + 1) named
unfolding count_passed
count_passed_next made [] = omega arith
count_passed_next made (k ∷ named) = head_passes k made (list_any (λ k. eqb k (made + 1)) named) _ _ (count_passed_next made named)

-- naming one more takes none away
pub count_passed-append : (made : ℕ) (named more : List ℕ) → count_passed made named ≤ count_passed made (named ++ more)
unfolding count_passed
count_passed-append made [] more = omega arith
count_passed-append made (k ∷ named) more = omega (arith, count_passed-append made named more)

at_most_one : (b : Bool) (old len : ℕ) → old ≤ len → cond b 1 0 + old ≤ len + 1
at_most_one true old len rest = omega arith
at_most_one false old len rest = omega arith

pub count_passed-le-length : (made : ℕ) (named : List ℕ) → count_passed made named ≤ length named
unfolding count_passed
count_passed-le-length made [] = omega arith
count_passed-le-length made (k ∷ named) = omega (arith, at_most_one (leb k made) _ _ (count_passed-le-length made named))

pub ruleset passed_within = (count_passed-le-length)

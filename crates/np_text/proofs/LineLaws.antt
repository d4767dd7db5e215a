-- Laws of the lines of a text.
use Rattle.std.proofs.Common.{◌≡◌, ℕ, suc, ◌+◌, ◌<◌, ◌≤◌, ◌==◌, true, false, not, cond, List, [], ◌∷◌, ◌++◌, length, All, inl, inr, sym, refl, ap, ◌∙◌, arith}
use Rattle.std.specs.List.{AllByRecursion, list_all, enumerate_from, onto_first, position_or_len, before_first, after_first}
use Rattle.std.proofs.lemmas.Bool.{cases_Bool, cond-true, cond-false, cond_both, eqb-true}
use Rattle.std.proofs.lemmas.Grind.{common_steps}
use Rattle.std.proofs.lemmas.List.Elements.{All-head, All-tail}
use Rattle.std.proofs.lemmas.List.Sums.{split_at_first, fails_before_first, passes_at_first}
use Rattle.np_text.specs.Lines.{lines_of, numbered_lines, ended_lines, has_end}

-- the first line stands before the first line end
pub lines_of-append : (front rest : List ℕ) → All (λ b. (b == 10) ≡ false) front → lines_of (front ++ 10 ∷ rest) ≡ front ∷ lines_of rest
lines_of-append [] rest h = refl
lines_of-append (b ∷ front) rest h =
    cond-false _ _ _ (All-head (λ y. (y == 10) ≡ false) b front h)
    ∙ ap (onto_first b) (lines_of-append front rest (All-tail (λ y. (y == 10) ≡ false) b front h))

-- a text without a line end is one line
pub lines_of_none : (b : ℕ) (bs : List ℕ) → All (λ y. (y == 10) ≡ false) (b ∷ bs) → lines_of (b ∷ bs) ≡ (b ∷ bs) ∷ []
lines_of_none b [] h = cond-false _ _ _ (All-head (λ y. (y == 10) ≡ false) b [] h)
lines_of_none b (c ∷ bs) h =
    cond-false _ _ _ (All-head (λ y. (y == 10) ≡ false) b (c ∷ bs) h)
    ∙ ap (onto_first b) (lines_of_none c bs (All-tail (λ y. (y == 10) ≡ false) b (c ∷ bs) h))

pub lines_of_whole : (text : List ℕ) → 0 < length text → All (λ y. (y == 10) ≡ false) text → lines_of text ≡ text ∷ []
lines_of_whole [] some h = absurd (omega arith)
lines_of_whole (b ∷ bs) some h = lines_of_none b bs h

-- the same by the place of the first line end
pub lines_of_first : (text : List ℕ) → position_or_len (λ b. b == 10) text < length text → lines_of text ≡ before_first (λ b. b == 10) text ∷ lines_of (after_first (λ b. b == 10) text)
lines_of_first text inside =
    let p = λ (b : ℕ). b == 10 in
    let front : All (λ b. (b == 10) ≡ false) (before_first p text) =
    λ k e m. let before = fails_before_first p text k e (grind (arith, common_steps)) in grind (arith, common_steps) in
    let cut : text ≡ before_first p text ++ 10 ∷ after_first p text =
    split_at_first p text 0 inside ∙ ap (λ b. before_first p text ++ b ∷ after_first p text) (eqb-true _ 10 (passes_at_first p text 0 inside)) in
    ap lines_of cut ∙ lines_of-append _ _ front

length-onto_first : (b : ℕ) (lines : List (List ℕ)) → length (onto_first b lines) ≤ length lines + 1
length-onto_first b [] = omega arith
length-onto_first b (line ∷ lines) = omega arith

-- there are no more lines than bytes
pub length-lines_of-le : (text : List ℕ) → length (lines_of text) ≤ length text
length-lines_of-le [] = omega arith
length-lines_of-le (b ∷ bs) =
    let rest = length-lines_of-le bs in
    let onto = length-onto_first b (lines_of bs) in
    cond_both (b == 10) ([] ∷ lines_of bs) (onto_first b (lines_of bs)) (λ lines. length lines ≤ length (b ∷ bs)) (λ _. omega arith) (λ _. omega arith)

pub length-enumerate_from : {X : Type 0} (n : ℕ) (xs : List X) → length (enumerate_from n xs) ≡ length xs
length-enumerate_from n [] = refl
length-enumerate_from n (x ∷ xs) = ap suc (length-enumerate_from (n + 1) xs)

-- the same of the lines with their numbers
pub numbered_lines_few : (text : List ℕ) → length (numbered_lines text) ≤ length text
numbered_lines_few text = omega (arith, length-enumerate_from 1 (lines_of text), length-lines_of-le text)

ended_lines-onto_first : (b : ℕ) (lines : List (List ℕ)) → 0 < length lines → ended_lines (onto_first b lines) ≡ b ∷ ended_lines lines
ended_lines-onto_first b [] some = absurd (omega arith)
ended_lines-onto_first b (line ∷ lines) some = refl

onto_first_some : (b : ℕ) (lines : List (List ℕ)) → 0 < length (onto_first b lines)
onto_first_some b [] = omega arith
onto_first_some b (line ∷ lines) = omega arith

lines_of_some : (b : ℕ) (bs : List ℕ) → 0 < length (lines_of (b ∷ bs))
lines_of_some b bs = cond_both (b == 10) ([] ∷ lines_of bs) (onto_first b (lines_of bs)) (λ lines. 0 < length lines) (λ _. omega arith) (λ _. onto_first_some b (lines_of bs))

-- the lines, each ended, are the text with its last line ended
pub ended_lines-lines_of : (text : List ℕ) → ended_lines (lines_of text) ≡ cond (has_end text) text (text ++ 10 ∷ [])
ended_lines-lines_of [] = refl
ended_lines-lines_of (b ∷ []) = elim (cases_Bool (b == 10)) [
  | inl end ↦ rw end (ap (λ c. c ∷ []) (sym (eqb-true b 10 end)))
  | inr other ↦ rw other refl
]
ended_lines-lines_of (b ∷ c ∷ bs) =
    let rest = ended_lines-lines_of (c ∷ bs) in
    let more = cond_both (has_end (c ∷ bs)) (b ∷ c ∷ bs) (b ∷ c ∷ bs ++ 10 ∷ []) (λ t. b ∷ cond (has_end (c ∷ bs)) (c ∷ bs) ((c ∷ bs) ++ 10 ∷ []) ≡ t) (λ e. rw e refl) (λ e. rw e refl) in
    elim (cases_Bool (b == 10)) [
      | inl end ↦ ap ended_lines (cond-true (b == 10) ([] ∷ lines_of (c ∷ bs)) (onto_first b (lines_of (c ∷ bs))) end) ∙ ap (λ d. d ∷ ended_lines (lines_of (c ∷ bs))) (sym (eqb-true b 10 end)) ∙ ap (λ t. b ∷ t) rest ∙ more
      | inr other ↦ ap ended_lines (cond-false (b == 10) ([] ∷ lines_of (c ∷ bs)) (onto_first b (lines_of (c ∷ bs))) other) ∙ ended_lines-onto_first b (lines_of (c ∷ bs)) (lines_of_some c bs) ∙ ap (λ t. b ∷ t) rest ∙ more
    ]

-- a line without a line end
abbrev NoEnd : List ℕ → Type 0
NoEnd line = list_all (λ b. not (b == 10)) line ≡ true

onto_first-no_end : (b : ℕ) (lines : List (List ℕ)) → (b == 10) ≡ false → AllByRecursion NoEnd lines → AllByRecursion NoEnd (onto_first b lines)
onto_first-no_end b [] other h = (rw other refl, tt)
onto_first-no_end b (line ∷ lines) other h = (rw other h.0, h.1)

-- no line holds a line end
pub lines_of-no_end : (text : List ℕ) → AllByRecursion (λ line. list_all (λ b. not (b == 10)) line ≡ true) (lines_of text)
lines_of-no_end [] = tt
lines_of-no_end (b ∷ bs) =
    cond_both (b == 10) ([] ∷ lines_of bs) (onto_first b (lines_of bs)) (λ lines. AllByRecursion NoEnd lines) (λ _. (refl, lines_of-no_end bs)) (λ other. onto_first-no_end b (lines_of bs) other (lines_of-no_end bs))

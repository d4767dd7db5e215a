-- The first words of a line.
use Rattle.std.proofs.Common.{◌≡◌, ℕ, ◌<◌, Bool, true, false, List, [], ◌∷◌, arith, drop, length, map, refl, ap, sym, ◌∙◌}
use Rattle.std.specs.Prelude.{◌&&◌, not, codes}
use Rattle.std.specs.List.{AllByRecursion, list_all, list_any}
use Rattle.std.specs.Str.{bytes_eq}
use Rattle.std.proofs.Math.Bool.{and-true}
use Rattle.np_text.proofs.WordLaws.{map-placed_words}
use Rattle.np_text.proofs.PlaceLaws.{words_of-runs}
use Rattle.np_text.specs.Words.{is_blank, placed_words, words_of}
use Rattle.np_notes.specs.Shape.{are_two, is_action, is_exit, word_at}

-- the words without their places
abbrev words_in : List (ℕ × List ℕ) → List (List ℕ)
words_in placed = map (λ word. word.1) placed

all_words : (placed : List (ℕ × List ℕ)) (line : List ℕ) → placed ≡ placed_words 0 line → words_in placed ≡ words_of line
all_words placed line all = ap words_in all ∙ map-placed_words 0 line

next_at : (words : List (List ℕ)) → word_at (drop 1 words) 0 ≡ word_at words 1
next_at [] = refl
next_at (word ∷ words) = refl

after_next_at : (words : List (List ℕ)) → word_at (drop 1 (drop 1 words)) 0 ≡ word_at words 2
after_next_at [] = refl
after_next_at (word ∷ []) = refl
after_next_at (word ∷ next ∷ words) = refl

pub first_word_is : (placed : List (ℕ × List ℕ)) (line first : List ℕ) → placed ≡ placed_words 0 line → first ≡ word_at (map (λ word. word.1) placed) 0 → first ≡ word_at (words_of line) 0
first_word_is placed line first all is = is ∙ ap (λ words. word_at words 0) (all_words placed line all)

pub second_word_is : (placed rest : List (ℕ × List ℕ)) (line second : List ℕ) → placed ≡ placed_words 0 line → map (λ word. word.1) rest ≡ drop 1 (map (λ word. word.1) placed) → second ≡ word_at (map (λ word. word.1) rest) 0 → second ≡ word_at (words_of line) 1
second_word_is placed rest line second all after is =
    is ∙ ap (λ words. word_at words 0) after ∙ next_at (words_in placed) ∙ ap (λ words. word_at words 1) (all_words placed line all)

pub third_word_is : (placed rest last : List (ℕ × List ℕ)) (line third : List ℕ) → placed ≡ placed_words 0 line → map (λ word. word.1) rest ≡ drop 1 (map (λ word. word.1) placed) → map (λ word. word.1) last ≡ drop 1 (map (λ word. word.1) rest) → third ≡ word_at (map (λ word. word.1) last) 0 → third ≡ word_at (words_of line) 2
third_word_is placed rest last line third all after next is =
    is ∙ ap (λ words. word_at words 0) (next ∙ ap (λ words. drop 1 words) after) ∙ after_next_at (words_in placed) ∙ ap (λ words. word_at words 2) (all_words placed line all)

-- ---- the one word `exit`

and_false : (b : Bool) → (b && false) ≡ false
and_false true = refl
and_false false = refl

-- words with bytes are the one word `exit` where that is the first and the second has no bytes
exit_in : (words : List (List ℕ)) → AllByRecursion (λ word. (0 < length word) × (list_all (λ b. not (is_blank b)) word ≡ true)) words → is_exit words ≡ are_two (word_at words 0) (word_at words 1) (codes "exit") []
exit_in [] each = refl
exit_in (word ∷ []) each = sym (and-true (bytes_eq word (codes "exit")))
exit_in (word ∷ [] ∷ words) each = absurd (let none : 0 < 0 = each.1.0.0 in omega arith)
exit_in (word ∷ (b ∷ more) ∷ words) each = sym (and_false (bytes_eq word (codes "exit")))

pub exit_by_two : (line : List ℕ) → is_exit (words_of line) ≡ are_two (word_at (words_of line) 0) (word_at (words_of line) 1) (codes "exit") []
exit_by_two line = exit_in (words_of line) (words_of-runs line)

-- where no action is left there is none
pub all_words_are : (placed : List (ℕ × List ℕ)) (line : List ℕ) → placed ≡ placed_words 0 line → list_any is_action (map (λ word. word.1) placed) ≡ list_any is_action (words_of line)
all_words_are placed line all = ap (λ words. list_any is_action words) (all_words placed line all)

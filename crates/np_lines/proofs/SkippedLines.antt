-- What the words of a line say, by whether it is skipped.
use Rattle.std.proofs.Common.{◌≡◌, ℕ, true, false, List, [], ◌∷◌, map, Option, None, refl, ap, sym, ◌∙◌}
use Rattle.std.specs.Prelude.{Ok}
use Rattle.np_text.proofs.WordLaws.{map-placed_words}
use Rattle.np_text.specs.Words.{placed_words, words_of}
use Rattle.np_lines.specs.Judging.{Judged}
use Rattle.np_lines.specs.Skipping.{begins_with, is_skipped, words_say}

-- a line that is skipped says nothing
pub skipped_say_nothing : {W S : Type 0} (mark : ℕ) (says : List ℕ → List (List ℕ) → Judged W (Option S)) (words : List (List ℕ)) → is_skipped mark words ≡ true → words_say mark says words ≡ Ok None
skipped_say_nothing mark says [] skipped = refl
skipped_say_nothing mark says (word ∷ words) skipped = rw skipped refl

-- a line whose first word doesn't begin with the mark says what its words say
pub unmarked_say : {W S : Type 0} (mark : ℕ) (says : List ℕ → List (List ℕ) → Judged W (Option S)) (words : List (List ℕ)) (word : List ℕ) (rest : List (List ℕ)) → words ≡ word ∷ rest → begins_with mark word ≡ false → words_say mark says words ≡ says word rest
unmarked_say mark says words word rest split unmarked = ap (words_say mark says) split ∙ rw unmarked refl

-- the words of a line, by those with their places
pub words_by_places : (line : List ℕ) (words these : List (ℕ × List ℕ)) → words ≡ placed_words 0 line → words ≡ these → words_of line ≡ map (λ word. word.1) these
words_by_places line words these all same = sym (map-placed_words 0 line) ∙ ap (map (λ word. word.1)) (sym all ∙ same)

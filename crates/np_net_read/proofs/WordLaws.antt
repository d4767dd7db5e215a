-- The words of a line whose bytes may stand in a network's text.
use Rattle.std.proofs.Common.{◌≡◌, ℕ, true, false, List, [], ◌∷◌, length, inl, inr, refl, arith, rules}
use Rattle.std.specs.List.{list_all, onto_first}
use Rattle.std.proofs.lemmas.Bool.{cases_Bool, and_from, and_parts, lt-ltb}
use Rattle.np_text.specs.Words.{is_blank, ends_word, words_of}
use Rattle.np_net.specs.Names.{is_file_byte}
use Rattle.np_lines.specs.Skipping.{is_text_byte}
use Rattle.np_net_read.specs.Words.{ArePlainWords}

-- a byte of a network's text that is no blank may stand in a file's name
file_byte : (b : ℕ) → is_text_byte b ≡ true → is_blank b ≡ false → is_file_byte b ≡ true
file_byte b text other = grind (arith, rules)

onto_first-words : (b : ℕ) (words : List (List ℕ)) → is_file_byte b ≡ true → ArePlainWords words → ArePlainWords (onto_first b words)
onto_first-words b [] one h = (rw one refl, tt)
onto_first-words b (word ∷ words) one h = (and_from _ _ (lt-ltb 0 (length (b ∷ word)) (omega arith)) (and_from _ _ one (and_parts _ _ h.0).1), h.1)

-- each word of such a line may name a file
pub words_of_text : (line : List ℕ) → list_all is_text_byte line ≡ true → ArePlainWords (words_of line)
words_of_text [] text = tt
words_of_text (b ∷ bs) text =
    let split = and_parts _ _ text in
    let rest = words_of_text bs split.1 in
    elim (cases_Bool (is_blank b)) [
      | inl blank ↦ rw blank rest
      | inr other ↦ elim (cases_Bool (ends_word bs)) [
        | inl ends ↦ rw (other, ends) ((rw (file_byte b split.0 other) refl), rest)
        | inr goes_on ↦ rw (other, goes_on) (onto_first-words b (words_of bs) (file_byte b split.0 other) rest)
      ]
    ]

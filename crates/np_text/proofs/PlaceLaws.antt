-- The words of a line are its runs of bytes that are not blank, each at its place.
use Rattle.std.proofs.Common.{◌≡◌, ℕ, suc, ◌+◌, ◌-◌, ◌<◌, ◌≤◌, true, false, not, List, [], ◌∷◌, length, take, drop, inl, inr, refl, ap, ◌∙◌, arith}
use Rattle.std.specs.List.{AllByRecursion, concat, filter, list_all, onto_first, slice_range}
use Rattle.std.proofs.lemmas.Bool.{cases_Bool, and_from, lt-ltb, true≢false}
use Rattle.np_text.specs.Words.{is_blank, ends_word, onto_first_word, words_of, placed_words, are_apart}

-- bytes, at least one, and none of them blank
abbrev IsRun : List ℕ → Type 0
IsRun word = (0 < length word) × (list_all (λ b. not (is_blank b)) word ≡ true)

onto_first-runs : (b : ℕ) (words : List (List ℕ)) → is_blank b ≡ false → AllByRecursion IsRun words → AllByRecursion IsRun (onto_first b words)
onto_first-runs b [] other h = ((omega arith, rw other refl), tt)
onto_first-runs b (word ∷ words) other h = ((omega arith, rw other h.0.1), h.1)

-- each word has a byte, and none that is blank
pub words_of-runs : (bytes : List ℕ) → AllByRecursion (λ word. (0 < length word) × (list_all (λ b. not (is_blank b)) word ≡ true)) (words_of bytes)
words_of-runs [] = tt
words_of-runs (b ∷ bs) =
    let rest = words_of-runs bs in
    elim (cases_Bool (is_blank b)) [
      | inl blank ↦ rw blank rest
      | inr other ↦ elim (cases_Bool (ends_word bs)) [
        | inl ends ↦ rw (other, ends) ((omega arith, rw other refl), rest)
        | inr goes_on ↦ rw (other, goes_on) (onto_first-runs b (words_of bs) other rest)
      ]
    ]

concat-onto_first : (b : ℕ) (words : List (List ℕ)) → concat (onto_first b words) ≡ b ∷ concat words
concat-onto_first b [] = refl
concat-onto_first b (word ∷ words) = refl

-- the words have all bytes that are not blank, in their order
pub concat-words_of : (bytes : List ℕ) → concat (words_of bytes) ≡ filter (λ b. not (is_blank b)) bytes
concat-words_of [] = refl
concat-words_of (b ∷ bs) =
    let rest = concat-words_of bs in
    elim (cases_Bool (is_blank b)) [
      | inl blank ↦ rw blank rest
      | inr other ↦ elim (cases_Bool (ends_word bs)) [
        | inl ends ↦ rw (other, ends) (ap (λ c. b ∷ c) rest)
        | inr goes_on ↦ rw (other, goes_on) (concat-onto_first b (words_of bs) ∙ ap (λ c. b ∷ c) rest)
      ]
    ]

-- the word stands in the bytes at its place, where the first byte has the place at
abbrev StandsIn : ℕ → List ℕ → ℕ × List ℕ → Type 0
StandsIn at bytes word = (at ≤ word.0) × (take (length word.1) (drop (word.0 - at) bytes) ≡ word.1)

stands_behind : (at b : ℕ) (bs : List ℕ) (word : ℕ × List ℕ) → StandsIn (at + 1) bs word → StandsIn at (b ∷ bs) word
stands_behind at b bs word h =
    let further : word.0 - at ≡ suc (word.0 - (at + 1)) = omega (arith, h.0) in
    (omega (arith, h.0), rw further h.1)

all_stand_behind : (at b : ℕ) (bs : List ℕ) (words : List (ℕ × List ℕ)) → AllByRecursion (StandsIn (at + 1) bs) words → AllByRecursion (StandsIn at (b ∷ bs)) words
all_stand_behind at b bs [] h = tt
all_stand_behind at b bs (word ∷ words) h = (stands_behind at b bs word h.0, all_stand_behind at b bs words h.1)

-- the first of the words begins at this place
abbrev BeginsAt : ℕ → List (ℕ × List ℕ) → Type 0
BeginsAt at [] = ⊥
BeginsAt at (word ∷ words) = word.0 ≡ at

onto_first_word-begins : (at b : ℕ) (words : List (ℕ × List ℕ)) → BeginsAt at (onto_first_word at b words)
onto_first_word-begins at b [] = refl
onto_first_word-begins at b (word ∷ words) = refl

placed_words-begins : (at : ℕ) (bytes : List ℕ) → ends_word bytes ≡ false → BeginsAt at (placed_words at bytes)
placed_words-begins at [] h = absurd (true≢false h)
placed_words-begins at (b ∷ bs) other =
    elim (cases_Bool (ends_word bs)) [
      | inl ends ↦ rw (other, ends) refl
      | inr goes_on ↦ rw (other, goes_on) (onto_first_word-begins at b (placed_words (at + 1) bs))
    ]

onto_first_word-stands : (at b : ℕ) (bs : List ℕ) (words : List (ℕ × List ℕ)) → BeginsAt (at + 1) words → AllByRecursion (StandsIn (at + 1) bs) words → AllByRecursion (StandsIn at (b ∷ bs)) (onto_first_word at b words)
onto_first_word-stands at b bs [] begins h = absurd begins
onto_first_word-stands at b bs (word ∷ words) begins h =
    let here : at - at ≡ 0 = omega arith in
    let there : word.0 - (at + 1) ≡ 0 = omega (arith, begins) in
    ((omega arith, rw here (ap (λ w. b ∷ w) (rw there at h.0.1))), all_stand_behind at b bs words h.1)

placed_words-stand : (at : ℕ) (bytes : List ℕ) → AllByRecursion (StandsIn at bytes) (placed_words at bytes)
placed_words-stand at [] = tt
placed_words-stand at (b ∷ bs) =
    let rest = placed_words-stand (at + 1) bs in
    let here : at - at ≡ 0 = omega arith in
    elim (cases_Bool (is_blank b)) [
      | inl blank ↦ rw blank (all_stand_behind at b bs (placed_words (at + 1) bs) rest)
      | inr other ↦ elim (cases_Bool (ends_word bs)) [
        | inl ends ↦ rw (other, ends) ((omega arith, rw here refl), all_stand_behind at b bs (placed_words (at + 1) bs) rest)
        | inr goes_on ↦ rw (other, goes_on) (onto_first_word-stands at b bs (placed_words (at + 1) bs) (placed_words-begins (at + 1) bs goes_on) rest)
      ]
    ]

in_line : (line : List ℕ) (words : List (ℕ × List ℕ)) → AllByRecursion (StandsIn 0 line) words → AllByRecursion (λ word. slice_range line word.0 (word.0 + length word.1) ≡ word.1) words
in_line line [] h = tt
in_line line (word ∷ words) h =
    let long : word.0 + length word.1 - word.0 ≡ length word.1 = omega arith in
    let here : word.0 - 0 ≡ word.0 = omega arith in
    (rw long (rw here at h.0.1), in_line line words h.1)

-- each word is the slice of its line at its place
pub placed_words-slices : (line : List ℕ) → AllByRecursion (λ word. slice_range line word.0 (word.0 + length word.1) ≡ word.1) (placed_words 0 line)
placed_words-slices line = in_line line (placed_words 0 line) (placed_words-stand 0 line)

-- the first of the words, if there is one, begins at this place or behind it
abbrev BeginsFrom : ℕ → List (ℕ × List ℕ) → Type 0
BeginsFrom at [] = Unit {0}
BeginsFrom at (word ∷ words) = at ≤ word.0

begins_from : (at : ℕ) (bytes : List ℕ) (words : List (ℕ × List ℕ)) → AllByRecursion (StandsIn at bytes) words → BeginsFrom at words
begins_from at bytes [] h = tt
begins_from at bytes (word ∷ words) h = h.0.0

apart_in_front : (at b : ℕ) (words : List (ℕ × List ℕ)) → BeginsFrom (at + 1 + 1) words → are_apart words ≡ true → are_apart ((at, b ∷ []) ∷ words) ≡ true
apart_in_front at b [] from apart = refl
apart_in_front at b (word ∷ words) from apart = and_from _ _ (lt-ltb (at + 1) word.0 (omega arith)) apart

apart_onto_first : (at b : ℕ) (words : List (ℕ × List ℕ)) → BeginsAt (at + 1) words → are_apart words ≡ true → are_apart (onto_first_word at b words) ≡ true
apart_onto_first at b [] begins apart = absurd begins
apart_onto_first at b (word ∷ []) begins apart = refl
apart_onto_first at b (word ∷ next ∷ words) begins apart =
    let moved : at + suc (length word.1) ≡ word.0 + length word.1 = omega (arith, begins) in
    rw moved apart

blank_first : (at : ℕ) (bs : List ℕ) → ends_word bs ≡ true → BeginsFrom (at + 1) (placed_words at bs)
blank_first at [] h = tt
blank_first at (b ∷ bs) blank = rw blank (begins_from (at + 1) bs (placed_words (at + 1) bs) (placed_words-stand (at + 1) bs))

-- between two words there is a byte that is in neither
pub placed_words-apart : (at : ℕ) (bytes : List ℕ) → are_apart (placed_words at bytes) ≡ true
placed_words-apart at [] = refl
placed_words-apart at (b ∷ bs) =
    let rest = placed_words-apart (at + 1) bs in
    elim (cases_Bool (is_blank b)) [
      | inl blank ↦ rw blank rest
      | inr other ↦ elim (cases_Bool (ends_word bs)) [
        | inl ends ↦ rw (other, ends) (apart_in_front at b (placed_words (at + 1) bs) (blank_first (at + 1) bs ends) rest)
        | inr goes_on ↦ rw (other, goes_on) (apart_onto_first at b (placed_words (at + 1) bs) (placed_words-begins (at + 1) bs goes_on) rest)
      ]
    ]

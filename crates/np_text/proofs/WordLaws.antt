-- Laws of the words of a line.
use Rattle.std.proofs.Common.{◌≡◌, ℕ, ◌+◌, ◌<◌, ◌≤◌, false, true, not, List, [], ◌∷◌, ◌++◌, length, take, drop, get_or, map, All, inl, inr, sym, refl, ap, ◌∙◌, arith, take-append-drop}
use Rattle.std.specs.List.{onto_first, prefix_len, position_or_len}
use Rattle.std.proofs.lemmas.Bool.{cond-true, cond_both, cases_Bool}
use Rattle.std.proofs.lemmas.Grind.{common_steps}
use Rattle.std.proofs.lemmas.List.Elements.{All-head, All-tail}
use Rattle.std.proofs.lemmas.List.Sums.{prefix_len_passes, prefix_len-le-length, fails_before_first, passes_at_first}
use Rattle.std.proofs.lemmas.Simd.{map-map}
use Rattle.np_text.specs.Views.{word_view}
use Rattle.np_text.specs.declared.cutting.Word.{Word}
use Rattle.np_text.specs.Words.{is_blank, ends_word, onto_first_word, words_of, placed_words}

-- blank bytes in front of a line move its words
pub placed_words-append_blanks : (at : ℕ) (blanks rest : List ℕ) → All (λ b. is_blank b ≡ true) blanks → placed_words at (blanks ++ rest) ≡ placed_words (at + length blanks) rest
placed_words-append_blanks at [] rest h = ap (λ i. placed_words i rest) (omega arith)
placed_words-append_blanks at (b ∷ blanks) rest h =
    cond-true _ _ _ (All-head (λ y. is_blank y ≡ true) b blanks h)
    ∙ placed_words-append_blanks (at + 1) blanks rest (All-tail (λ y. is_blank y ≡ true) b blanks h)
    ∙ ap (λ i. placed_words i rest) (omega arith)

placed_words-last_byte : (at b : ℕ) (bs : List ℕ) → is_blank b ≡ false → ends_word bs ≡ true → placed_words at (b ∷ bs) ≡ (at, b ∷ []) ∷ placed_words (at + 1) bs
placed_words-last_byte at b bs other ends = rw (other, ends) refl

placed_words-more_bytes : (at b : ℕ) (bs : List ℕ) → is_blank b ≡ false → ends_word bs ≡ false → placed_words at (b ∷ bs) ≡ onto_first_word at b (placed_words (at + 1) bs)
placed_words-more_bytes at b bs other goes_on = rw (other, goes_on) refl

-- a word in front of a blank byte, or of nothing
pub placed_words-append_word : (at b : ℕ) (word rest : List ℕ) → All (λ y. is_blank y ≡ false) (b ∷ word) → ends_word rest ≡ true → placed_words at ((b ∷ word) ++ rest) ≡ (at, b ∷ word) ∷ placed_words (at + length (b ∷ word)) rest
placed_words-append_word at b [] rest h ends =
    placed_words-last_byte at b rest (All-head (λ y. is_blank y ≡ false) b [] h) ends
placed_words-append_word at b (c ∷ word) rest h ends =
    let others = All-tail (λ y. is_blank y ≡ false) b (c ∷ word) h in
    placed_words-more_bytes at b ((c ∷ word) ++ rest) (All-head (λ y. is_blank y ≡ false) b (c ∷ word) h) (All-head (λ y. is_blank y ≡ false) c word others)
    ∙ ap (onto_first_word at b) (placed_words-append_word (at + 1) c word rest others ends)
    ∙ ap (λ i. (at, b ∷ c ∷ word) ∷ placed_words i rest) (omega arith)

placed_words-append_some : (at : ℕ) (word rest : List ℕ) → 0 < length word → All (λ y. is_blank y ≡ false) word → ends_word rest ≡ true → placed_words at (word ++ rest) ≡ (at, word) ∷ placed_words (at + length word) rest
placed_words-append_some at [] rest some h ends = absurd (omega arith)
placed_words-append_some at (b ∷ word) rest some h ends = placed_words-append_word at b word rest h ends

ends_word-from_first : (bs : List ℕ) → (0 < length bs → is_blank (get_or bs 0 0) ≡ true) → ends_word bs ≡ true
ends_word-from_first [] h = refl
ends_word-from_first (b ∷ bs) h = h (omega arith)

-- the same by the place of the first byte that is not blank
pub placed_words_skip : (at : ℕ) (bytes : List ℕ) (n : ℕ) → prefix_len is_blank bytes ≡ n → placed_words at bytes ≡ placed_words (at + n) (drop n bytes)
placed_words_skip at bytes n found =
    let within = prefix_len-le-length is_blank bytes in
    let blanks : All (λ b. is_blank b ≡ true) (take n bytes) = λ k e m. let before = prefix_len_passes is_blank bytes k e (grind (arith, common_steps)) in grind (arith, common_steps) in
    let measured : length (take n bytes) ≡ n = grind (arith, common_steps) in
    ap (placed_words at) (sym (take-append-drop n bytes))
    ∙ placed_words-append_blanks at (take n bytes) (drop n bytes) blanks
    ∙ ap (λ i. placed_words (at + i) (drop n bytes)) measured

-- the same by the place of the first blank byte
pub placed_words_split : (at : ℕ) (bytes : List ℕ) (n : ℕ) → position_or_len is_blank bytes ≡ n → 0 < n → placed_words at bytes ≡ (at, take n bytes) ∷ placed_words (at + length (take n bytes)) (drop n bytes)
placed_words_split at bytes n found some =
    let within = prefix_len-le-length (λ b. not (is_blank b)) bytes in
    let word : All (λ b. is_blank b ≡ false) (take n bytes) = λ k e m. let before = fails_before_first is_blank bytes k e (grind (arith, common_steps)) in grind (arith, common_steps) in
    let measured : length (take n bytes) ≡ n = grind (arith, common_steps) in
    let ends = ends_word-from_first (drop n bytes) (λ more. let at_end = passes_at_first is_blank bytes 0 (grind (arith, common_steps)) in grind (arith, common_steps)) in
    ap (placed_words at) (sym (take-append-drop n bytes))
    ∙ placed_words-append_some at (take n bytes) (drop n bytes) (omega arith) word ends

-- a line that begins with no blank byte begins with a word
pub some_word : (bytes : List ℕ) → 0 < length bytes → prefix_len is_blank bytes ≡ 0 → 0 < position_or_len is_blank bytes
some_word [] some none = absurd (omega arith)
some_word (b ∷ bs) some none =
    elim (cases_Bool (is_blank b)) [
      | inl blank ↦ absurd (omega (arith, sym (cond-true (is_blank b) (1 + prefix_len is_blank bs) 0 blank) ∙ none))
      | inr other ↦ omega (arith, cond-true (not (is_blank b)) (1 + position_or_len is_blank bs) 0 (ap not other))
    ]

map-onto_first_word : (at b : ℕ) (words : List (ℕ × List ℕ)) → map (λ word. word.1) (onto_first_word at b words) ≡ onto_first b (map (λ word. word.1) words)
map-onto_first_word at b [] = refl
map-onto_first_word at b (word ∷ words) = refl

-- the words are the placed ones without their places
pub map-placed_words : (at : ℕ) (bytes : List ℕ) → map (λ word. word.1) (placed_words at bytes) ≡ words_of bytes
map-placed_words at [] = refl
map-placed_words at (b ∷ bs) =
    let rest = map-placed_words (at + 1) bs in
    elim (cases_Bool (is_blank b)) [
      | inl blank ↦ rw (blank) rest
      | inr other ↦ elim (cases_Bool (ends_word bs)) [
        | inl ends ↦ rw (other, ends) (ap (λ words. (b ∷ []) ∷ words) rest)
        | inr goes_on ↦ rw (other, goes_on) (map-onto_first_word at b _ ∙ ap (onto_first b) rest)
      ]
    ]

length-onto_first_word : (at b : ℕ) (words : List (ℕ × List ℕ)) → length (onto_first_word at b words) ≤ length words + 1
length-onto_first_word at b [] = omega arith
length-onto_first_word at b (word ∷ words) = omega arith

-- there are no more words than bytes
pub placed_words_few : (at : ℕ) (bytes : List ℕ) → length (placed_words at bytes) ≤ length bytes
placed_words_few at [] = omega arith
placed_words_few at (b ∷ bs) =
    let rest = placed_words_few (at + 1) bs in
    let onto = length-onto_first_word at b (placed_words (at + 1) bs) in
    let more = cond_both (ends_word bs) ((at, b ∷ []) ∷ placed_words (at + 1) bs) (onto_first_word at b (placed_words (at + 1) bs)) (λ words. length words ≤ length (b ∷ bs)) (λ _. omega arith) (λ _. omega arith) in
    cond_both (is_blank b) (placed_words (at + 1) bs) _ (λ words. length words ≤ length (b ∷ bs)) (λ _. omega arith) (λ _. more)

-- the words of a line that begins with a word
pub words_of-append_word : (word rest : List ℕ) → 0 < length word → All (λ y. is_blank y ≡ false) word → ends_word rest ≡ true → words_of (word ++ rest) ≡ word ∷ words_of rest
words_of-append_word word rest some h ends =
    sym (map-placed_words 0 (word ++ rest))
    ∙ ap (map (λ w. w.1)) (placed_words-append_some 0 word rest some h ends)
    ∙ ap (λ words. word ∷ words) (map-placed_words (0 + length word) rest)

-- words with their places, without these
pub listed_words : (list : List Word) (line : List ℕ) → map word_view list ≡ placed_words 0 line → map (λ word. word.bytes.now) list ≡ words_of line
listed_words list line all = sym (map-map (λ (word : ℕ × List ℕ). word.1) word_view list) ∙ ap (map (λ word. word.1)) all ∙ map-placed_words 0 line

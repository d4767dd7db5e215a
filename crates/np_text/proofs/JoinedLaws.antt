-- A text of joined words reads back as these lines and words.
use Rattle.std.proofs.Common.{◌≡◌, ℕ, ◌<◌, ◌==◌, Bool, true, false, List, [], ◌∷◌, ◌++◌, length, map, All, sym, refl, ap, ◌∙◌, append-nil, append_assoc}
use Rattle.std.proofs.lemmas.List.{length-map}
use Rattle.std.specs.List.{flat_map, join_with_byte}
use Rattle.std.proofs.lemmas.Bool.{and_parts, not-true, ltb-true}
use Rattle.std.proofs.lemmas.List.Elements.{All-nil, All-cons, All-append, All-weaker}
use Rattle.std.proofs.lemmas.List.Sums.{AllPass-from_list_all}
use Rattle.np_text.proofs.LineLaws.{lines_of-append}
use Rattle.np_text.proofs.WordLaws.{words_of-append_word}
use Rattle.np_text.specs.Joined.{AreWords, AreLinesOfWords, is_word_byte, is_word, joined_line, joined_text}
use Rattle.np_text.specs.Lines.{lines_of}
use Rattle.np_text.specs.Words.{is_blank, words_of}

-- joined, each after the byte but for the first
pub join_with_byte-flat_map : (c : ℕ) (x : List ℕ) (xs : List (List ℕ)) → join_with_byte c (x ∷ xs) ≡ x ++ flat_map (λ y. c ∷ y) xs
join_with_byte-flat_map c x [] = sym (append-nil x)
join_with_byte-flat_map c x (y ∷ xs) = ap (λ l. x ++ (c ∷ l)) (join_with_byte-flat_map c y xs)

-- what a word is made of
word_some : (word : List ℕ) → is_word word ≡ true → 0 < length word
word_some word h = ltb-true 0 (length word) (and_parts _ _ h).0

word_bytes : (word : List ℕ) → is_word word ≡ true → All (λ b. is_word_byte b ≡ true) word
word_bytes word h = AllPass-from_list_all is_word_byte word (and_parts _ _ h).1

word_not_blank : (word : List ℕ) → is_word word ≡ true → All (λ b. is_blank b ≡ false) word
word_not_blank word h = All-weaker (λ b. is_word_byte b ≡ true) (λ b. is_blank b ≡ false) (λ b e. not-true (is_blank b) (and_parts _ _ e).0) word (word_bytes word h)

word_no_end : (word : List ℕ) → is_word word ≡ true → All (λ b. (b == 10) ≡ false) word
word_no_end word h = All-weaker (λ b. is_word_byte b ≡ true) (λ b. (b == 10) ≡ false) (λ b e. not-true (b == 10) (and_parts _ _ e).1) word (word_bytes word h)

-- words joined by spaces, and read again
pub words_of-join : (words : List (List ℕ)) → AreWords words → words_of (join_with_byte 32 words) ≡ words
words_of-join [] h = refl
words_of-join (word ∷ []) h =
    ap words_of (sym (append-nil word)) ∙ words_of-append_word word [] (word_some word h.0) (word_not_blank word h.0) refl
words_of-join (word ∷ next ∷ words) h =
    words_of-append_word word (32 ∷ join_with_byte 32 (next ∷ words)) (word_some word h.0) (word_not_blank word h.0) refl
    ∙ ap (λ others. word ∷ others) (words_of-join (next ∷ words) h.1)

pub words_of-joined_line : (indented : Bool) (words : List (List ℕ)) → AreWords words → words_of (joined_line indented words) ≡ words
words_of-joined_line true words h = words_of-join words h
words_of-joined_line false words h = words_of-join words h

join_no_end : (words : List (List ℕ)) → AreWords words → All (λ b. (b == 10) ≡ false) (join_with_byte 32 words)
join_no_end [] h = All-nil (λ b. (b == 10) ≡ false)
join_no_end (word ∷ []) h = word_no_end word h.0
join_no_end (word ∷ next ∷ words) h =
    All-append (λ b. (b == 10) ≡ false) word (32 ∷ join_with_byte 32 (next ∷ words)) (word_no_end word h.0)
    (All-cons (λ b. (b == 10) ≡ false) 32 (join_with_byte 32 (next ∷ words)) refl (join_no_end (next ∷ words) h.1))

pub joined_line_no_end : (indented : Bool) (words : List (List ℕ)) → AreWords words → All (λ b. (b == 10) ≡ false) (joined_line indented words)
joined_line_no_end true words h = All-cons (λ b. (b == 10) ≡ false) 32 (join_with_byte 32 words) refl (join_no_end words h)
joined_line_no_end false words h = join_no_end words h

-- the lines of such a text
pub lines_of-joined_text : (lines : List (Bool × List (List ℕ))) → AreLinesOfWords lines → lines_of (joined_text lines) ≡ map (λ line. joined_line line.0 line.1) lines
lines_of-joined_text [] h = refl
lines_of-joined_text (line ∷ lines) h =
    ap lines_of (append_assoc (joined_line line.0 line.1) (10 ∷ []) (joined_text lines))
    ∙ lines_of-append (joined_line line.0 line.1) (joined_text lines) (joined_line_no_end line.0 line.1 h.0)
    ∙ ap (λ others. joined_line line.0 line.1 ∷ others) (lines_of-joined_text lines h.1)

map-words_of-joined : (lines : List (Bool × List (List ℕ))) → AreLinesOfWords lines → map words_of (map (λ line. joined_line line.0 line.1) lines) ≡ map (λ line. line.1) lines
map-words_of-joined [] h = refl
map-words_of-joined (line ∷ lines) h =
    ap (λ words. words ∷ map words_of (map (λ l. joined_line l.0 l.1) lines)) (words_of-joined_line line.0 line.1 h.0)
    ∙ ap (λ others. line.1 ∷ others) (map-words_of-joined lines h.1)

-- and their words
pub words_of-joined_text : (lines : List (Bool × List (List ℕ))) → AreLinesOfWords lines → map words_of (lines_of (joined_text lines)) ≡ map (λ line. line.1) lines
words_of-joined_text lines h = ap (map words_of) (lines_of-joined_text lines h) ∙ map-words_of-joined lines h

-- there are as many lines as were joined
pub length-joined_text : (lines : List (Bool × List (List ℕ))) → AreLinesOfWords lines → length (lines_of (joined_text lines)) ≡ length lines
length-joined_text lines h = ap length (lines_of-joined_text lines h) ∙ length-map lines (λ line. joined_line line.0 line.1)

-- Plain words: printable bytes without a space, at least one. Names are such words, and a line of them is text whose words they are.
use Rattle.std.proofs.Common.{◌≡◌, ℕ, Bool, true, false, List, [], ◌∷◌, ◌++◌, length, refl, arith}
use Rattle.std.specs.Char.{is_ascii_alphabetic}
use Rattle.std.specs.List.{list_all, join_with_byte}
use Rattle.std.proofs.lemmas.Bool.{and_parts, and_from, lt-ltb}
use Rattle.std.proofs.lemmas.Bool.Decides.{nat_tests}
use Rattle.std.proofs.lemmas.List.Folds.{list_all-append}
use Rattle.np_text.specs.Joined.{AreWords, is_word, is_word_byte, joined_line}
use Rattle.np_net.specs.Names.{is_name_byte, is_interface_byte, is_file_byte, is_named_by, is_name, is_interface_name, is_file_name}
use Rattle.np_lines.specs.Skipping.{is_text_byte}
use Rattle.np_net_read.specs.Words.{ArePlainWords}

abbrev Words : Type 0
Words = List (List ℕ)

-- where each byte that passes one test passes another, so do lists
all_pass : (p q : ℕ → Bool) → ((b : ℕ) → p b ≡ true → q b ≡ true) → (bs : List ℕ) → list_all p bs ≡ true → list_all q bs ≡ true
all_pass p q each [] h = refl
all_pass p q each (b ∷ bs) h =
    let parts = and_parts (p b) (list_all p bs) h in
    and_from (q b) (list_all q bs) (each b parts.0) (all_pass p q each bs parts.1)

plain_parts : (word : List ℕ) → is_file_name word ≡ true → list_all is_file_byte word ≡ true
plain_parts word h = (and_parts _ _ h).1

-- ---- plain words are words

byte_in_word : (b : ℕ) → is_file_byte b ≡ true → is_word_byte b ≡ true
byte_in_word b h = grind (arith, nat_tests)

plain_word : (word : List ℕ) → is_file_name word ≡ true → is_word word ≡ true
plain_word word h = let parts = and_parts _ _ h in and_from _ _ parts.0 (all_pass is_file_byte is_word_byte byte_in_word word parts.1)

pub plain_words : (words : Words) → ArePlainWords words → AreWords words
plain_words [] h = tt
plain_words (word ∷ words) h = (plain_word word h.0, plain_words words h.1)

-- ---- a line of plain words is text

byte_in_text : (b : ℕ) → is_file_byte b ≡ true → is_text_byte b ≡ true
byte_in_text b h = grind (arith, nat_tests)

word_in_text : (word : List ℕ) → is_file_name word ≡ true → list_all is_text_byte word ≡ true
word_in_text word h = all_pass is_file_byte is_text_byte byte_in_text word (plain_parts word h)

line_in_text : (words : Words) → ArePlainWords words → list_all is_text_byte (join_with_byte 32 words) ≡ true
line_in_text [] h = refl
line_in_text (word ∷ []) h = word_in_text word h.0
line_in_text (word ∷ next ∷ words) h =
    rw (list_all-append is_text_byte word (32 ∷ join_with_byte 32 (next ∷ words)), word_in_text word h.0, line_in_text (next ∷ words) h.1) refl

pub plain_line : (words : Words) → ArePlainWords words → list_all is_text_byte (joined_line false words) ≡ true
plain_line words h = line_in_text words h

-- ---- more plain words

pub plain_append : (xs ys : Words) → ArePlainWords xs → ArePlainWords ys → ArePlainWords (xs ++ ys)
plain_append [] ys h k = k
plain_append (x ∷ xs) ys h k = (h.0, plain_append xs ys h.1 k)

-- ---- names are plain words

letter : (b : ℕ) → is_ascii_alphabetic b ≡ true → is_file_byte b ≡ true
letter b h = grind (arith, nat_tests)

name_byte : (b : ℕ) → is_name_byte b ≡ true → is_file_byte b ≡ true
name_byte b h = grind (arith, nat_tests)

interface_byte : (b : ℕ) → is_interface_byte b ≡ true → is_file_byte b ≡ true
interface_byte b h = grind (arith, nat_tests)

named_plain : (may : ℕ → Bool) → ((b : ℕ) → may b ≡ true → is_file_byte b ≡ true) → (word : List ℕ) → is_named_by may word ≡ true → is_file_name word ≡ true
named_plain may each [] h = cc
named_plain may each (b ∷ bs) h =
    let long = and_parts _ _ h in
    let parts = and_parts (is_ascii_alphabetic b) (list_all may bs) long.0 in
    rw (lt-ltb 0 (length (b ∷ bs)) (omega arith)) (and_from _ _ (letter b parts.0) (all_pass may is_file_byte each bs parts.1))

pub name_plain : (word : List ℕ) → is_name word ≡ true → is_file_name word ≡ true
name_plain word h = named_plain is_name_byte name_byte word (and_parts _ _ h).0

pub interface_name_plain : (word : List ℕ) → is_interface_name word ≡ true → is_file_name word ≡ true
interface_name_plain word h = named_plain is_interface_byte interface_byte word h

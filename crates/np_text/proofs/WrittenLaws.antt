-- What the calls of this crate write: prefixes read back, and numbers, addresses and prefixes are words.
use Rattle.std.proofs.Common.{◌≡◌, ℕ, ◌+◌, ◌/◌, ◌%◌, ◌^◌, ◌<◌, ◌≤◌, Bool, true, false, not, List, [], ◌∷◌, ◌++◌, length, take, drop, Some, All, sym, refl, ap, ◌∙◌, arith, length-append}
use Rattle.std.proofs.Math.Seq.{take-append_seam, drop-append-add}
use Rattle.std.specs.Char.{is_ascii_digit}
use Rattle.std.specs.Fmt.{decimal}
use Rattle.std.specs.List.{list_all, position_or_len, before_first, after_first}
use Rattle.std.specs.Str.{all_ascii_digits}
use Rattle.std.proofs.lemmas.Bool.{and_parts, and_from, cond-true, cond-false, lt-ltb, ltb-true}
use Rattle.std.proofs.lemmas.Bool.Decides.{nat_tests}
use Rattle.std.proofs.lemmas.Fmt.{digits_decimal, decimal_nonempty}
use Rattle.std.proofs.lemmas.List.Elements.{All-cons, All-append, All-head, All-tail}
use Rattle.std.proofs.lemmas.List.Folds.{list_all-append}
use Rattle.np_text.proofs.AddressLaws.{address_of-dotted, prefix_of-whole, prefix_of-front, decimal_no_other}
use Rattle.np_text.proofs.NumberLaws.{digits_by_test, number_of-decimal}
use Rattle.np_text.specs.Addresses.{is_slash, dotted, front_bits, prefix_of}
use Rattle.np_text.specs.Joined.{is_word_byte, is_word}

-- the first byte that passes stands behind a front where none does
position_or_len-append : (p : ℕ → Bool) (front : List ℕ) (b : ℕ) (rest : List ℕ) → All (λ y. p y ≡ false) front → p b ≡ true → position_or_len p (front ++ b ∷ rest) ≡ length front
position_or_len-append p [] b rest h passes = cond-false (not (p b)) _ 0 (ap not passes)
position_or_len-append p (c ∷ front) b rest h passes =
    cond-true (not (p c)) (1 + position_or_len p (front ++ b ∷ rest)) 0 (ap not (All-head (λ y. p y ≡ false) c front h))
    ∙ ap (λ n. 1 + n) (position_or_len-append p front b rest (All-tail (λ y. p y ≡ false) c front h) passes)
    ∙ omega arith

position_or_len-none : (p : ℕ → Bool) (bytes : List ℕ) → All (λ y. p y ≡ false) bytes → position_or_len p bytes ≡ length bytes
position_or_len-none p [] h = refl
position_or_len-none p (c ∷ bytes) h =
    cond-true (not (p c)) (1 + position_or_len p bytes) 0 (ap not (All-head (λ y. p y ≡ false) c bytes h))
    ∙ ap (λ n. 1 + n) (position_or_len-none p bytes (All-tail (λ y. p y ≡ false) c bytes h))
    ∙ omega arith

-- digits and a dot
octet_no_slash : (n : ℕ) (rest : List ℕ) → n < 256 → All (λ b. is_slash b ≡ false) rest → All (λ b. is_slash b ≡ false) (decimal n ++ 46 ∷ rest)
octet_no_slash n rest small h =
    All-append (λ b. is_slash b ≡ false) (decimal n) (46 ∷ rest) (decimal_no_other 47 n (λ out. omega (arith, out.0)) (omega arith))
    (All-cons (λ b. is_slash b ≡ false) 46 rest refl h)

dotted_no_slash : (address : ℕ) → All (λ b. is_slash b ≡ false) (dotted address)
unfolding dotted
dotted_no_slash address =
    octet_no_slash (address / 16777216 % 256) _ (omega arith)
    (octet_no_slash (address / 65536 % 256) _ (omega arith)
    (octet_no_slash (address / 256 % 256) _ (omega arith) (decimal_no_other 47 (address % 256) (λ out. omega (arith, out.0)) (omega arith))))

-- an address alone reads as a prefix of length 32
pub prefix_of-dotted : (address : ℕ) → address < 2 ^ 32 → prefix_of (dotted address) ≡ Some (address, 32)
prefix_of-dotted address small =
    rw (prefix_of-whole (dotted address) (position_or_len-none is_slash (dotted address) (dotted_no_slash address)), address_of-dotted address small) refl

-- an address and a length read as the prefix of that length
pub prefix_of-written : (address bits : ℕ) → address < 2 ^ 32 → bits ≤ 32 → prefix_of (dotted address ++ 47 ∷ decimal bits) ≡ Some (front_bits address bits, bits)
prefix_of-written address bits small low =
    let word = dotted address ++ 47 ∷ decimal bits in
    let place = position_or_len-append is_slash (dotted address) 47 (decimal bits) (dotted_no_slash address) refl in
    let inside : position_or_len is_slash word < length word = omega (arith, place, length-append (dotted address) (47 ∷ decimal bits)) in
    let before : dotted address ≡ before_first is_slash word = sym (ap (λ n. take n word) place ∙ take-append_seam (dotted address) (47 ∷ decimal bits)) in
    let behind : decimal bits ≡ after_first is_slash word = sym (ap (λ n. drop (n + 1) word) place ∙ drop-append-add (dotted address) (47 ∷ decimal bits) 1) in
    rw (prefix_of-front word (dotted address) (decimal bits) inside before behind, address_of-dotted address small, number_of-decimal bits 32 (omega arith) low) refl

digit_is_word_byte : (b : ℕ) → is_ascii_digit b ≡ true → is_word_byte b ≡ true
digit_is_word_byte b h = grind (arith, nat_tests)

digits_are_word_bytes : (ds : List ℕ) → all_ascii_digits ds ≡ true → list_all is_word_byte ds ≡ true
digits_are_word_bytes [] h = refl
digits_are_word_bytes (d ∷ ds) h =
    and_from _ _ (digit_is_word_byte d (and_parts _ _ h).0) (digits_are_word_bytes ds (and_parts _ _ h).1)

decimal_bytes : (n : ℕ) → n < 2 ^ 64 → list_all is_word_byte (decimal n) ≡ true
decimal_bytes n small = digits_are_word_bytes (decimal n) (digits_decimal digits_by_test n small)

-- a number in decimal is a word
pub is_word-decimal : (n : ℕ) → n < 2 ^ 64 → is_word (decimal n) ≡ true
is_word-decimal n small = and_from _ _ (lt-ltb 0 (length (decimal n)) (decimal_nonempty n small)) (decimal_bytes n small)

-- a word with further word bytes behind it is a word
pub is_word-append : (word more : List ℕ) → is_word word ≡ true → list_all is_word_byte more ≡ true → is_word (word ++ more) ≡ true
is_word-append word more h rest =
    let some = ltb-true 0 (length word) (and_parts _ _ h).0 in
    and_from _ _ (lt-ltb 0 (length (word ++ more)) (omega (arith, length-append word more)))
    (list_all-append is_word_byte word more ∙ and_from _ _ (and_parts _ _ h).1 rest)

-- bytes of a word, with a number behind them
bytes_decimal : (n : ℕ) (rest : List ℕ) → n < 2 ^ 64 → list_all is_word_byte rest ≡ true → list_all is_word_byte (decimal n ++ 46 ∷ rest) ≡ true
bytes_decimal n rest small h = list_all-append is_word_byte (decimal n) (46 ∷ rest) ∙ and_from _ _ (decimal_bytes n small) h

-- an address is a word
pub is_word-dotted : (address : ℕ) → is_word (dotted address) ≡ true
unfolding dotted
is_word-dotted address =
    let rest = bytes_decimal (address / 65536 % 256) _ (omega arith) (bytes_decimal (address / 256 % 256) _ (omega arith) (decimal_bytes (address % 256) (omega arith))) in
    is_word-append (decimal (address / 16777216 % 256)) _ (is_word-decimal _ (omega arith)) rest

-- so is a prefix with its length
pub is_word-prefix : (address bits : ℕ) → bits ≤ 32 → is_word (dotted address ++ 47 ∷ decimal bits) ≡ true
is_word-prefix address bits low = is_word-append (dotted address) (47 ∷ decimal bits) (is_word-dotted address) (decimal_bytes bits (omega arith))

-- The words that canonical entries are made of, one by one.
use Rattle.std.proofs.Common.{◌≡◌, ℕ, ◌<◌, ◌^◌, ◌/◌, ◌%◌, Bool, true, false, List, [], ◌∷◌, ◌++◌, length, None, refl, arith}
use Rattle.std.specs.Prelude.{◌&&◌, not, Ok}
use Rattle.std.specs.Char.{is_ascii_digit}
use Rattle.std.specs.Fmt.{decimal}
use Rattle.std.specs.List.{list_all, list_any}
use Rattle.std.specs.Str.{all_ascii_digits, bytes_eq}
use Rattle.std.proofs.lemmas.Bool.{and_parts, lt-ltb}
use Rattle.std.proofs.lemmas.Fmt.{decimal_nonempty, digits_decimal}
use Rattle.std.proofs.lemmas.Slice.Eq.{bytes_eq-Decides}
use Rattle.np_text.specs.Addresses.{dotted}
use Rattle.np_text.specs.Numbers.{is_numeral, number_of}
use Rattle.np_text.proofs.NumberLaws.{digits_by_test}
use Rattle.np_acl.specs.Tables as tables
use Rattle.np_acl.specs.Tables.{icmp_table, tcp_table, udp_table}
use Rattle.np_acl.specs.declared.kinds.PortNames.{PortNames}
use Rattle.np_acl.specs.declared.kinds.PortNames.TheVariants.{Tcp, Udp}
use Rattle.np_entry_read.specs.Entries.{is_port}
use Rattle.np_entry_read.specs.Words.{entry_word, is_unsupported, unsupported_words}

-- ---- words that begin with a digit

-- a word begins with a digit
abbrev pub begins_digit : List ℕ → Bool
begins_digit [] = false
begins_digit (b ∷ bs) = is_ascii_digit b

-- such a word is none that doesn't
pub other_word : (word name : List ℕ) → begins_digit word ≡ true → begins_digit name ≡ false → bytes_eq word name ≡ false
other_word word name digit letter = by (bytes_eq word name) refl where
  by : (b : Bool) → bytes_eq word name ≡ b → b ≡ false
  by false is = refl
  by true is = let same : word ≡ name = (bytes_eq-Decides word name).0 is in cc

none_of : (word : List ℕ) (names : List (List ℕ)) → begins_digit word ≡ true → list_all (λ name. not (begins_digit name)) names ≡ true → list_any (bytes_eq word) names ≡ false
none_of word [] digit letters = refl
none_of word (name ∷ names) digit letters =
    let parts = and_parts (not (begins_digit name)) (list_all (λ name. not (begins_digit name)) names) letters in
    rw (other_word word name digit (letter (begins_digit name) parts.0), none_of word names digit parts.1) refl
  where
    letter : (b : Bool) → not b ≡ true → b ≡ false
    letter false is = refl
    letter true is = cc

-- it is not unsupported
pub supported_digit : (word : List ℕ) → begins_digit word ≡ true → is_unsupported word ≡ false
unfolding unsupported_words
supported_digit word digit = none_of word unsupported_words digit refl

-- no table names it
not_named : {T : Type 0} (word : List ℕ) (table : List (List ℕ × T)) → begins_digit word ≡ true → list_all (λ e. not (begins_digit e.0)) table ≡ true → tables.named table word ≡ None
not_named word [] digit letters = refl
not_named word (e ∷ table) digit letters =
    let parts = and_parts (not (begins_digit e.0)) (list_all (λ e. not (begins_digit e.0)) table) letters in
    rw (other_word word e.0 digit (letter (begins_digit e.0) parts.0), not_named word table digit parts.1) refl
  where
    letter : (b : Bool) → not b ≡ true → b ≡ false
    letter false is = refl
    letter true is = cc

-- ---- numbers

first_of_digits : (word : List ℕ) → 0 < length word → all_ascii_digits word ≡ true → begins_digit word ≡ true
first_of_digits [] some digits = absurd (omega arith)
first_of_digits (b ∷ bs) some digits = (and_parts (is_ascii_digit b) (all_ascii_digits bs) digits).0

-- a number begins with a digit
pub decimal_digit : (n : ℕ) → n < 2 ^ 64 → begins_digit (decimal n) ≡ true
decimal_digit n small = first_of_digits (decimal n) (decimal_nonempty n small) (digits_decimal digits_by_test n small)

-- and is a numeral
pub numeral_decimal : (n : ℕ) → n < 2 ^ 64 → is_numeral (decimal n) ≡ true
numeral_decimal n small = rw (lt-ltb 0 (length (decimal n)) (decimal_nonempty n small), digits_decimal digits_by_test n small) refl

-- ---- addresses

digit_before : (word more : List ℕ) → begins_digit word ≡ true → begins_digit (word ++ more) ≡ true
digit_before [] more digit = cc
digit_before (b ∷ bs) more digit = digit

-- an address begins with a digit
pub dotted_digit : (address : ℕ) → begins_digit (dotted address) ≡ true
unfolding dotted
dotted_digit address = digit_before (decimal (address / 16777216 % 256)) _ (decimal_digit _ (omega arith))

dot_between : (word more : List ℕ) → all_ascii_digits (word ++ 46 ∷ more) ≡ false
dot_between [] more = refl
dot_between (b ∷ bs) more = rw (dot_between bs more) (none (is_ascii_digit b)) where
  none : (b : Bool) → (b && false) ≡ false
  none true = refl
  none false = refl

dotted_no_numeral : (address : ℕ) → all_ascii_digits (dotted address) ≡ false
unfolding dotted
dotted_no_numeral address = dot_between (decimal (address / 16777216 % 256)) _

-- it is no number
pub dotted_not_numeral : (address : ℕ) → is_numeral (dotted address) ≡ false
dotted_not_numeral address = rw (dotted_no_numeral address) (none _) where
  none : (b : Bool) → (b && false) ≡ false
  none true = refl
  none false = refl

dotted_no_number : (address max : ℕ) → number_of (dotted address) max ≡ None
unfolding number_of
dotted_no_number address max = rw (dotted_not_numeral address) refl

-- nor a port
pub dotted_no_port : (names : PortNames) (address : ℕ) → is_port names (dotted address) ≡ false
unfolding tables.port_of tcp_table udp_table
dotted_no_port Tcp address = rw (dotted_not_numeral address, dotted_no_number address 65535, not_named (dotted address) tcp_table (dotted_digit address) refl) refl
dotted_no_port Udp address = rw (dotted_not_numeral address, dotted_no_number address 65535, not_named (dotted address) udp_table (dotted_digit address) refl) refl

-- ---- the first word

-- a word of an entry that is supported is read
pub word_read : (word : List ℕ) (rest : List (List ℕ)) → is_unsupported word ≡ false → entry_word (word ∷ rest) ≡ Ok (word, rest)
word_read word rest supported = rw supported refl

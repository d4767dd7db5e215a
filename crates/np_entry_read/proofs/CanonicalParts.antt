-- The parts of canonical entries read back.
use Rattle.std.proofs.Common.{◌≡◌, ℕ, ◌-◌, ◌<◌, ◌≤◌, Bool, true, false, List, [], ◌∷◌, ◌++◌, bit_and, nat_le, Some, refl, sym, ap, ◌∙◌, arith}
use Rattle.std.specs.Prelude.{◌&&◌, ◌||◌, not, ◌==◌, Ok, codes, if◌then◌else◌}
use Rattle.std.specs.Fmt.{decimal}
use Rattle.std.specs.Str.{bytes_eq}
use Rattle.std.proofs.lemmas.Bool.{and_parts, eqb-true, leb-true, le-leb}
use Rattle.std.specs.Int.Bits.{and_lt}
use Rattle.np_text.specs.Addresses.{dotted}
use Rattle.np_text.specs.Numbers.{number_of}
use Rattle.np_text.proofs.AddressLaws.{address_of-dotted}
use Rattle.np_text.proofs.NumberLaws.{number_of-decimal}
use Rattle.np_space.specs.Bit.{has_bit}
use Rattle.np_space.specs.Patterns.{any_address, pattern}
use Rattle.np_space.specs.Span.{span_from}
use Rattle.np_space.specs.declared.patterns.Ternary.{Ternary}
use Rattle.np_space.specs.declared.spans.Span.{Span}
use Rattle.np_space.proofs.BitLemmas.{bit-and, bit-not, bit-zero, same_from_has_bit}
use Rattle.np_space.proofs.MadeLemmas.{same_ternary, span_from-own, value-pattern, wild-pattern}
use Rattle.np_space.proofs.PatternLemmas.{wild_clear}
use Rattle.np_acl.specs.Spans.{any_number}
use Rattle.np_acl.specs.Tables as tables
use Rattle.np_acl.specs.Tables.{protocol_table, tcp_table, udp_table, icmp_table, dscp_table}
use Rattle.np_acl.specs.declared.kinds.PortNames.{PortNames}
use Rattle.np_acl.specs.declared.kinds.PortNames.TheVariants.{Tcp, Udp}
use Rattle.np_entry_read.specs.Canonical.{address_words, is_all, is_one, port_words, protocol_word}
use Rattle.np_entry_read.specs.Entries.{addresses_in, more_ports, port_in, port_tests, ports_in, range_in, tests_in}
use Rattle.np_entry_read.specs.Words.{entry_word, is_unsupported, unsupported_words}
use Rattle.np_entry_read.proofs.CanonicalWords.{begins_digit, decimal_digit, dotted_digit, other_word, supported_digit, word_read}

-- ---- spans

-- a span from its two numbers
pub span_of : (s : Span) (low high : ℕ) → s.low ≡ low → s.high ≡ high → span_from low high ≡ s
span_of s low high l h = ap (λ n. span_from n high) (sym l) ∙ ap (λ n. span_from s.low n) (sym h) ∙ span_from-own s

-- the span of every number
pub all_is : (greatest : ℕ) (s : Span) → is_all greatest s ≡ true → span_from 0 greatest ≡ s
all_is greatest s all = let parts = and_parts (s.low == 0) (s.high == greatest) all in span_of s 0 greatest (eqb-true s.low 0 parts.0) (eqb-true s.high greatest parts.1)

-- the span of one number
pub one_is : (greatest : ℕ) (s : Span) → is_one greatest s ≡ true → span_from s.low s.low ≡ s
one_is greatest s one = let parts = and_parts (s.low == s.high) (nat_le s.high greatest) one in span_of s s.low s.low refl (sym (eqb-true s.low s.high parts.0))

-- its number is within the greatest
pub one_small : (greatest : ℕ) (s : Span) → is_one greatest s ≡ true → s.low ≤ greatest
one_small greatest s one =
    let parts = and_parts (s.low == s.high) (nat_le s.high greatest) one in
    let same = eqb-true s.low s.high parts.0 in
    let small = leb-true s.high greatest parts.1 in
    omega arith

-- ---- protocols

named_protocol : (proto : Span) (n : ℕ) → proto.low ≡ n → is_one 255 proto ≡ true → span_from n n ≡ proto
named_protocol proto n is one = ap (λ m. span_from m m) (sym is) ∙ one_is 255 proto one

numbered_protocol : (n : ℕ) → n ≤ 255 → tables.protocol_of (decimal n) ≡ Some (span_from n n)
unfolding tables.protocol_of
numbered_protocol n small = rw (other_word (decimal n) (codes "ip") (decimal_digit n (omega arith)) refl, number_of-decimal n 255 (omega arith) small) refl

-- the word of protocols gives them
pub protocol_read : (proto : Span) → (is_all 255 proto || is_one 255 proto) ≡ true → tables.protocol_of (protocol_word proto) ≡ Some proto
unfolding protocol_word tables.protocol_of protocol_table number_of
protocol_read proto fits = by (is_all 255 proto) refl fits where
  by_17 : (b : Bool) → (proto.low == 17) ≡ b → is_one 255 proto ≡ true → tables.protocol_of (if b then codes "udp" else decimal proto.low) ≡ Some proto
  by_17 true is one = ap (λ s. Some s) (named_protocol proto 17 (eqb-true proto.low 17 is) one)
  by_17 false is one = numbered_protocol proto.low (one_small 255 proto one) ∙ ap (λ s. Some s) (one_is 255 proto one)

  by_6 : (b : Bool) → (proto.low == 6) ≡ b → is_one 255 proto ≡ true → tables.protocol_of (if b then codes "tcp" else (if proto.low == 17 then codes "udp" else decimal proto.low)) ≡ Some proto
  by_6 true is one = ap (λ s. Some s) (named_protocol proto 6 (eqb-true proto.low 6 is) one)
  by_6 false is one = by_17 (proto.low == 17) refl one

  by_1 : (b : Bool) → (proto.low == 1) ≡ b → is_one 255 proto ≡ true → tables.protocol_of (if b then codes "icmp" else (if proto.low == 6 then codes "tcp" else (if proto.low == 17 then codes "udp" else decimal proto.low))) ≡ Some proto
  by_1 true is one = ap (λ s. Some s) (named_protocol proto 1 (eqb-true proto.low 1 is) one)
  by_1 false is one = by_6 (proto.low == 6) refl one

  by : (b : Bool) → is_all 255 proto ≡ b → (b || is_one 255 proto) ≡ true
      → tables.protocol_of (if b then codes "ip" else (if proto.low == 1 then codes "icmp" else (if proto.low == 6 then codes "tcp" else (if proto.low == 17 then codes "udp" else decimal proto.low)))) ≡ Some proto
  by true is one = ap (λ s. Some s) (all_is 255 proto is)
  by false is one = by_1 (proto.low == 1) refl one

-- and is supported
pub protocol_supported : (proto : Span) → is_unsupported (protocol_word proto) ≡ false
unfolding protocol_word unsupported_words
protocol_supported proto = by (is_all 255 proto) (proto.low == 1) (proto.low == 6) (proto.low == 17) where
  by : (all one six seventeen : Bool) → is_unsupported (if all then codes "ip" else (if one then codes "icmp" else (if six then codes "tcp" else (if seventeen then codes "udp" else decimal proto.low)))) ≡ false
  by true one six seventeen = refl
  by false true six seventeen = refl
  by false false true seventeen = refl
  by false false false true = refl
  by false false false false = supported_digit (decimal proto.low) (decimal_digit proto.low (omega (arith, proto.ordered, proto.width)))

-- ---- addresses

-- a pattern is made of its value and its wild bits
pub pattern-own : (p : Ternary) → pattern p.value p.wild ≡ p
pattern-own p =
    same_ternary (pattern p.value p.wild) p
    (sym (value-pattern p.value p.wild p.value_width p.wild_width) ∙ kept)
    (sym (wild-pattern p.value p.wild p.wild_width))
  where
    fixed : (w v : Bool) → (w ≡ true → v ≡ false) → (v && not w) ≡ v
    fixed true v clear = rw (clear refl) refl
    fixed false true clear = refl
    fixed false false clear = refl

    below : (i : ℕ) → i < 32 → has_bit (bit_and p.value (4294967295 - p.wild)) i ≡ has_bit p.value i
    below i l =
        bit-and p.value (4294967295 - p.wild) i
        ∙ ap (λ b. has_bit p.value i && b) (bit-not p.wild i p.wild_width l)
        ∙ fixed (has_bit p.wild i) (has_bit p.value i) (wild_clear p i)

    kept : bit_and p.value (4294967295 - p.wild) ≡ p.value
    kept = same_from_has_bit (bit_and p.value (4294967295 - p.wild)) p.value (and_lt 32 p.value (4294967295 - p.wild) p.value_width (omega arith)) p.value_width below

-- a pattern whose bits are all wild has every address
pub any_is : (p : Ternary) → p.wild ≡ 4294967295 → any_address ≡ p
unfolding any_address
any_is p all = same_ternary any_address p (sym none) (sym all)
  where
    ones : (i : ℕ) → i < 32 → has_bit 4294967295 i ≡ true
    ones i l = bit-not 0 i (omega arith) l ∙ ap not (bit-zero i)

    none : p.value ≡ 0
    none = same_from_has_bit p.value 0 p.value_width (omega arith) (λ i l. wild_clear p i (ap (λ w. has_bit w i) all ∙ ones i l) ∙ sym (bit-zero i))

-- the words after an address or a wildcard
address_after : (address : ℕ) (rest : List (List ℕ)) → entry_word (dotted address ∷ rest) ≡ Ok (dotted address, rest)
address_after address rest = word_read (dotted address) rest (supported_digit (dotted address) (dotted_digit address))

-- the words of addresses give them
pub addresses_read : (p : Ternary) (rest : List (List ℕ)) → addresses_in (address_words p ++ rest) ≡ Ok (p, rest)
unfolding addresses_in address_words unsupported_words
addresses_read p rest = by (p.wild == 4294967295) refl where
  other : (name : List ℕ) → begins_digit name ≡ false → bytes_eq (dotted p.value) name ≡ false
  other name letter = other_word (dotted p.value) name (dotted_digit p.value) letter

  by_host : (b : Bool) → (p.wild == 0) ≡ b → addresses_in ((if b then codes "host" ∷ dotted p.value ∷ [] else dotted p.value ∷ dotted p.wild ∷ []) ++ rest) ≡ Ok (p, rest)
  by_host true is =
      rw (address_after p.value rest, address_of-dotted p.value p.value_width)
      (ap (λ w. Ok (pattern p.value w, rest)) (sym (eqb-true p.wild 0 is)) ∙ ap (λ q. Ok (q, rest)) (pattern-own p))
  by_host false is =
      rw (
        address_after p.value (dotted p.wild ∷ rest),
        other (codes "any") refl,
        other (codes "host") refl,
        address_of-dotted p.value p.value_width,
        address_after p.wild rest,
        address_of-dotted p.wild p.wild_width,
      ) (ap (λ q. Ok (q, rest)) (pattern-own p))

  by : (b : Bool) → (p.wild == 4294967295) ≡ b → addresses_in ((if b then codes "any" ∷ [] else (if p.wild == 0 then codes "host" ∷ dotted p.value ∷ [] else dotted p.value ∷ dotted p.wild ∷ [])) ++ rest) ≡ Ok (p, rest)
  by true is = ap (λ q. Ok (q, rest)) (any_is p (eqb-true p.wild 4294967295 is))
  by false is = by_host (p.wild == 0) refl

-- ---- ports

-- a keyword of ports
abbrev pub is_port_keyword : List ℕ → Bool
is_port_keyword word = bytes_eq word (codes "eq") || bytes_eq word (codes "neq") || bytes_eq word (codes "lt") || bytes_eq word (codes "gt") || bytes_eq word (codes "range")

-- the words go on with no ports, and begin none
pub record EndPorts (names : PortNames) (words : List (List ℕ)) : Type 0 where
  pub no_more : more_ports names 1 words ≡ Ok ([], words)
  pub none : tests_in names words ≡ Ok (any_number ∷ [], words)

port_word : (names : PortNames) (n : ℕ) → n ≤ 65535 → tables.port_of (decimal n) names ≡ Some n
unfolding tables.port_of
port_word Tcp n small = rw (number_of-decimal n 65535 (omega arith) small) refl
port_word Udp n small = rw (number_of-decimal n 65535 (omega arith) small) refl

port_read : (names : PortNames) (n : ℕ) (rest : List (List ℕ)) → n ≤ 65535 → port_in names (decimal n ∷ rest) ≡ Ok (n, rest)
unfolding port_in
port_read names n rest small =
    rw (word_read (decimal n) rest (supported_digit (decimal n) (decimal_digit n (omega arith))), port_word names n small) refl

-- the words of ports give them, where nothing follows that goes on with them
pub ports_read : (names : PortNames) (s : Span) (rest : List (List ℕ)) → EndPorts names rest → port_tests (Some names) (port_words s ++ rest) ≡ Ok (s ∷ [], rest)
unfolding port_tests port_words ports_in range_in
ports_read names s rest ends = by (is_all 65535 s) refl where
  by_one : (b : Bool) → (s.low == s.high) ≡ b → tests_in names ((if b then codes "eq" ∷ decimal s.low ∷ [] else codes "range" ∷ decimal s.low ∷ decimal s.high ∷ []) ++ rest) ≡ Ok (s ∷ [], rest)
  by_one true is =
      rw (port_read names s.low rest (omega (arith, s.ordered, s.width)), ends.no_more)
      (ap (λ t. Ok (t ∷ [], rest)) (ap (λ n. span_from s.low n) (eqb-true s.low s.high is) ∙ span_from-own s))
  by_one false is =
      rw (port_read names s.low (decimal s.high ∷ rest) (omega (arith, s.ordered, s.width)), port_read names s.high rest (omega (arith, s.width)), le-leb s.low s.high s.ordered)
      (ap (λ t. Ok (t ∷ [], rest)) (span_from-own s))

  by : (b : Bool) → is_all 65535 s ≡ b → tests_in names ((if b then [] else (if s.low == s.high then codes "eq" ∷ decimal s.low ∷ [] else codes "range" ∷ decimal s.low ∷ decimal s.high ∷ [])) ++ rest) ≡ Ok (s ∷ [], rest)
  by true is = ends.none ∙ ap (λ t. Ok (t ∷ [], rest)) (all_is 65535 s is)
  by false is = by_one (s.low == s.high) refl

-- The canonical words of an entry are words.
use Rattle.std.proofs.Common.{◌≡◌, ℕ, Bool, true, false, List, [], ◌∷◌, ◌++◌, refl, arith}
use Rattle.std.specs.Prelude.{◌||◌, ◌==◌, codes, if◌then◌else◌}
use Rattle.std.specs.Fmt.{decimal}
use Rattle.np_text.specs.Addresses.{dotted}
use Rattle.np_text.specs.Joined.{AreWords, is_word}
use Rattle.np_text.proofs.WrittenLaws.{is_word-decimal, is_word-dotted}
use Rattle.np_space.specs.declared.patterns.Ternary.{Ternary}
use Rattle.np_space.specs.declared.spans.Span.{Span}
use Rattle.np_acl.specs.declared.entries.Entry.{Entry}
use Rattle.np_entry_read.specs.Canonical.{address_words, dscp_words, entry_words, established_words, is_all, number_words, octet_words, port_words, protocol_word, source_words}
use Rattle.np_entry_read.specs.Entries.{is_protocol}

-- words after words
words_after : (xs ys : List (List ℕ)) → AreWords xs → AreWords ys → AreWords (xs ++ ys)
words_after [] ys first second = second
words_after (x ∷ xs) ys first second = (first.0, words_after xs ys first.1 second)

-- a port is one
low_word : (s : Span) → is_word (decimal s.low) ≡ true
low_word s = is_word-decimal s.low (omega (arith, s.ordered, s.width))

high_word : (s : Span) → is_word (decimal s.high) ≡ true
high_word s = is_word-decimal s.high (omega (arith, s.width))

protocol_is_word : (proto : Span) → is_word (protocol_word proto) ≡ true
unfolding protocol_word
protocol_is_word proto = by (is_all 255 proto) (proto.low == 1) (proto.low == 6) (proto.low == 17) where
  by : (all one six seventeen : Bool) → is_word (if all then codes "ip" else (if one then codes "icmp" else (if six then codes "tcp" else (if seventeen then codes "udp" else decimal proto.low)))) ≡ true
  by true one six seventeen = refl
  by false true six seventeen = refl
  by false false true seventeen = refl
  by false false false true = refl
  by false false false false = low_word proto

addresses_are_words : (p : Ternary) → AreWords (address_words p)
unfolding address_words
addresses_are_words p = by (p.wild == 4294967295) (p.wild == 0) where
  by : (all none : Bool) → AreWords (if all then codes "any" ∷ [] else (if none then codes "host" ∷ dotted p.value ∷ [] else dotted p.value ∷ dotted p.wild ∷ []))
  by true none = (refl, tt)
  by false true = (refl, (is_word-dotted p.value, tt))
  by false false = (is_word-dotted p.value, (is_word-dotted p.wild, tt))

ports_are_words : (s : Span) → AreWords (port_words s)
unfolding port_words
ports_are_words s = by (is_all 65535 s) (s.low == s.high) where
  by : (all one : Bool) → AreWords (if all then [] else (if one then codes "eq" ∷ decimal s.low ∷ [] else codes "range" ∷ decimal s.low ∷ decimal s.high ∷ []))
  by true one = tt
  by false true = (refl, (low_word s, tt))
  by false false = (refl, (low_word s, (high_word s, tt)))

octet_is_words : (s : Span) → AreWords (octet_words s)
unfolding octet_words
octet_is_words s = by (is_all 65535 s) where
  by : (all : Bool) → AreWords (if all then [] else decimal s.low ∷ [])
  by true = tt
  by false = (low_word s, tt)

source_is_words : (proto a : Span) → AreWords (source_words proto a)
source_is_words proto a = by (is_protocol 6 proto || is_protocol 17 proto) where
  by : (b : Bool) → AreWords (if b then port_words a else [])
  by true = ports_are_words a
  by false = tt

numbers_are_words : (proto a b : Span) → AreWords (number_words proto a b)
numbers_are_words proto a b = by (is_protocol 1 proto) where
  by : (one : Bool) → AreWords (if one then octet_words a ++ octet_words b else source_words proto b)
  by true = words_after (octet_words a) (octet_words b) (octet_is_words a) (octet_is_words b)
  by false = source_is_words proto b

dscp_is_words : (s : Span) → AreWords (dscp_words s)
unfolding dscp_words
dscp_is_words s = by (is_all 63 s) where
  by : (all : Bool) → AreWords (if all then [] else codes "dscp" ∷ decimal s.low ∷ [])
  by true = tt
  by false = (refl, (low_word s, tt))

established_is_words : (s : Span) → AreWords (established_words s)
unfolding established_words
established_is_words s = by (is_all 1 s) where
  by : (all : Bool) → AreWords (if all then [] else codes "established" ∷ [])
  by true = tt
  by false = (refl, tt)

-- so are all words of an entry
pub entry_is_words : (e : Entry) (a b : Span) → AreWords (entry_words e a b)
unfolding entry_words
entry_is_words e a b = (
  protocol_is_word e.proto,
  words_after (address_words e.src) _ (addresses_are_words e.src)
      (words_after (source_words e.proto a) _ (source_is_words e.proto a)
      (words_after (address_words e.dst) _ (addresses_are_words e.dst)
      (words_after (number_words e.proto a b) _ (numbers_are_words e.proto a b)
      (words_after (dscp_words e.dscp) (established_words e.est) (dscp_is_words e.dscp) (established_is_words e.est))))),
)

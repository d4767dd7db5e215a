-- The canonical words of an entry after `permit` or `deny`, and which entries have them.
use Rattle.std.specs.Prelude.{◌≡◌, ℕ, Bool, true, ◌&&◌, ◌||◌, ◌==◌, nat_le, List, [], ◌∷◌, ◌++◌, codes, if◌then◌else◌}
use Rattle.std.specs.Fmt.{decimal}
use Rattle.np_text.specs.Addresses.{dotted}
use Rattle.np_space.specs.declared.patterns.Ternary.{Ternary}
use Rattle.np_space.specs.declared.spans.Span.{Span}
use Rattle.np_acl.specs.declared.entries.Entry.{Entry}
use Rattle.np_entry_read.specs.Entries.{is_protocol}

-- every number up to the greatest
abbrev pub is_all : ℕ → Span → Bool
is_all greatest s = s.low == 0 && s.high == greatest

-- one number up to the greatest
abbrev pub is_one : ℕ → Span → Bool
is_one greatest s = s.low == s.high && nat_le s.high greatest

-- the word of protocols
unfoldable pub protocol_word : Span → List ℕ
protocol_word proto =
    if is_all 255 proto then codes "ip" else
    (if proto.low == 1 then codes "icmp" else
    (if proto.low == 6 then codes "tcp" else
    (if proto.low == 17 then codes "udp" else
    decimal proto.low)))

-- the words of addresses: `any`, `host` and an address, or an address and a wildcard
unfoldable pub address_words : Ternary → List (List ℕ)
address_words p =
    if p.wild == 4294967295 then codes "any" ∷ [] else
    (if p.wild == 0 then codes "host" ∷ dotted p.value ∷ [] else
    dotted p.value ∷ dotted p.wild ∷ [])

-- the words of ports: none where they are all, or `eq` and one, or `range` and two
unfoldable pub port_words : Span → List (List ℕ)
port_words s =
    if is_all 65535 s then [] else
    (if s.low == s.high then codes "eq" ∷ decimal s.low ∷ [] else
    codes "range" ∷ decimal s.low ∷ decimal s.high ∷ [])

-- the word of a type or a code, where it is one
unfoldable pub octet_words : Span → List (List ℕ)
octet_words s = if is_all 65535 s then [] else decimal s.low ∷ []

-- the words of ports, where the protocol has ports
abbrev pub source_words : Span → Span → List (List ℕ)
source_words proto a = if is_protocol 6 proto || is_protocol 17 proto then port_words a else []

-- the words of the type and the code, or of the ports, after the destination
abbrev pub number_words : Span → Span → Span → List (List ℕ)
number_words proto a b = if is_protocol 1 proto then octet_words a ++ octet_words b else source_words proto b

-- the words of code points, where not all are named
unfoldable pub dscp_words : Span → List (List ℕ)
dscp_words s = if is_all 63 s then [] else codes "dscp" ∷ decimal s.low ∷ []

-- the word of an entry for established connections
unfoldable pub established_words : Span → List (List ℕ)
established_words s = if is_all 1 s then [] else codes "established" ∷ []

-- the canonical words of an entry whose ports, or types and codes, are these
unfoldable pub entry_words : Entry → Span → Span → List (List ℕ)
entry_words e a b =
    protocol_word e.proto ∷ (address_words e.src ++ (source_words e.proto a ++ (address_words e.dst
    ++ (number_words e.proto a b ++ (dscp_words e.dscp ++ established_words e.est)))))

-- the ports, or the types and codes, are such as this protocol has; a code stands only after a type
abbrev pub has_numbers : Span → Span → Span → Bool
has_numbers proto a b =
    if is_protocol 6 proto || is_protocol 17 proto then true else
    (if is_protocol 1 proto then (is_all 65535 a && is_all 65535 b) || (is_one 255 a && (is_all 65535 b || is_one 255 b)) else
    (is_all 65535 a && is_all 65535 b))

-- the entry has these ports, or types and codes, and its fields are such as canonical words say
pub record IsWritten (e : Entry) (a b : Span) : Type 0 where
  pub first : e.a ≡ a ∷ []
  pub second : e.b ≡ b ∷ []
  pub proto : (is_all 255 e.proto || is_one 255 e.proto) ≡ true
  pub numbers : has_numbers e.proto a b ≡ true
  pub dscp : (is_all 63 e.dscp || is_one 63 e.dscp) ≡ true
  pub est : (is_all 1 e.est || (e.est.low == 1 && e.est.high == 1 && is_protocol 6 e.proto)) ≡ true

-- What a header is worth: which are valid, the numbers of its fields, and the order by them.
use Rattle.std.specs.Prelude.{◌≡◌, ◌≢◌, ◌↔◌, ℕ, ◌<◌, ◌^◌, Bool, true, false, ◌&&◌, ◌||◌, not, ◌==◌, nat_lt, List, [], ◌∷◌, IsTrue, if◌then◌else◌}
use Rattle.std.specs.Ordering.{nat_cmp, is_le}
use Rattle.std.specs.Cmp.Lexicographic.{slice_cmp}
use Rattle.std.specs.declared.cmp.Ordering.{Ordering}
use Rattle.std.specs.declared.cmp.Ordering.TheVariants.{Equal}
use Rattle.np_space.specs.Flag.{flag_number}
use Rattle.np_space.specs.declared.headers.Header.{Header}

-- the header whose fields are all 0
abbrev pub zeros : Header
zeros = record { src = 0; dst = 0; proto = 0; a = 0; b = 0; est = false; dscp = 0 }

-- each field is a number of its width
abbrev pub has_widths : Header → Bool
has_widths h = nat_lt h.src (2 ^ 32) && nat_lt h.dst (2 ^ 32) && nat_lt h.proto (2 ^ 8) && nat_lt h.a (2 ^ 16) && nat_lt h.b (2 ^ 16) && nat_lt h.dscp (2 ^ 6)

-- the protocols 6 and 17 have ports, 1 has a type and a code below 256, and every other has neither
abbrev pub numbers_fit : ℕ → ℕ → ℕ → Bool
numbers_fit proto a b =
    if proto == 6 || proto == 17 then true else
    (if proto == 1 then nat_lt a 256 && nat_lt b 256 else (a == 0 && b == 0))

-- a header that a packet can have: `est` is set for protocol 6 only, and `a` and `b` fit the protocol
unfoldable pub is_valid_header : Header → Bool
is_valid_header h = has_widths h && (h.proto == 6 || not h.est) && numbers_fit h.proto h.a h.b

-- the same as a statement
abbrev pub IsValid : Header → Type 0
IsValid h = IsTrue (is_valid_header h)

-- the fields are numbers of their widths
pub record HasWidths (h : Header) : Type 0 where
  pub src : h.src < 2 ^ 32
  pub dst : h.dst < 2 ^ 32
  pub proto : h.proto < 2 ^ 8
  pub a : h.a < 2 ^ 16
  pub b : h.b < 2 ^ 16
  pub dscp : h.dscp < 2 ^ 6

-- validity said by protocols: 6 alone has the flag, the type and the code of 1 are below 256, and a
-- protocol without ports and types has 0 in their place
pub record IsPacketHeader (h : Header) : Type 0 where
  pub widths : HasWidths h
  pub flagged : h.est ≡ true → h.proto ≡ 6
  pub typed : h.proto ≡ 1 → (h.a < 256) × (h.b < 256)
  pub bare : h.proto ≢ 1 → h.proto ≢ 6 → h.proto ≢ 17 → (h.a ≡ 0) × (h.b ≡ 0)

-- exactly such headers are valid
abbrev pub ValidAsStated : Type 0
ValidAsStated = (h : Header) → IsValid h ↔ IsPacketHeader h

-- the fields as numbers, in the order in which they count
abbrev pub header_numbers : Header → List ℕ
header_numbers h = h.src ∷ h.dst ∷ h.proto ∷ h.a ∷ h.b ∷ flag_number h.est ∷ h.dscp ∷ []

-- lexicographic in the fields: the first field that differs decides
unfoldable pub header_order : Header → Header → Ordering
header_order x y = slice_cmp nat_cmp (header_numbers x) (header_numbers y)

-- only equal headers tie
abbrev pub TieOnlyWhenEqual : Type 0
TieOnlyWhenEqual = (x y : Header) → header_order x y ≡ Equal → x ≡ y

-- the first header is the second or stands before it
unfoldable pub header_le : Header → Header → Bool
header_le x y = is_le (header_order x y)

-- the least header of which the statement holds
pub record IsLeastOf (P : Header → Type 0) (x : Header) : Type 0 where
  pub has : P x
  pub least : (h : Header) → P h → IsTrue (header_le x h)

-- the least header that passes the test
abbrev pub IsLeast : (Header → Bool) → Header → Type 0
IsLeast member x = IsLeastOf (λ h. IsTrue (member h)) x

-- Which headers a block has, and how many of a list of blocks have a header.
use Rattle.std.specs.Prelude.{◌≡◌, ℕ, ◌+◌, ◌≤◌, Bool, false, ◌&&◌, List, [], ◌∷◌, count_by, AllPairs}
use Rattle.std.specs.List.{list_any}
use Rattle.std.proofs.Common.{arith}
use Rattle.np_space.specs.Flag.{flag_number}
use Rattle.np_space.specs.Span.{span_has, span_from, IsPartOf}
use Rattle.np_space.specs.Ternary.{ternary_has, IsNarrower}
use Rattle.np_space.specs.Patterns.{any_address}
use Rattle.np_space.specs.declared.headers.Header.{Header}
use Rattle.np_space.specs.declared.patterns.Ternary.{Ternary}
use Rattle.np_space.specs.declared.spans.Span.{Span}
use Rattle.np_space.specs.declared.blocks.Block.{Block}
use Rattle.np_space.specs.declared.blocks.AddressField.{AddressField}
use Rattle.np_space.specs.declared.blocks.AddressField.TheVariants.{Src, Dst}
use Rattle.np_space.specs.declared.blocks.SpanField.{SpanField}
use Rattle.np_space.specs.declared.blocks.SpanField.TheVariants.{Proto, A, B, Est, Dscp}

-- each field of the header is in its pattern or span
abbrev pub fields_have : Ternary → Ternary → Span → Span → Span → Span → Span → Header → Bool
fields_have src dst proto a b est dscp h =
    ternary_has src h.src && ternary_has dst h.dst && span_has proto h.proto && span_has a h.a && span_has b h.b && span_has est (flag_number h.est) && span_has dscp h.dscp

-- the block has the header
unfoldable pub block_has : Block → Header → Bool
block_has b h = fields_have b.src b.dst b.proto b.a b.b b.est b.dscp h

-- ---- the widest block

-- the protocols of a block end at 255
pub protocols_below : (span_from 0 255).high ≤ 255
unfolding span_from
protocols_below = omega arith

-- its flags at 1
pub flags_below : (span_from 0 1).high ≤ 1
unfolding span_from
flags_below = omega arith

-- its code points at 63
pub code_points_below : (span_from 0 63).high ≤ 63
unfolding span_from
code_points_below = omega arith

-- each field has every number of its width
abbrev pub everything : Block
everything =
    record {
      src = any_address;
      dst = any_address;
      proto = span_from 0 255;
      a = span_from 0 65535;
      b = span_from 0 65535;
      est = span_from 0 1;
      dscp = span_from 0 63;
      proto_width = protocols_below;
      est_width = flags_below;
      dscp_width = code_points_below;
    }

-- ---- a block with one field changed

-- the pattern of an address field
abbrev pub address_of : AddressField → Block → Ternary
address_of Src b = b.src
address_of Dst b = b.dst

-- the address of a header in an address field
abbrev pub address_number : AddressField → Header → ℕ
address_number Src h = h.src
address_number Dst h = h.dst

-- the span of a field of numbers
abbrev pub span_of : SpanField → Block → Span
span_of Proto b = b.proto
span_of A b = b.a
span_of B b = b.b
span_of Est b = b.est
span_of Dscp b = b.dscp

-- the block would have the header with this pattern in the field
unfoldable pub has_with_address : AddressField → Ternary → Block → Header → Bool
has_with_address Src p b h = fields_have p b.dst b.proto b.a b.b b.est b.dscp h
has_with_address Dst p b h = fields_have b.src p b.proto b.a b.b b.est b.dscp h

-- the block would have the header with this span in the field
unfoldable pub has_with_span : SpanField → Span → Block → Header → Bool
has_with_span Proto s b h = fields_have b.src b.dst s b.a b.b b.est b.dscp h
has_with_span A s b h = fields_have b.src b.dst b.proto s b.b b.est b.dscp h
has_with_span B s b h = fields_have b.src b.dst b.proto b.a s b.est b.dscp h
has_with_span Est s b h = fields_have b.src b.dst b.proto b.a b.b s b.dscp h
has_with_span Dscp s b h = fields_have b.src b.dst b.proto b.a b.b b.est s h

-- each field of the first block lies in that of the second
pub record IsInside (part whole : Block) : Type 0 where
  pub src : IsNarrower part.src whole.src
  pub dst : IsNarrower part.dst whole.dst
  pub proto : IsPartOf part.proto whole.proto
  pub a : IsPartOf part.a whole.a
  pub b : IsPartOf part.b whole.b
  pub est : IsPartOf part.est whole.est
  pub dscp : IsPartOf part.dscp whole.dscp

-- ---- lists of blocks

-- how many of the blocks have the header
unfoldable pub count_having : List Block → Header → ℕ
count_having blocks h = count_by (λ b. block_has b h) blocks

-- Of the headers that pass the first test some pass the second, and each of the others is in one more
-- of the new blocks than of the old ones.
abbrev pub HasMoved : (Header → Bool) → (Header → Bool) → List Block → List Block → Type 0
HasMoved whole rest old new = (h : Header) → count_having new h + flag_number (rest h) ≡ count_having old h + flag_number (whole h)

-- some of the blocks has the header
abbrev pub any_has : List Block → Header → Bool
any_has blocks h = list_any (λ b. block_has b h) blocks

-- no header is in both blocks
abbrev pub AreApart : Block → Block → Type 0
AreApart x y = (h : Header) → (block_has x h && block_has y h) ≡ false

-- no header is in two of the blocks
abbrev pub AreDisjoint : List Block → Type 0
AreDisjoint blocks = AllPairs AreApart blocks

-- ---- the blocks of the valid headers

-- what the fields of a block are made of, in order: value and wild bits, or least and greatest number
abbrev pub block_numbers : Block → List ℕ
block_numbers b =
    b.src.value ∷ b.src.wild ∷ b.dst.value ∷ b.dst.wild ∷ b.proto.low ∷ b.proto.high
    ∷ b.a.low ∷ b.a.high ∷ b.b.low ∷ b.b.high ∷ b.est.low ∷ b.est.high ∷ b.dscp.low ∷ b.dscp.high ∷ []

-- any addresses and code points, the protocols from `first` to `last`, and the numbers up to `most` in `a`
-- and `b` and up to `flags` in `est`
abbrev pub anywhere : ℕ → ℕ → ℕ → ℕ → List ℕ
anywhere first last most flags =
    0 ∷ 0xffff_ffff ∷ 0 ∷ 0xffff_ffff ∷ first ∷ last ∷ 0 ∷ most ∷ 0 ∷ most ∷ 0 ∷ flags ∷ 0 ∷ 63 ∷ []

-- ICMP has types and codes, TCP ports and the flag, UDP ports, and no other protocol has any of them
abbrev pub valid_table : List (List ℕ)
valid_table =
    anywhere 0 0 0 0 ∷ anywhere 1 1 255 0 ∷ anywhere 2 5 0 0 ∷ anywhere 6 6 65535 1 ∷ anywhere 7 16 0 0
    ∷ anywhere 17 17 65535 0 ∷ anywhere 18 255 0 0 ∷ []

-- What a block has, field by field.
use Rattle.std.proofs.Common.{◌≡◌, ℕ, zero, suc, ◌≤◌, true, refl, ◌∙◌, ap, arith}
use Rattle.std.specs.Prelude.{◌&&◌, ◌==◌}
use Rattle.std.proofs.lemmas.Bool.{and_parts, leb-true, le-leb}
use Rattle.np_space.specs.Flag.{flag_number}
use Rattle.np_space.specs.Header.{IsLeast}
use Rattle.np_space.specs.Span.{span_has}
use Rattle.np_space.specs.Ternary.{ternary_has}
use Rattle.np_space.specs.Block.{block_has}
use Rattle.np_space.specs.declared.headers.Header.{Header}
use Rattle.np_space.specs.declared.spans.Span.{Span}
use Rattle.np_space.specs.declared.blocks.Block.{Block}
use Rattle.np_space.proofs.FlagLemmas.{and_both}
use Rattle.np_space.proofs.OrderLemmas.{le_by_fields}
use Rattle.np_space.proofs.PatternLemmas.{has_least_value, least_value}

-- what the block says of a header, field by field
pub record FieldsIn (block : Block) (h : Header) : Type 0 where
  pub src : ternary_has block.src h.src ≡ true
  pub dst : ternary_has block.dst h.dst ≡ true
  pub proto : span_has block.proto h.proto ≡ true
  pub a : span_has block.a h.a ≡ true
  pub b : span_has block.b h.b ≡ true
  pub est : span_has block.est (flag_number h.est) ≡ true
  pub dscp : span_has block.dscp h.dscp ≡ true

-- a header in a block is in it field by field
pub fields_in : (b : Block) (h : Header) → block_has b h ≡ true → FieldsIn b h
unfolding block_has
fields_in b h has =
    let dscp = and_parts _ _ has in
    let est = and_parts _ _ dscp.0 in
    let ports = and_parts _ _ est.0 in
    let a = and_parts _ _ ports.0 in
    let proto = and_parts _ _ a.0 in
    let addresses = and_parts _ _ proto.0 in
    record { src = addresses.0; dst = addresses.1; proto = proto.1; a = a.1; b = ports.1; est = est.1; dscp = dscp.1 }

-- and a header that is in it field by field is in the block
pub fields_all : (b : Block) (h : Header) → FieldsIn b h → block_has b h ≡ true
unfolding block_has
fields_all b h f = λ i. f.src i && f.dst i && f.proto i && f.a i && f.b i && f.est i && f.dscp i

-- a span has its least number, and none below it
pub span_has_low : (s : Span) → span_has s s.low ≡ true
span_has_low s = and_both _ _ (le-leb s.low s.low (omega arith)) (le-leb s.low s.high s.ordered)

-- no number of a span is below its least
pub span_low : (s : Span) (x : ℕ) → span_has s x ≡ true → s.low ≤ x
span_low s x has = leb-true s.low x (and_parts _ _ has).0

-- the least header of a block
abbrev pub least_of : Block → Header
least_of b = record { src = b.src.value; dst = b.dst.value; proto = b.proto.low; a = b.a.low; b = b.b.low; est = b.est.low == 1; dscp = b.dscp.low }

-- a number below 2 is the number of its test
flag_of : (n : ℕ) → n ≤ 1 → flag_number (n == 1) ≡ n
flag_of zero l = refl
flag_of (suc zero) l = refl
flag_of (suc (suc n)) l = absurd (omega arith)

-- the least flag as a number
pub least_flag : (b : Block) → flag_number (b.est.low == 1) ≡ b.est.low
least_flag b = flag_of b.est.low (omega (arith, b.est.ordered, b.est_width))

-- a block has its least header
pub has_least : (b : Block) → block_has b (least_of b) ≡ true
has_least b = fields_all b (least_of b) (record {
  src = has_least_value b.src;
  dst = has_least_value b.dst;
  proto = span_has_low b.proto;
  a = span_has_low b.a;
  b = span_has_low b.b;
  est = ap (λ n. span_has b.est n) (least_flag b) ∙ span_has_low b.est;
  dscp = span_has_low b.dscp;
})

-- and no header of it stands before that
pub least_is : (b : Block) → IsLeast (block_has b) (least_of b)
least_is b = record {
  has = has_least b;
  least = λ h has.
      let f = fields_in b h has in
      le_by_fields (least_of b) h (least_value b.src h.src f.src) (least_value b.dst h.dst f.dst) (span_low b.proto h.proto f.proto)
      (span_low b.a h.a f.a) (span_low b.b h.b f.b) (omega (arith, least_flag b, span_low b.est (flag_number h.est) f.est)) (span_low b.dscp h.dscp f.dscp);
}

-- The headers of a block's fields after the addresses, one field before another.
use Rattle.std.proofs.Common.{◌≡◌, ℕ, Bool, true, false, List, refl}
use Rattle.std.specs.Prelude.{◌&&◌}
use Rattle.np_space.specs.Flag.{flag_number}
use Rattle.np_space.specs.Block.{block_has}
use Rattle.np_space.specs.Header.{is_valid_header}
use Rattle.np_space.specs.Span.{span_has}
use Rattle.np_space.specs.Ternary.{ternary_has}
use Rattle.np_space.specs.declared.headers.Header.{Header}
use Rattle.np_space.specs.declared.blocks.Block.{Block}
use Rattle.np_bdd.specs.declared.views.View.{View}
use Rattle.np_bdd.specs.Fields.{HasHeaders, lower_has}
use Rattle.np_bdd.proofs.FieldLemmas.{has_alike}

-- the tests from `dscp` on, and from each field before it
abbrev pub dscp_has : Block → Header → Bool
dscp_has b h = span_has b.dscp h.dscp && true

abbrev pub est_has : Block → Header → Bool
est_has b h = span_has b.est (flag_number h.est) && dscp_has b h

abbrev pub b_has : Block → Header → Bool
b_has b h = span_has b.b h.b && est_has b h

abbrev pub a_has : Block → Header → Bool
a_has b h = span_has b.a h.a && b_has b h

abbrev pub proto_has : Block → Header → Bool
proto_has b h = span_has b.proto h.proto && a_has b h

-- the tests may be grouped the other way
grouped : (p q r s t : Bool) → (p && (q && (r && (s && (t && true))))) ≡ (p && q && r && s && t)
grouped false q r s t = refl
grouped true false r s t = refl
grouped true true false s t = refl
grouped true true true false t = refl
grouped true true true true false = refl
grouped true true true true true = refl

-- from `proto` on these are all
pub lower_all : (b : Block) (views : List View) (x : ℕ) → HasHeaders (proto_has b) views x → HasHeaders (lower_has b) views x
lower_all b views x has =
    has_alike (proto_has b) (lower_has b) views x
    (λ h. grouped (span_has b.proto h.proto) (span_has b.a h.a) (span_has b.b h.b) (span_has b.est (flag_number h.est)) (span_has b.dscp h.dscp)) has

-- ---- the addresses before the valid headers

-- the destinations before them
abbrev pub dst_has : Block → Header → Bool
dst_has b h = ternary_has b.dst h.dst && (is_valid_header h && lower_has b h)

-- and the sources before those
abbrev pub src_has : Block → Header → Bool
src_has b h = ternary_has b.src h.src && dst_has b h

-- the tests may stand in the block's order
arranged : (s d v p q r t u : Bool) → (s && (d && (v && (p && q && r && t && u)))) ≡ (v && (s && d && p && q && r && t && u))
arranged true true true p q r t u = refl
arranged true true false p q r t u = refl
arranged true false true p q r t u = refl
arranged true false false p q r t u = refl
arranged false d true p q r t u = refl
arranged false d false p q r t u = refl

-- which is what the block has
pub block_all : (b : Block) (views : List View) (x : ℕ) → HasHeaders (src_has b) views x → HasHeaders (λ h. is_valid_header h && block_has b h) views x
unfolding block_has
block_all b views x has =
    has_alike (src_has b) (λ h. is_valid_header h && block_has b h) views x
    (λ h. arranged (ternary_has b.src h.src) (ternary_has b.dst h.dst) (is_valid_header h) (span_has b.proto h.proto) (span_has b.a h.a) (span_has b.b h.b) (span_has b.est (flag_number h.est)) (span_has b.dscp h.dscp)) has

-- Blocks that test a field or two of valid headers.
use Rattle.std.proofs.Common.{◌≡◌, ℕ, ◌≤◌, Bool, true, false, refl, ◌∙◌, arith, nat_le}
use Rattle.std.specs.Prelude.{◌&&◌}
use Rattle.std.proofs.lemmas.Bool.{lt-ltb}
use Rattle.std.proofs.lemmas.Bool.Decides.{nat_tests}
use Rattle.np_space.specs.Block.{block_has, everything, fields_have}
use Rattle.np_space.specs.declared.blocks.Block.{Block}
use Rattle.np_space.specs.declared.spans.Span.{Span}
use Rattle.np_space.specs.Flag.{flag_number}
use Rattle.np_space.specs.Header.{is_valid_header, HasWidths}
use Rattle.np_space.specs.Patterns.{any_address}
use Rattle.np_space.specs.Span.{span_from, span_has}
use Rattle.np_space.specs.Ternary.{ternary_has}
use Rattle.np_space.specs.declared.headers.Header.{Header}
use Rattle.np_space.proofs.FlagLemmas.{flag_small}
use Rattle.np_space.proofs.HeaderLemmas.{valid_widths}
use Rattle.np_space.proofs.MadeLemmas.{any_address-has, span_from-has}
use Rattle.np_cut.specs.FieldTests.{TestsOnValid}

between : (high x : ℕ) → x ≤ high → (nat_le 0 x && nat_le x high) ≡ true
between high x within = grind (arith, nat_tests)

-- the span up to a number has every number up to it
up_to : (high x : ℕ) → high ≤ 65535 → x ≤ high → span_has (span_from 0 high) x ≡ true
up_to high x small within = span_from-has 0 high x (omega arith) small ∙ between high x within

-- each field of the widest block has the number of a valid header
module _ (h : Header) (valid : is_valid_header h ≡ true) where
  w : HasWidths h
  w = valid_widths h valid

  any_src : ternary_has any_address h.src ≡ true
  any_src = any_address-has h.src ∙ lt-ltb h.src 4294967296 w.src

  any_dst : ternary_has any_address h.dst ≡ true
  any_dst = any_address-has h.dst ∙ lt-ltb h.dst 4294967296 w.dst

  any_proto : span_has (span_from 0 255) h.proto ≡ true
  any_proto = up_to 255 h.proto (omega arith) (omega (arith, w.proto))

  any_a : span_has (span_from 0 65535) h.a ≡ true
  any_a = up_to 65535 h.a (omega arith) (omega (arith, w.a))

  any_b : span_has (span_from 0 65535) h.b ≡ true
  any_b = up_to 65535 h.b (omega arith) (omega (arith, w.b))

  any_est : span_has (span_from 0 1) (flag_number h.est) ≡ true
  any_est = up_to 1 (flag_number h.est) (omega arith) (flag_small h.est)

  any_dscp : span_has (span_from 0 63) h.dscp ≡ true
  any_dscp = up_to 63 h.dscp (omega arith) (omega (arith, w.dscp))

  -- so with one field or two of its own a block tests these alone
  pub proto_alone : (proto : Span) → fields_have everything.src everything.dst proto everything.a everything.b everything.est everything.dscp h ≡ span_has proto h.proto
  proto_alone proto = (λ i. any_src i && any_dst i && span_has proto h.proto && any_a i && any_b i && any_est i && any_dscp i) ∙ by (span_has proto h.proto) where
    by : (t : Bool) → (true && true && t && true && true && true && true) ≡ t
    by false = refl
    by true = refl

  pub proto_and_a : (proto a : Span) → fields_have everything.src everything.dst proto a everything.b everything.est everything.dscp h ≡ (span_has proto h.proto && span_has a h.a)
  proto_and_a proto a = (λ i. any_src i && any_dst i && span_has proto h.proto && span_has a h.a && any_b i && any_est i && any_dscp i) ∙ by (span_has proto h.proto) (span_has a h.a) where
    by : (t u : Bool) → (true && true && t && u && true && true && true) ≡ (t && u)
    by false u = refl
    by true false = refl
    by true true = refl

  pub proto_and_b : (proto b : Span) → fields_have everything.src everything.dst proto everything.a b everything.est everything.dscp h ≡ (span_has proto h.proto && span_has b h.b)
  proto_and_b proto b = (λ i. any_src i && any_dst i && span_has proto h.proto && any_a i && span_has b h.b && any_est i && any_dscp i) ∙ by (span_has proto h.proto) (span_has b h.b) where
    by : (t u : Bool) → (true && true && t && true && u && true && true) ≡ (t && u)
    by false u = refl
    by true false = refl
    by true true = refl

  pub est_alone : (est : Span) → fields_have everything.src everything.dst everything.proto everything.a everything.b est everything.dscp h ≡ span_has est (flag_number h.est)
  est_alone est = (λ i. any_src i && any_dst i && any_proto i && any_a i && any_b i && span_has est (flag_number h.est) && any_dscp i) ∙ by (span_has est (flag_number h.est)) where
    by : (t : Bool) → (true && true && true && true && true && t && true) ≡ t
    by false = refl
    by true = refl

  pub dscp_alone : (dscp : Span) → fields_have everything.src everything.dst everything.proto everything.a everything.b everything.est dscp h ≡ span_has dscp h.dscp
  dscp_alone dscp = λ i. any_src i && any_dst i && any_proto i && any_a i && any_b i && any_est i && span_has dscp h.dscp

-- on valid headers a block tests what its fields test there
pub tests_by : (block : Block) (fields test : Header → Bool) → ((h : Header) → block_has block h ≡ fields h) → ((h : Header) → is_valid_header h ≡ true → fields h ≡ test h) → TestsOnValid block test
tests_by block fields test has on h = by (is_valid_header h) (has h) (on h) where
  by : (v : Bool) {x y z : Bool} → x ≡ y → (v ≡ true → y ≡ z) → (v && x) ≡ (v && z)
  by false e f = refl
  by true e f = e ∙ f refl

-- a flag is set where its number is 1
pub one_flag : (e : Bool) → (nat_le 1 (flag_number e) && nat_le (flag_number e) 1) ≡ e
one_flag false = refl
one_flag true = refl

-- A header for any bits: the number of each field is made from its bits.
use Rattle.std.proofs.Common.{◌≡◌, ◌≢◌, ℕ, zero, suc, ◌+◌, ◌-◌, ◌*◌, ◌^◌, ◌<◌, ◌≤◌, Bool, true, sym, ◌∙◌, ap, arith, ◌⊎◌, inl, inr}
use Rattle.std.specs.Prelude.{◌==◌, ◌&&◌}
use Rattle.std.specs.Int.{bit_at}
use Rattle.std.proofs.Math.Nat.{pow-suc}
use Rattle.std.proofs.lemmas.Bool.{cases_lt, cases_eq, lt-ltb, and_parts, ltb-true}
use Rattle.std.proofs.lemmas.Nat.Bits.{bit_at_cat_low, bit_at_cat_high}
use Rattle.np_space.specs.Bit.{has_bit}
use Rattle.np_space.specs.Flag.{flag_number}
use Rattle.np_space.specs.Header.{has_widths, HasWidths}
use Rattle.np_space.specs.declared.headers.Header.{Header}
use Rattle.np_space.proofs.FlagLemmas.{flag_small}
use Rattle.np_bdd.specs.Views.{Bits, bits_of_header}
use Rattle.np_bdd.proofs.HeaderBits.{src_bit, dst_bit, proto_bit, a_bit, b_bit, est_bit, dscp_bit, flag_is}

-- ---- a header has bits where each of its fields has them

-- the fields of the header have the bits
pub record FieldsHave (h : Header) (f : Bits) : Type 0 where
  pub src : (i : ℕ) → i < 32 → has_bit h.src (31 - i) ≡ f i
  pub dst : (i : ℕ) → 32 ≤ i → i < 64 → has_bit h.dst (63 - i) ≡ f i
  pub proto : (i : ℕ) → 64 ≤ i → i < 72 → has_bit h.proto (71 - i) ≡ f i
  pub a : (i : ℕ) → 72 ≤ i → i < 88 → has_bit h.a (87 - i) ≡ f i
  pub b : (i : ℕ) → 88 ≤ i → i < 104 → has_bit h.b (103 - i) ≡ f i
  pub est : (i : ℕ) → i ≡ 104 → h.est ≡ f i
  pub dscp : (i : ℕ) → 105 ≤ i → i < 111 → has_bit h.dscp (110 - i) ≡ f i

-- so the header has them
pub header_has : (h : Header) (f : Bits) → FieldsHave h f → (i : ℕ) → i < 111 → bits_of_header h i ≡ f i
header_has h f have i below =
    elim (cases_lt i 32) [
      | inl l ↦ src_bit h i l ∙ have.src i l
      | inr m ↦ elim (cases_lt i 64) [
        | inl l ↦ dst_bit h i m l ∙ have.dst i m l
        | inr m ↦ elim (cases_lt i 72) [
          | inl l ↦ proto_bit h i m l ∙ have.proto i m l
          | inr m ↦ elim (cases_lt i 88) [
            | inl l ↦ a_bit h i m l ∙ have.a i m l
            | inr m ↦ elim (cases_lt i 104) [
              | inl l ↦ b_bit h i m l ∙ have.b i m l
              | inr m ↦ elim (cases_eq i 104) [
                | inl e ↦ est_bit h i e ∙ have.est i e
                | inr n ↦ dscp_bit h i (omega (arith, m, n)) below ∙ have.dscp i (omega (arith, m, n)) below
              ]
            ]
          ]
        ]
      ]
    ]

-- ---- a number from its bits

-- the number of so many bits from the first one on, the highest of them first
number_of : Bits → ℕ → ℕ → ℕ
number_of f first zero = 0
number_of f first (suc w) = number_of f first w * 2 ^ 1 + flag_number (f (first + w))

flag_below : (b : Bool) → flag_number b < 2 ^ 1
flag_below b = omega (arith, flag_small b)

number_small : (f : Bits) (first w : ℕ) → number_of f first w < 2 ^ w
unfolding number_of
number_small f first zero = omega arith
number_small f first (suc w) = omega (arith, pow-suc 2 w, number_small f first w, flag_below (f (first + w)))

number_bit : (f : Bits) (first w j : ℕ) → j < w → has_bit (number_of f first w) (w - 1 - j) ≡ f (first + j)
unfolding number_of has_bit
number_bit f first zero j l = absurd (omega arith)
number_bit f first (suc w) j l = by (λ k. number_bit f first w j k) (cases_eq j w)
  where
    by : (j < w → has_bit (number_of f first w) (w - 1 - j) ≡ f (first + j)) → (j ≡ w) ⊎ (j ≢ w) → (bit_at (number_of f first w * 2 ^ 1 + flag_number (f (first + w))) (suc w - 1 - j) == 1) ≡ f (first + j)
    by earlier (inl e) =
        let lowest : suc w - 1 - j ≡ 0 = omega (arith, e) in
        ap (λ k. bit_at (number_of f first w * 2 ^ 1 + flag_number (f (first + w))) k == 1) lowest
        ∙ ap (λ b. b == 1) (bit_at_cat_low (number_of f first w) 1 (flag_number (f (first + w))) 0 (omega arith))
        ∙ flag_is (f (first + w))
        ∙ ap (λ k. f (first + k)) (sym e)
    by earlier (inr n) =
        let higher : suc w - 1 - j - 1 ≡ w - 1 - j = omega arith in
        ap (λ b. b == 1) (bit_at_cat_high (number_of f first w) 1 (flag_number (f (first + w))) (suc w - 1 - j) (flag_below (f (first + w))) (omega (arith, l, n)))
        ∙ ap (λ k. bit_at (number_of f first w) k == 1) higher
        ∙ earlier (omega (arith, l, n))

-- the bit at a place of a field that begins here
field_bit : (f : Bits) (first w i : ℕ) → first ≤ i → i < first + w → has_bit (number_of f first w) (first + w - 1 - i) ≡ f i
field_bit f first w i m l =
    ap (λ k. has_bit (number_of f first w) k) (omega (arith, m, l))
    ∙ number_bit f first w (i - first) (omega (arith, m, l))
    ∙ ap f (omega (arith, m))

-- ---- the header

pub header_of : Bits → Header
header_of f = record { src = number_of f 0 32; dst = number_of f 32 32; proto = number_of f 64 8; a = number_of f 72 16; b = number_of f 88 16; est = f 104; dscp = number_of f 105 6 }

pub header_widths : (f : Bits) → HasWidths (header_of f)
unfolding header_of
header_widths f = record {
  src = number_small f 0 32;
  dst = number_small f 32 32;
  proto = number_small f 64 8;
  a = number_small f 72 16;
  b = number_small f 88 16;
  dscp = number_small f 105 6;
}

header_fields_have : (f : Bits) → FieldsHave (header_of f) f
unfolding header_of
header_fields_have f = record {
  src = λ i l. field_bit f 0 32 i (omega arith) (omega (arith, l));
  dst = λ i m l. field_bit f 32 32 i m l;
  proto = λ i m l. field_bit f 64 8 i m l;
  a = λ i m l. field_bit f 72 16 i m l;
  b = λ i m l. field_bit f 88 16 i m l;
  est = λ i e. ap f (sym e);
  dscp = λ i m l. field_bit f 105 6 i m l;
}

-- it has the bits
pub header_of_bits : (f : Bits) (i : ℕ) → i < 111 → bits_of_header (header_of f) i ≡ f i
header_of_bits f = header_has (header_of f) f (header_fields_have f)

-- ---- the test of the widths

pub widths_true : (h : Header) → HasWidths h → has_widths h ≡ true
widths_true h w = λ i.
    lt-ltb h.src (2 ^ 32) w.src i && lt-ltb h.dst (2 ^ 32) w.dst i && lt-ltb h.proto (2 ^ 8) w.proto i && lt-ltb h.a (2 ^ 16) w.a i && lt-ltb h.b (2 ^ 16) w.b i && lt-ltb h.dscp (2 ^ 6) w.dscp i

pub widths_of : (h : Header) → has_widths h ≡ true → HasWidths h
widths_of h widths =
    let before_dscp = and_parts _ _ widths in
    let before_b = and_parts _ _ before_dscp.0 in
    let before_a = and_parts _ _ before_b.0 in
    let before_proto = and_parts _ _ before_a.0 in
    let addresses = and_parts _ _ before_proto.0 in
    record {
      src = ltb-true h.src (2 ^ 32) addresses.0;
      dst = ltb-true h.dst (2 ^ 32) addresses.1;
      proto = ltb-true h.proto (2 ^ 8) before_proto.1;
      a = ltb-true h.a (2 ^ 16) before_a.1;
      b = ltb-true h.b (2 ^ 16) before_b.1;
      dscp = ltb-true h.dscp (2 ^ 6) before_dscp.1;
    }

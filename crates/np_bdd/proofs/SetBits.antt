-- A header with one of its bits set.
use Rattle.std.proofs.Common.{◌≡◌, ◌≢◌, ℕ, ◌-◌, ◌*◌, ◌%◌, ◌^◌, ◌<◌, ◌≤◌, true, false, refl, sym, ◌∙◌, ap, arith, ◌⊎◌, inl, inr, bit_or, w8, w16, w32}
use Rattle.std.specs.Prelude.{◌==◌}
use Rattle.std.specs.Int.{bit_at, Width}
use mir.Val.{bits}
use Rattle.std.proofs.Math.Nat.{mod-lt}
use Rattle.std.proofs.lemmas.Bool.{cases_eq}
use Rattle.std.proofs.lemmas.Nat.{one_shl, or_lt, pow_pos, pow_below}
use Rattle.std.proofs.lemmas.Nat.Bits.{bit_at_set_same, bit_at_set_other, bit_at-zero}
use Rattle.np_space.specs.Bit.{has_bit}
use Rattle.np_space.specs.Header.{HasWidths, zeros}
use Rattle.np_space.specs.declared.headers.Header.{Header}
use Rattle.np_bdd.specs.Views.{Bits, bits_of_header}
use Rattle.np_bdd.specs.Walking.{with_bit, IsWithBit}
use Rattle.np_bdd.proofs.HeaderBits.{src_bit, dst_bit, proto_bit, a_bit, b_bit, est_bit, dscp_bit}
use Rattle.np_bdd.proofs.HeaderOfBits.{header_has}
use Rattle.np_bdd.proofs.CanonicalLaws.{changed, unchanged}

-- the bit in a field whose last bit is `top`
field_set : (w : Width) (f : Bits) (n top bit i : ℕ) → bit ≤ top → top - bit < bits w → i ≤ top → has_bit n (top - i) ≡ f i → has_bit (bit_or n (1 * 2 ^ (top - bit) % 2 ^ bits w)) (top - i) ≡ with_bit f bit true i
unfolding has_bit
field_set w f n top bit i low within here was = by (cases_eq i bit)
  where
    by : (i ≡ bit) ⊎ (i ≢ bit) → (bit_at (bit_or n (1 * 2 ^ (top - bit) % 2 ^ bits w)) (top - i) == 1) ≡ with_bit f bit true i
    by (inl e) =
        ap (λ j. bit_at (bit_or n (1 * 2 ^ (top - bit) % 2 ^ bits w)) (top - j) == 1) e
        ∙ ap (λ m. m == 1) (bit_at_set_same w n (top - bit) within)
        ∙ sym (changed f bit true i e)
    by (inr ne) =
        ap (λ m. m == 1) (bit_at_set_other w n (top - bit) within (top - i) (λ e. ne (omega (arith, e, low, here))))
        ∙ was
        ∙ sym (unchanged f bit true i ne)

-- the number stays of its width
set_small : (w : Width) (n k : ℕ) → n < 2 ^ bits w → bit_or n (1 * 2 ^ k % 2 ^ bits w) < 2 ^ bits w
set_small w n k small = or_lt (bits w) n (1 * 2 ^ k % 2 ^ bits w) small (mod-lt (1 * 2 ^ k) (pow_pos (bits w)))

-- so does the number of `dscp`, in a type that is wider
dscp_small : (n k : ℕ) → n < 2 ^ 6 → k < 6 → bit_or n (1 * 2 ^ k % 2 ^ 8) < 2 ^ 6
dscp_small n k small l = or_lt 6 n (1 * 2 ^ k % 2 ^ 8) small (rw (one_shl k 8 (omega (arith, l))) (pow_below k 6 l))

-- ---- the other fields keep their bits

module _ (h : Header) (bit : ℕ) where
  -- the bits of the header with this one set
  abbrev after : Bits
  after = with_bit (bits_of_header h) bit true

  src_kept : (i : ℕ) → i < 32 → i ≢ bit → has_bit h.src (31 - i) ≡ after i
  src_kept i l ne = sym (src_bit h i l) ∙ sym (unchanged (bits_of_header h) bit true i ne)

  dst_kept : (i : ℕ) → 32 ≤ i → i < 64 → i ≢ bit → has_bit h.dst (63 - i) ≡ after i
  dst_kept i m l ne = sym (dst_bit h i m l) ∙ sym (unchanged (bits_of_header h) bit true i ne)

  proto_kept : (i : ℕ) → 64 ≤ i → i < 72 → i ≢ bit → has_bit h.proto (71 - i) ≡ after i
  proto_kept i m l ne = sym (proto_bit h i m l) ∙ sym (unchanged (bits_of_header h) bit true i ne)

  a_kept : (i : ℕ) → 72 ≤ i → i < 88 → i ≢ bit → has_bit h.a (87 - i) ≡ after i
  a_kept i m l ne = sym (a_bit h i m l) ∙ sym (unchanged (bits_of_header h) bit true i ne)

  b_kept : (i : ℕ) → 88 ≤ i → i < 104 → i ≢ bit → has_bit h.b (103 - i) ≡ after i
  b_kept i m l ne = sym (b_bit h i m l) ∙ sym (unchanged (bits_of_header h) bit true i ne)

  est_kept : (i : ℕ) → i ≡ 104 → i ≢ bit → h.est ≡ after i
  est_kept i e ne = sym (est_bit h i e) ∙ sym (unchanged (bits_of_header h) bit true i ne)

  dscp_kept : (i : ℕ) → 105 ≤ i → i < 111 → i ≢ bit → has_bit h.dscp (110 - i) ≡ after i
  dscp_kept i m l ne = sym (dscp_bit h i m l) ∙ sym (unchanged (bits_of_header h) bit true i ne)

-- ---- the bit set in each field

pub src_set : (h : Header) (bit : ℕ) → bit < 32 → HasWidths h → IsWithBit h (record h { src = bit_or h.src (1 * 2 ^ (31 - bit) % 2 ^ 32) }) bit
src_set h bit below w = record {
  widths = record { src = set_small w32 h.src (31 - bit) w.src; dst = w.dst; proto = w.proto; a = w.a; b = w.b; dscp = w.dscp };
  bits = header_has (record h { src = bit_or h.src (1 * 2 ^ (31 - bit) % 2 ^ 32) }) (with_bit (bits_of_header h) bit true) (record {
    src = λ i l. field_set w32 (bits_of_header h) h.src 31 bit i (omega (arith, below)) (omega (arith, below)) (omega (arith, l)) (sym (src_bit h i l));
    dst = λ i m l. dst_kept h bit i m l (λ e. omega (arith, below, m, l, e));
    proto = λ i m l. proto_kept h bit i m l (λ e. omega (arith, below, m, l, e));
    a = λ i m l. a_kept h bit i m l (λ e. omega (arith, below, m, l, e));
    b = λ i m l. b_kept h bit i m l (λ e. omega (arith, below, m, l, e));
    est = λ i k. est_kept h bit i k (λ e. omega (arith, below, k, e));
    dscp = λ i m l. dscp_kept h bit i m l (λ e. omega (arith, below, m, l, e));
  });
}

pub dst_set : (h : Header) (bit : ℕ) → 32 ≤ bit → bit < 64 → HasWidths h → IsWithBit h (record h { dst = bit_or h.dst (1 * 2 ^ (63 - bit) % 2 ^ 32) }) bit
dst_set h bit from below w = record {
  widths = record { src = w.src; dst = set_small w32 h.dst (63 - bit) w.dst; proto = w.proto; a = w.a; b = w.b; dscp = w.dscp };
  bits = header_has (record h { dst = bit_or h.dst (1 * 2 ^ (63 - bit) % 2 ^ 32) }) (with_bit (bits_of_header h) bit true) (record {
    src = λ i l. src_kept h bit i l (λ e. omega (arith, below, from, l, e));
    dst = λ i m l. field_set w32 (bits_of_header h) h.dst 63 bit i (omega (arith, below)) (omega (arith, below, from)) (omega (arith, l)) (sym (dst_bit h i m l));
    proto = λ i m l. proto_kept h bit i m l (λ e. omega (arith, below, from, m, l, e));
    a = λ i m l. a_kept h bit i m l (λ e. omega (arith, below, from, m, l, e));
    b = λ i m l. b_kept h bit i m l (λ e. omega (arith, below, from, m, l, e));
    est = λ i k. est_kept h bit i k (λ e. omega (arith, below, from, k, e));
    dscp = λ i m l. dscp_kept h bit i m l (λ e. omega (arith, below, from, m, l, e));
  });
}

pub proto_set : (h : Header) (bit : ℕ) → 64 ≤ bit → bit < 72 → HasWidths h → IsWithBit h (record h { proto = bit_or h.proto (1 * 2 ^ (71 - bit) % 2 ^ 8) }) bit
proto_set h bit from below w = record {
  widths = record { src = w.src; dst = w.dst; proto = set_small w8 h.proto (71 - bit) w.proto; a = w.a; b = w.b; dscp = w.dscp };
  bits = header_has (record h { proto = bit_or h.proto (1 * 2 ^ (71 - bit) % 2 ^ 8) }) (with_bit (bits_of_header h) bit true) (record {
    src = λ i l. src_kept h bit i l (λ e. omega (arith, below, from, l, e));
    dst = λ i m l. dst_kept h bit i m l (λ e. omega (arith, below, from, m, l, e));
    proto = λ i m l. field_set w8 (bits_of_header h) h.proto 71 bit i (omega (arith, below)) (omega (arith, below, from)) (omega (arith, l)) (sym (proto_bit h i m l));
    a = λ i m l. a_kept h bit i m l (λ e. omega (arith, below, from, m, l, e));
    b = λ i m l. b_kept h bit i m l (λ e. omega (arith, below, from, m, l, e));
    est = λ i k. est_kept h bit i k (λ e. omega (arith, below, from, k, e));
    dscp = λ i m l. dscp_kept h bit i m l (λ e. omega (arith, below, from, m, l, e));
  });
}

pub a_set : (h : Header) (bit : ℕ) → 72 ≤ bit → bit < 88 → HasWidths h → IsWithBit h (record h { a = bit_or h.a (1 * 2 ^ (87 - bit) % 2 ^ 16) }) bit
a_set h bit from below w = record {
  widths = record { src = w.src; dst = w.dst; proto = w.proto; a = set_small w16 h.a (87 - bit) w.a; b = w.b; dscp = w.dscp };
  bits = header_has (record h { a = bit_or h.a (1 * 2 ^ (87 - bit) % 2 ^ 16) }) (with_bit (bits_of_header h) bit true) (record {
    src = λ i l. src_kept h bit i l (λ e. omega (arith, below, from, l, e));
    dst = λ i m l. dst_kept h bit i m l (λ e. omega (arith, below, from, m, l, e));
    proto = λ i m l. proto_kept h bit i m l (λ e. omega (arith, below, from, m, l, e));
    a = λ i m l. field_set w16 (bits_of_header h) h.a 87 bit i (omega (arith, below)) (omega (arith, below, from)) (omega (arith, l)) (sym (a_bit h i m l));
    b = λ i m l. b_kept h bit i m l (λ e. omega (arith, below, from, m, l, e));
    est = λ i k. est_kept h bit i k (λ e. omega (arith, below, from, k, e));
    dscp = λ i m l. dscp_kept h bit i m l (λ e. omega (arith, below, from, m, l, e));
  });
}

pub b_set : (h : Header) (bit : ℕ) → 88 ≤ bit → bit < 104 → HasWidths h → IsWithBit h (record h { b = bit_or h.b (1 * 2 ^ (103 - bit) % 2 ^ 16) }) bit
b_set h bit from below w = record {
  widths = record { src = w.src; dst = w.dst; proto = w.proto; a = w.a; b = set_small w16 h.b (103 - bit) w.b; dscp = w.dscp };
  bits = header_has (record h { b = bit_or h.b (1 * 2 ^ (103 - bit) % 2 ^ 16) }) (with_bit (bits_of_header h) bit true) (record {
    src = λ i l. src_kept h bit i l (λ e. omega (arith, below, from, l, e));
    dst = λ i m l. dst_kept h bit i m l (λ e. omega (arith, below, from, m, l, e));
    proto = λ i m l. proto_kept h bit i m l (λ e. omega (arith, below, from, m, l, e));
    a = λ i m l. a_kept h bit i m l (λ e. omega (arith, below, from, m, l, e));
    b = λ i m l. field_set w16 (bits_of_header h) h.b 103 bit i (omega (arith, below)) (omega (arith, below, from)) (omega (arith, l)) (sym (b_bit h i m l));
    est = λ i k. est_kept h bit i k (λ e. omega (arith, below, from, k, e));
    dscp = λ i m l. dscp_kept h bit i m l (λ e. omega (arith, below, from, m, l, e));
  });
}

pub est_set : (h : Header) (bit : ℕ) → bit ≡ 104 → HasWidths h → IsWithBit h (record h { est = true }) bit
est_set h bit e w = record {
  widths = record { src = w.src; dst = w.dst; proto = w.proto; a = w.a; b = w.b; dscp = w.dscp };
  bits = header_has (record h { est = true }) (with_bit (bits_of_header h) bit true) (record {
    src = λ i l. src_kept h bit i l (λ k. omega (arith, e, k, l));
    dst = λ i m l. dst_kept h bit i m l (λ k. omega (arith, e, k, m, l));
    proto = λ i m l. proto_kept h bit i m l (λ k. omega (arith, e, k, m, l));
    a = λ i m l. a_kept h bit i m l (λ k. omega (arith, e, k, m, l));
    b = λ i m l. b_kept h bit i m l (λ k. omega (arith, e, k, m, l));
    est = λ i k. sym (changed (bits_of_header h) bit true i (omega (arith, k, e)));
    dscp = λ i m l. dscp_kept h bit i m l (λ k. omega (arith, e, k, m, l));
  });
}

pub dscp_set : (h : Header) (bit : ℕ) → 105 ≤ bit → bit < 111 → HasWidths h → IsWithBit h (record h { dscp = bit_or h.dscp (1 * 2 ^ (110 - bit) % 2 ^ 8) }) bit
dscp_set h bit from below w = record {
  widths = record { src = w.src; dst = w.dst; proto = w.proto; a = w.a; b = w.b; dscp = dscp_small h.dscp (110 - bit) w.dscp (omega (arith, from, below)) };
  bits = header_has (record h { dscp = bit_or h.dscp (1 * 2 ^ (110 - bit) % 2 ^ 8) }) (with_bit (bits_of_header h) bit true) (record {
    src = λ i l. src_kept h bit i l (λ e. omega (arith, below, from, l, e));
    dst = λ i m l. dst_kept h bit i m l (λ e. omega (arith, below, from, m, l, e));
    proto = λ i m l. proto_kept h bit i m l (λ e. omega (arith, below, from, m, l, e));
    a = λ i m l. a_kept h bit i m l (λ e. omega (arith, below, from, m, l, e));
    b = λ i m l. b_kept h bit i m l (λ e. omega (arith, below, from, m, l, e));
    est = λ i k. est_kept h bit i k (λ e. omega (arith, below, from, k, e));
    dscp = λ i m l. field_set w8 (bits_of_header h) h.dscp 110 bit i (omega (arith, below)) (omega (arith, below, from)) (omega (arith, l)) (sym (dscp_bit h i m l));
  });
}

pub ruleset field_sets = (src_set, dst_set, proto_set, a_set, b_set, dscp_set)

-- ---- no bit set

zero_bit : (j : ℕ) → has_bit 0 j ≡ false
unfolding has_bit
zero_bit j = ap (λ m. m == 1) (bit_at-zero j)

-- the header of zeros has none
pub zeros_clear : (i : ℕ) → i < 111 → bits_of_header zeros i ≡ false
zeros_clear = header_has zeros (λ i. false) (record {
  src = λ i l. zero_bit (31 - i);
  dst = λ i m l. zero_bit (63 - i);
  proto = λ i m l. zero_bit (71 - i);
  a = λ i m l. zero_bit (87 - i);
  b = λ i m l. zero_bit (103 - i);
  est = λ i e. refl;
  dscp = λ i m l. zero_bit (110 - i);
})

pub zeros_widths : HasWidths zeros
zeros_widths = record { src = omega arith; dst = omega arith; proto = omega arith; a = omega arith; b = omega arith; dscp = omega arith }

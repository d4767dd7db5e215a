-- Each bit of a header is a bit of one of its fields.
use Rattle.std.proofs.Common.{◌≡◌, ℕ, ◌+◌, ◌-◌, ◌<◌, ◌≤◌, Bool, true, false, List, [], ◌∷◌, ◌++◌, refl, ◌∙◌, ap, arith}
use Rattle.std.specs.Prelude.{◌==◌, slice_index_or}
use Rattle.std.specs.Int.{bit_at}
use Rattle.np_space.specs.Bit.{has_bit}
use Rattle.np_space.specs.Flag.{flag_number}
use Rattle.np_space.specs.Bits.{bits_of, width_of, header_fields}
use Rattle.np_space.specs.declared.headers.Header.{Header}
use Rattle.np_space.proofs.BitOrderLaws.{bits_in_place}
use Rattle.np_bdd.specs.Views.{bits_of_header}

-- a bit of the field that begins with this one
in_field : (h : Header) (before after : List (ℕ × ℕ)) (first width n i : ℕ) → header_fields h ≡ before ++ (width, n) ∷ after → width_of before ≡ first → first ≤ i → i < first + width → bits_of_header h i ≡ has_bit n (first + width - 1 - i)
unfolding bits_of_header has_bit
in_field h before after first width n i fields count low high =
    ap (λ fs. slice_index_or (bits_of fs) i 0 == 1) fields
    ∙ ap (λ j. slice_index_or (bits_of (before ++ (width, n) ∷ after)) j 0 == 1) (omega (arith, count, low))
    ∙ ap (λ b. b == 1) (bits_in_place before after width n (i - first) 0 (omega (arith, low, high)))
    ∙ ap (λ j. bit_at n j == 1) (omega (arith, low, high))

-- the bits of each field, whose highest bit comes first
module _ (h : Header) where
  pub src_bit : (i : ℕ) → i < 32 → bits_of_header h i ≡ has_bit h.src (31 - i)
  unfolding width_of
  src_bit i l = in_field h [] _ 0 32 h.src i refl refl (omega arith) (omega arith)

  pub dst_bit : (i : ℕ) → 32 ≤ i → i < 64 → bits_of_header h i ≡ has_bit h.dst (63 - i)
  unfolding width_of
  dst_bit i m l = in_field h ((32, h.src) ∷ []) _ 32 32 h.dst i refl refl m l

  pub proto_bit : (i : ℕ) → 64 ≤ i → i < 72 → bits_of_header h i ≡ has_bit h.proto (71 - i)
  unfolding width_of
  proto_bit i m l = in_field h ((32, h.src) ∷ (32, h.dst) ∷ []) _ 64 8 h.proto i refl refl m l

  pub a_bit : (i : ℕ) → 72 ≤ i → i < 88 → bits_of_header h i ≡ has_bit h.a (87 - i)
  unfolding width_of
  a_bit i m l = in_field h ((32, h.src) ∷ (32, h.dst) ∷ (8, h.proto) ∷ []) _ 72 16 h.a i refl refl m l

  pub b_bit : (i : ℕ) → 88 ≤ i → i < 104 → bits_of_header h i ≡ has_bit h.b (103 - i)
  unfolding width_of
  b_bit i m l = in_field h ((32, h.src) ∷ (32, h.dst) ∷ (8, h.proto) ∷ (16, h.a) ∷ []) _ 88 16 h.b i refl refl m l

  flag_bit : (i : ℕ) → i ≡ 104 → bits_of_header h i ≡ has_bit (flag_number h.est) (104 - i)
  unfolding width_of
  flag_bit i e = in_field h ((32, h.src) ∷ (32, h.dst) ∷ (8, h.proto) ∷ (16, h.a) ∷ (16, h.b) ∷ []) _ 104 1 (flag_number h.est) i refl refl (omega arith) (omega arith)

  pub dscp_bit : (i : ℕ) → 105 ≤ i → i < 111 → bits_of_header h i ≡ has_bit h.dscp (110 - i)
  unfolding width_of
  dscp_bit i m l = in_field h ((32, h.src) ∷ (32, h.dst) ∷ (8, h.proto) ∷ (16, h.a) ∷ (16, h.b) ∷ (1, flag_number h.est) ∷ []) [] 105 6 h.dscp i refl refl m l

-- the one bit of a flag
pub flag_is : (b : Bool) → has_bit (flag_number b) 0 ≡ b
unfolding has_bit
flag_is false = refl
flag_is true = refl

pub est_bit : (h : Header) (i : ℕ) → i ≡ 104 → bits_of_header h i ≡ h.est
est_bit h i e = flag_bit h i e ∙ ap (λ j. has_bit (flag_number h.est) j) (omega arith) ∙ flag_is h.est

pub ruleset header_places = (src_bit, dst_bit, proto_bit, a_bit, b_bit, est_bit, dscp_bit)

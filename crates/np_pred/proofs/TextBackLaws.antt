-- Numbers, spans and lists of prefixes that are written as words read back.
use Rattle.std.proofs.Common.{◌≡◌, ◌≢◌, ℕ, ◌+◌, ◌-◌, ◌*◌, ◌/◌, ◌%◌, ◌^◌, ◌<◌, ◌≤◌, ◌==◌, Bool, true, false, ◌&&◌, List, [], ◌∷◌, ◌++◌, length, get_or, take, drop, map, Some, All, count_ones, bit_and, sym, refl, ap, ◌∙◌, arith, eq-eqb, length-append}
use Rattle.std.specs.Char.{is_ascii_digit}
use Rattle.std.specs.Fmt.{decimal}
use Rattle.std.specs.Int.{w32, to_be_bytes}
use Rattle.std.specs.List.{slice_split, join_with_byte, position_or_len, before_first, after_first}
use Rattle.std.specs.Str.{all_ascii_digits}
use Rattle.std.proofs.lemmas.Bool.{eqb-true, eqb-false, ne_eqb, le-leb}
use Rattle.std.proofs.lemmas.Fmt.{digits_decimal}
use Rattle.std.proofs.lemmas.List.{get_or_default}
use Rattle.std.proofs.lemmas.List.Elements.{All-append, All-cons, All-nil}
use Rattle.std.proofs.lemmas.List.Splits.{slice_split_at, slice_split_none}
use Rattle.std.proofs.lemmas.List.Sums.{position_or_len_is}
use Rattle.std.proofs.lemmas.Nat.{and_mask}
use Rattle.std.proofs.lemmas.Option.{none-some}
use Rattle.std.proofs.lemmas.Str.Parse.{not_in_digits}
use Rattle.std.proofs.Math.ListN.{get_or-append}
use Rattle.std.proofs.Math.Nat.{div-add-mod}
use Rattle.std.proofs.Math.Seq.{get_or-append_seam, take-append_seam, drop-append-add}
use lib.Count.{ones-le}
use Rattle.np_text.specs.Addresses.{front_bits, prefix_of, dotted}
use Rattle.np_text.proofs.AddressLaws.{address_of-dotted, dotted-bytes, prefix_of-front}
use Rattle.np_text.proofs.NumberLaws.{digits_by_test, number_of-decimal, number_of_empty}
use Rattle.np_space.specs.declared.patterns.Ternary.{Ternary}
use Rattle.np_space.specs.declared.spans.Span.{Span}
use Rattle.np_space.specs.Patterns.{is_prefix, prefix_pattern}
use Rattle.np_pred.specs.Patterns.{is_comma, are_prefixes, pattern_of, patterns_of, prefix_text}
use Rattle.np_pred.specs.declared.dscp.DscpSpan.{DscpSpan}
use Rattle.np_pred.specs.Bounds.{bounds_of, bounds_text}
use Rattle.np_pred.specs.Dscp.{dscp_span_of, dscp_text}
use Rattle.np_pred.specs.Ports.{ports_of, ports_text}
use Rattle.np_space.proofs.MadeLemmas.{same_ternary, span_from-own, value-prefix_pattern, wild-prefix_pattern}
use Rattle.np_pred.proofs.BoundsLaws.{bounds_of_one, bounds_of_two, bounds_text_one, bounds_text_two}
use Rattle.np_pred.proofs.DscpLaws.{dscp_span_from-own}

-- ---- a byte that isn't in a list, or first stands behind a list that lacks it

-- the bytes of a number are digits
decimal_lacks : (c n : ℕ) → n < 2 ^ 64 → c < 48 → All (λ b. (b == c) ≡ false) (decimal n)
decimal_lacks c n small low k e m =
    let other = not_in_digits digits_by_test (decimal n) c (digits_decimal digits_by_test n small) (λ h. omega (arith, h.0)) k m in
    rw (get_or_default (decimal n) k e 0 m) (ne_eqb _ c other)

-- the byte is nowhere
position-none : (c : ℕ) (xs : List ℕ) → All (λ b. (b == c) ≡ false) xs → position_or_len (λ b. b == c) xs ≡ length xs
position-none c xs lacks = position_or_len_is (λ b. b == c) xs (length xs) 0 (omega arith) (λ k lt. lacks k 0 lt) (λ lt. absurd (omega arith))

-- the byte is first there
position-at : (c : ℕ) (front back : List ℕ) → All (λ b. (b == c) ≡ false) front → position_or_len (λ b. b == c) (front ++ c ∷ back) ≡ length front
position-at c front back lacks =
    position_or_len_is (λ b. b == c) (front ++ c ∷ back) (length front) 0 (omega (arith, length-append front (c ∷ back)))
    (λ k lt. rw (get_or-append front (c ∷ back) 0 k lt) (lacks k 0 lt))
    (λ lt. rw (get_or-append_seam front c back 0) (eq-eqb c c refl))

-- what stands before it
before-at : (c : ℕ) (front back : List ℕ) → All (λ b. (b == c) ≡ false) front → front ≡ before_first (λ b. b == c) (front ++ c ∷ back)
before-at c front back lacks = sym (ap (λ n. take n (front ++ c ∷ back)) (position-at c front back lacks) ∙ take-append_seam front (c ∷ back))

-- what stands after it
after-at : (c : ℕ) (front back : List ℕ) → All (λ b. (b == c) ≡ false) front → back ≡ after_first (λ b. b == c) (front ++ c ∷ back)
after-at c front back lacks = sym (ap (λ n. drop (n + 1) (front ++ c ∷ back)) (position-at c front back lacks) ∙ drop-append-add front (c ∷ back) 1)

-- it is there
within-at : (c : ℕ) (front back : List ℕ) → All (λ b. (b == c) ≡ false) front → position_or_len (λ b. b == c) (front ++ c ∷ back) < length (front ++ c ∷ back)
within-at c front back lacks = omega (arith, position-at c front back lacks, length-append front (c ∷ back))

-- ---- bounds and spans

-- one number
one_number : (max low high : ℕ) → low ≡ high → high ≤ max → max < 2 ^ 64 → bounds_of max (bounds_text low high) ≡ Some (low, high)
one_number max low high e most small =
    rw (bounds_text_one low high e, bounds_of_one max (decimal low) (position-none 45 (decimal low) (decimal_lacks 45 low (omega arith) (omega arith))), number_of-decimal low max (omega arith) (omega arith))
    (ap (λ h. Some (low, h)) e)

-- two numbers
two_numbers : (max low high : ℕ) → low ≢ high → low ≤ high → high ≤ max → max < 2 ^ 64 → bounds_of max (bounds_text low high) ≡ Some (low, high)
two_numbers max low high e ordered most small =
    let lacks = decimal_lacks 45 low (omega arith) (omega arith) in
    rw (bounds_text_two low high e)
    (bounds_of_two max (decimal low ++ 45 ∷ decimal high) (decimal low) (decimal high) (within-at 45 (decimal low) (decimal high) lacks) (before-at 45 (decimal low) (decimal high) lacks) (after-at 45 (decimal low) (decimal high) lacks)
    ∙ rw (number_of-decimal low max (omega arith) (omega arith), number_of-decimal high max (omega arith) (omega arith), le-leb low high ordered) refl)

-- one number or two
bounds_by_test : (max low high : ℕ) (b : Bool) → (low == high) ≡ b → low ≤ high → high ≤ max → max < 2 ^ 64 → bounds_of max (bounds_text low high) ≡ Some (low, high)
bounds_by_test max low high true e ordered most small = one_number max low high (eqb-true low high e) most small
bounds_by_test max low high false e ordered most small = two_numbers max low high (eqb-false low high e) ordered most small

-- bounds that are written as a word read back
pub bounds_of-text : (max low high : ℕ) → low ≤ high → high ≤ max → max < 2 ^ 64 → bounds_of max (bounds_text low high) ≡ Some (low, high)
bounds_of-text max low high ordered most small = bounds_by_test max low high (low == high) refl ordered most small

-- a span of ports reads back
pub ports_of-text : (s : Span) → ports_of (ports_text s) ≡ Some s
ports_of-text s =
    let small : s.high < 65536 = s.width in
    rw (bounds_of-text 65535 s.low s.high s.ordered (omega arith) (omega arith)) (ap (λ t. Some t) (span_from-own s))

-- a span of DSCP values reads back
pub dscp_span_of-text : (s : DscpSpan) → dscp_span_of (dscp_text s) ≡ Some s
dscp_span_of-text s = rw (bounds_of-text 63 s.low s.high s.ordered s.width (omega arith)) (ap (λ t. Some t) (dscp_span_from-own s))

-- ---- prefixes

-- a dot is no other byte
dot_lacks : (c : ℕ) → c ≢ 46 → All (λ b. (b == c) ≡ false) (46 ∷ [])
dot_lacks c other = All-cons (λ b. (b == c) ≡ false) 46 [] (ne_eqb 46 c (λ e. other (sym e))) (All-nil (λ b. (b == c) ≡ false))

-- an address has no comma and no slash
dotted_lacks : (c v : ℕ) → c < 48 → c ≢ 46 → All (λ b. (b == c) ≡ false) (dotted v)
dotted_lacks c v low other =
    let P : ℕ → Type 0 = λ b. (b == c) ≡ false in
    let octets = to_be_bytes w32 v in
    let part : (n : ℕ) → n < 2 ^ 64 → All P (decimal n ++ 46 ∷ []) = λ n small. All-append P (decimal n) (46 ∷ []) (decimal_lacks c n small low) (dot_lacks c other) in
    rw (dotted-bytes v octets refl)
    (All-append P _ _ (part (get_or octets 0 0) (omega arith))
    (All-append P _ _ (part (get_or octets 1 0) (omega arith))
    (All-append P _ _ (part (get_or octets 2 0) (omega arith)) (decimal_lacks c (get_or octets 3 0) (omega arith) low))))

-- the length of a prefix
module _ (p : Ternary) (is : is_prefix p ≡ true) where
  -- the wild bits
  abbrev ones : ℕ
  ones = count_ones p.wild

  -- they are the lowest ones
  wild_is : p.wild ≡ 2 ^ ones - 1
  wild_is = eqb-true p.wild (2 ^ ones - 1) is

  -- there are 32 at most
  few : ones ≤ 32
  few = ones-le 32 p.wild p.wild_width

  -- the unit of the prefix
  unit_of : 2 ^ (32 - (32 - ones)) ≡ 2 ^ ones
  unit_of = let e : 32 - (32 - ones) ≡ ones = let k = few in omega arith in ap (λ n. 2 ^ n) e

  -- the value has none of the wild bits
  value_is : p.value / 2 ^ ones * 2 ^ ones ≡ p.value
  value_is =
      let clear : p.value % 2 ^ ones ≡ 0 = sym (and_mask p.value ones) ∙ ap (λ w. bit_and p.value w) (sym wild_is) ∙ p.cleared in
      let whole = div-add-mod p.value (2 ^ ones) in
      omega arith

  -- it is its own first bits
  front_is : front_bits p.value (32 - ones) ≡ p.value
  front_is = rw unit_of value_is

  -- its text is read as these numbers
  prefix_of-text : prefix_of (prefix_text p) ≡ Some (p.value, 32 - ones)
  prefix_of-text =
      let lacks = dotted_lacks 47 p.value (omega arith) (λ e. absurd (omega arith)) in
      prefix_of-front (dotted p.value ++ 47 ∷ decimal (32 - ones)) (dotted p.value) (decimal (32 - ones)) (within-at 47 (dotted p.value) (decimal (32 - ones)) lacks) (before-at 47 (dotted p.value) (decimal (32 - ones)) lacks) (after-at 47 (dotted p.value) (decimal (32 - ones)) lacks)
      ∙ rw (address_of-dotted p.value p.value_width, number_of-decimal (32 - ones) 32 (omega arith) (omega arith)) (ap (λ v. Some (v, 32 - ones)) front_is)

  -- the text of a prefix reads back
  pub pattern_of-text : pattern_of (prefix_text p) ≡ Some p
  pattern_of-text =
      rw prefix_of-text
      (ap (λ q. Some q) (same_ternary (prefix_pattern p.value (32 - ones)) p
      (value-prefix_pattern p.value (32 - ones) p.value_width ∙ front_is)
      (wild-prefix_pattern p.value (32 - ones) ∙ ap (λ u. u - 1) unit_of ∙ sym wild_is)))

-- the text of a prefix has no comma
prefix_text_lacks : (p : Ternary) → All (λ b. is_comma b ≡ false) (prefix_text p)
prefix_text_lacks p =
    let P : ℕ → Type 0 = λ b. is_comma b ≡ false in
    All-append P (dotted p.value) (47 ∷ decimal (32 - count_ones p.wild)) (dotted_lacks 44 p.value (omega arith) (λ e. absurd (omega arith)))
    (All-cons P 47 (decimal (32 - count_ones p.wild)) refl (decimal_lacks 44 (32 - count_ones p.wild) (omega arith) (omega arith)))

-- the words between the commas
pub split_texts : (p : Ternary) (ps : List Ternary) → slice_split is_comma (join_with_byte 44 (map prefix_text (p ∷ ps))) ≡ map prefix_text (p ∷ ps)
split_texts p [] = slice_split_none is_comma (prefix_text p) (prefix_text_lacks p)
split_texts p (q ∷ ps) =
    slice_split_at is_comma (prefix_text p) 44 (join_with_byte 44 (map prefix_text (q ∷ ps))) (prefix_text_lacks p) refl
    ∙ ap (λ l. prefix_text p ∷ l) (split_texts q ps)

-- both parts of a conjunction
pub both_true : (a b : Bool) → (a && b) ≡ true → (a ≡ true) × (b ≡ true)
both_true true b h = (refl, h)
both_true false b h = cc

-- the texts of prefixes read back
pub patterns_of-texts : (ps : List Ternary) → are_prefixes ps ≡ true → patterns_of (map prefix_text ps) ≡ Some ps
patterns_of-texts [] h = refl
patterns_of-texts (p ∷ ps) h =
    let each = both_true (is_prefix p) (are_prefixes ps) h in
    rw (pattern_of-text p each.0, patterns_of-texts ps each.1) refl

-- ---- what a number begins with

-- a list begins with a digit
pub record BeginsWithDigit (xs : List ℕ) : Type 0 where
  pub first : ℕ
  pub rest : List ℕ
  pub whole : xs ≡ first ∷ rest
  pub digit : is_ascii_digit first ≡ true

-- digits begin with a digit
digit_first : (xs : List ℕ) → xs ≢ [] → all_ascii_digits xs ≡ true → BeginsWithDigit xs
digit_first [] some h = absurd (some refl)
digit_first (b ∷ bs) some h = record { first = b; rest = bs; whole = refl; digit = (both_true (is_ascii_digit b) (all_ascii_digits bs) h).0 }

-- a number begins with a digit
pub decimal_begins : (n : ℕ) → n < 2 ^ 64 → BeginsWithDigit (decimal n)
decimal_begins n small =
    digit_first (decimal n)
    (λ e. none-some n (sym (number_of_empty (decimal n) n (ap length e)) ∙ number_of-decimal n n small (omega arith)))
    (digits_decimal digits_by_test n small)

-- more bytes after it
pub begins_before : (xs ys : List ℕ) → BeginsWithDigit xs → BeginsWithDigit (xs ++ ys)
begins_before xs ys h = record { first = h.first; rest = h.rest ++ ys; whole = ap (λ l. l ++ ys) h.whole; digit = h.digit }

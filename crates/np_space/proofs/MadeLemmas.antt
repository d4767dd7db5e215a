-- Spans, patterns and blocks that are made of numbers.
use Rattle.std.proofs.Common.{◌≡◌, ℕ, ◌+◌, ◌-◌, ◌*◌, ◌/◌, ◌%◌, ◌^◌, ◌<◌, ◌≤◌, ◌↔◌, Bool, true, bit_and, nat_lt, nat_le, ◌==◌, count_ones, subst, refl, sym, ◌∙◌, ap, arith, eq-eqb}
use Rattle.std.specs.Prelude.{◌&&◌, ◌||◌, not}
use Rattle.std.proofs.Props.{props}
use Rattle.std.proofs.Math.Pow.{pow_mono}
use Rattle.std.proofs.lemmas.Bool.{eqb-true, lt-ltb, ltb-true, or_right}
use Rattle.std.proofs.lemmas.Bool.Decides.{nat_tests}
use lib.Count.{ones-ones, ones-le}
use Rattle.np_space.specs.Bit.{has_bit}
use Rattle.np_space.specs.Flag.{flag_number, same_flag}
use Rattle.np_space.specs.Header.{has_widths}
use Rattle.np_space.specs.Span.{span_has, span_from}
use Rattle.np_space.specs.Ternary.{pattern_has, ternary_has}
use Rattle.np_space.specs.Patterns.{any_address, host, is_prefix, pattern, prefix_pattern}
use Rattle.np_space.specs.Block.{block_has, everything}
use Rattle.np_space.specs.declared.headers.Header.{Header}
use Rattle.np_space.specs.declared.patterns.Ternary.{Ternary}
use Rattle.np_space.specs.declared.spans.Span.{Span}
use Rattle.np_space.specs.declared.blocks.Block.{Block}
use Rattle.np_space.proofs.BitLemmas.{bit-not, bit-zero, same_from_has_bit}
use Rattle.np_space.proofs.FlagLemmas.{and_true, flag_small, same_answers, same_flag-equal, same_flag-refl}
use Rattle.np_space.proofs.PatternLemmas.{of_same, pattern_at, pattern_from, pattern_width}

-- ---- a pattern, a span and a block are their numbers

module _ (v w : ℕ) where
  -- what the ghost fields of a pattern say
  abbrev TernaryFacts : Type 0
  TernaryFacts = (bit_and v w ≡ 0) × (v < 2 ^ 32) × (w < 2 ^ 32)

  -- they say it in one way
  ternary_facts_prop : IsProp TernaryFacts
  ternary_facts_prop = hlevel props

  -- the pattern of these numbers
  abbrev ternary_with : TernaryFacts → Ternary
  ternary_with x = record { value = v; wild = w; cleared = x.0; value_width = x.1; wild_width = x.2 }

-- patterns with the same two numbers are the same
pub same_ternary : (p q : Ternary) → p.value ≡ q.value → p.wild ≡ q.wild → p ≡ q
same_ternary p q e f =
    let facts : TernaryFacts p.value p.wild = (p.cleared, p.value_width, p.wild_width) in
    let P : ℕ → Type 0 = λ v. (x : TernaryFacts v p.wild) → p ≡ ternary_with v p.wild x in
    let one : P q.value = subst P e (λ x. ap (ternary_with p.value p.wild) (ternary_facts_prop p.value p.wild facts x)) in
    let Q : ℕ → Type 0 = λ w. (x : TernaryFacts q.value w) → p ≡ ternary_with q.value w x in
    let two : Q q.wild = subst Q f one in
    two (q.cleared, q.value_width, q.wild_width)

module _ (l h : ℕ) where
  -- what the ghost fields of a span say
  abbrev SpanFacts : Type 0
  SpanFacts = (l ≤ h) × (h < 2 ^ 16)

  -- they say it in one way
  span_facts_prop : IsProp SpanFacts
  span_facts_prop = hlevel props

  -- the span of these numbers
  abbrev span_with : SpanFacts → Span
  span_with x = record { low = l; high = h; ordered = x.0; width = x.1 }

-- spans with the same two numbers are the same
pub same_span : (p q : Span) → p.low ≡ q.low → p.high ≡ q.high → p ≡ q
same_span p q e f =
    let facts : SpanFacts p.low p.high = (p.ordered, p.width) in
    let P : ℕ → Type 0 = λ l. (x : SpanFacts l p.high) → p ≡ span_with l p.high x in
    let one : P q.low = subst P e (λ x. ap (span_with p.low p.high) (span_facts_prop p.low p.high facts x)) in
    let Q : ℕ → Type 0 = λ h. (x : SpanFacts q.low h) → p ≡ span_with q.low h x in
    let two : Q q.high = subst Q f one in
    two (q.ordered, q.width)

-- the fields of a block, of which some have a bound
abbrev Fields : Type 0
Fields = Ternary × Ternary × Span × Span × Span × Span × Span

module _ (t : Fields) where
  -- what the ghost fields of a block say
  abbrev BlockFacts : Type 0
  BlockFacts = (t.2.high ≤ 255) × (t.5.high ≤ 1) × (t.6.high ≤ 63)

  -- they say it in one way
  block_facts_prop : IsProp BlockFacts
  block_facts_prop = hlevel props

  -- the block of these fields
  abbrev block_with : BlockFacts → Block
  block_with x = record { src = t.0; dst = t.1; proto = t.2; a = t.3; b = t.4; est = t.5; dscp = t.6; proto_width = x.0; est_width = x.1; dscp_width = x.2 }

-- the fields of a block as one value
abbrev fields_of : Block → Fields
fields_of b = (b.src, b.dst, b.proto, b.a, b.b, b.est, b.dscp)

-- blocks with the same fields are the same
pub same_block : (p q : Block) → p.src ≡ q.src → p.dst ≡ q.dst → p.proto ≡ q.proto → p.a ≡ q.a → p.b ≡ q.b → p.est ≡ q.est → p.dscp ≡ q.dscp → p ≡ q
same_block p q src dst proto a b est dscp =
    let facts : BlockFacts (fields_of p) = (p.proto_width, p.est_width, p.dscp_width) in
    let P : Fields → Type 0 = λ t. (x : BlockFacts t) → p ≡ block_with t x in
    let same : fields_of p ≡ fields_of q = (λ i. (src i, dst i, proto i, a i, b i, est i, dscp i)) in
    let one : P (fields_of q) = subst P same (λ x. ap (block_with (fields_of p)) (block_facts_prop (fields_of p) facts x)) in
    one (q.proto_width, q.est_width, q.dscp_width)

-- ---- spans

-- its least number
pub low-span_from : (low high : ℕ) → low ≤ high → high ≤ 65535 → (span_from low high).low ≡ low
unfolding span_from
low-span_from low high ordered small = omega arith

-- its greatest number
pub high-span_from : (low high : ℕ) → high ≤ 65535 → (span_from low high).high ≡ high
unfolding span_from
high-span_from low high small = omega arith

-- a span that is made of its own numbers
pub span_from-own : (s : Span) → span_from s.low s.high ≡ s
span_from-own s =
    let small : s.high < 65536 = s.width in
    same_span (span_from s.low s.high) s (low-span_from s.low s.high s.ordered (omega arith)) (high-span_from s.low s.high (omega arith))

-- what a span that is made of two numbers has
pub span_from-has : (low high x : ℕ) → low ≤ high → high ≤ 65535 → span_has (span_from low high) x ≡ (nat_le low x && nat_le x high)
span_from-has low high x ordered small =
    (λ i. nat_le (low-span_from low high ordered small i) x && nat_le x (high-span_from low high small i))

-- a span of one number has that number alone
pub span_only-has : (n x : ℕ) → n ≤ 65535 → span_has (span_from n n) x ≡ (x == n)
span_only-has n x small = span_from-has n n x (omega arith) small ∙ by
  where
    by : (nat_le n x && nat_le x n) ≡ (x == n)
    by = grind (arith, nat_tests)

-- ---- patterns

-- every number of 32 bits is in the pattern without fixed bits
pub widest_has : (x : ℕ) → pattern_has 0 4294967295 x ≡ nat_lt x (2 ^ 32)
widest_has x =
    same_answers (pattern_has 0 4294967295 x) (nat_lt x (2 ^ 32))
    (λ has. lt-ltb x (2 ^ 32) (pattern_width 0 4294967295 x has))
    (λ lt. pattern_from 0 4294967295 x (ltb-true x (2 ^ 32) lt) (λ i l. ap (λ t. t || same_flag (has_bit x i) (has_bit 0 i)) (wild i l)))
  where
    wild : (i : ℕ) → i < 32 → has_bit 4294967295 i ≡ true
    wild i l = bit-not 0 i (omega arith) l ∙ ap not (bit-zero i)

-- every number of 32 bits is an address
pub any_address-has : (x : ℕ) → ternary_has any_address x ≡ nat_lt x (2 ^ 32)
unfolding any_address
any_address-has x = widest_has x

-- a word of 32 bits is itself
own_word : (n : ℕ) → n < 2 ^ 32 → n ≡ n % 2 ^ 32
own_word n small = omega arith

-- the value and the wild bits of the pattern of two words
pub value-pattern : (value wild : ℕ) → value < 2 ^ 32 → wild < 2 ^ 32 → bit_and value (4294967295 - wild) ≡ (pattern value wild).value
unfolding pattern
value-pattern value wild v w = ap (λ x. bit_and x (4294967295 - wild)) (own_word value v) ∙ ap (λ x. bit_and (value % 2 ^ 32) (4294967295 - x)) (own_word wild w)

-- its wild bits are those given
pub wild-pattern : (value wild : ℕ) → wild < 2 ^ 32 → wild ≡ (pattern value wild).wild
unfolding pattern
wild-pattern value wild w = own_word wild w

-- it has what the two words say
pub pattern-has : (value wild x : ℕ) → value < 2 ^ 32 → wild < 2 ^ 32 → ternary_has (pattern value wild) x ≡ pattern_has value wild x
pattern-has value wild x v w =
    sym (λ i. pattern_has (value-pattern value wild v w i) (wild-pattern value wild w i) x) ∙ of_same value wild x w

-- without wild bits a value is the only number
value_alone : (value x : ℕ) → value < 2 ^ 32 → pattern_has value 0 x ≡ (x == value)
value_alone value x v =
    same_answers (pattern_has value 0 x) (x == value)
    (λ has. eq-eqb x value (same_from_has_bit x value (pattern_width value 0 x has) v (λ i l.
    same_flag-equal (has_bit x i) (has_bit value i) (sym (ap (λ b. b || same_flag (has_bit x i) (has_bit value i)) (bit-zero i)) ∙ pattern_at value 0 x i has l))))
    (λ same. let e = eqb-true x value same in pattern_from value 0 x (omega arith) (λ i l.
    or_right (has_bit 0 i) (same_flag (has_bit x i) (has_bit value i)) (ap (λ y. same_flag (has_bit y i) (has_bit value i)) e ∙ same_flag-refl (has_bit value i))))

-- a pattern of one address has it alone
pub host-has : (address x : ℕ) → address < 2 ^ 32 → ternary_has (host address) x ≡ (x == address)
host-has address x a = pattern-has address 0 x a (omega arith) ∙ value_alone address x a

-- ---- prefixes

-- the wild bits of a prefix
pub wild-prefix_pattern : (address length : ℕ) → (prefix_pattern address length).wild ≡ 2 ^ (32 - length) - 1
unfolding prefix_pattern
wild-prefix_pattern address length = refl

-- the value of a prefix
pub value-prefix_pattern : (address length : ℕ) → address < 2 ^ 32 → (prefix_pattern address length).value ≡ address / 2 ^ (32 - length) * 2 ^ (32 - length)
unfolding prefix_pattern
value-prefix_pattern address length small = let e : address % 2 ^ 32 ≡ address = omega arith in ap (λ a. a / 2 ^ (32 - length) * 2 ^ (32 - length)) e

-- wild bits that are some of the lowest
pub ones_are_low : (w k : ℕ) → w ≡ 2 ^ k - 1 → (w == 2 ^ count_ones w - 1) ≡ true
ones_are_low w k e = rw (e, ones-ones k) (eq-eqb (2 ^ k - 1) (2 ^ k - 1) refl)

-- a pattern that is made as a prefix is one
pub is_prefix-prefix_pattern : (address length : ℕ) → is_prefix (prefix_pattern address length) ≡ true
is_prefix-prefix_pattern address length = ones_are_low (prefix_pattern address length).wild (32 - length) (wild-prefix_pattern address length)

-- the unit that the code computes
pub unit_is : (k : ℕ) → 1 * 2 ^ (32 - k) % 18446744073709551616 ≡ 2 ^ (32 - k)
unit_is k =
    let few : 32 - k ≤ 32 = omega arith in
    let small : 2 ^ (32 - k) ≤ 2 ^ 32 = pow_mono few in
    omega arith

-- a pattern is a prefix exactly where its wild bits are some of the lowest
pub prefix_as_stated : (p : Ternary) → (is_prefix p ≡ true) ↔ ((k : ℕ) × (k ≤ 32) × (p.wild ≡ 2 ^ k - 1))
prefix_as_stated p = (
  (λ is. (count_ones p.wild, ones-le 32 p.wild p.wild_width, eqb-true p.wild (2 ^ count_ones p.wild - 1) is)),
  (λ h. ones_are_low p.wild h.0 h.2),
)

-- ---- the widest block

-- the numbers below a bound
up_to : (high x : ℕ) → (nat_le 0 x && nat_le x high) ≡ nat_lt x (high + 1)
up_to high x = grind (arith, nat_tests)

-- a span from 0 has the numbers to its end
up_to-has : (high x : ℕ) → high ≤ 65535 → span_has (span_from 0 high) x ≡ nat_lt x (high + 1)
up_to-has high x small = span_from-has 0 high x (omega arith) small ∙ up_to high x

-- whether the flag is set or not, it is 0 or 1
any_flag : (e : Bool) → span_has (span_from 0 1) (flag_number e) ≡ true
any_flag e = up_to-has 1 (flag_number e) (omega arith) ∙ lt-ltb (flag_number e) 2 (omega (arith, flag_small e))

-- the widest block has each header of the widths
pub everything-has : (h : Header) → block_has everything h ≡ has_widths h
unfolding block_has
everything-has h =
    (λ i. any_address-has h.src i && any_address-has h.dst i && up_to-has 255 h.proto (omega arith) i && up_to-has 65535 h.a (omega arith) i && up_to-has 65535 h.b (omega arith) i && any_flag h.est i && up_to-has 63 h.dscp (omega arith) i)
    ∙ ap (λ t. t && nat_lt h.dscp 64) (and_true (nat_lt h.src (2 ^ 32) && nat_lt h.dst (2 ^ 32) && nat_lt h.proto 256 && nat_lt h.a 65536 && nat_lt h.b 65536))

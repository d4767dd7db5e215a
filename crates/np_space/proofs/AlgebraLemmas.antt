-- The algebra of blocks: common headers, differences, and counts over lists of blocks.
use Rattle.std.proofs.Common.{◌≡◌, ℕ, zero, suc, ◌+◌, ◌<◌, ◌≤◌, Bool, true, false, List, [], ◌∷◌, ◌++◌, length, get_or, cond, refl, sym, ◌∙◌, ap, arith, inl, inr, nat_lt, nat_le}
use Rattle.std.specs.Prelude.{◌&&◌, ◌||◌, not, ◌↔◌, Option, Some, None, IsNone, Result, Ok, Err, IfOk, IsTrue, count_by}
use Rattle.std.proofs.lemmas.Bool.{and_parts, and_right, true≢false, cases_Bool, lt-ltb, ltb-true, ltb-false}
use Rattle.std.proofs.lemmas.Bool.Decides.{nat_tests}
use Rattle.std.proofs.lemmas.List.Sums.{sum_by-cons, sum_by_push, sum_by-append}
use Rattle.std.proofs.lemmas.List.Folds.{list_any_at, list_any-append, list_any_none}
use Rattle.std.proofs.lemmas.List.Kept.{AllPairs-cons}
use Rattle.np_space.specs.Bit.{has_bit}
use Rattle.np_space.specs.Flag.{flag_number, same_flag, some_has}
use Rattle.np_space.specs.Header.{has_widths}
use Rattle.np_space.specs.Patterns.{any_address}
use Rattle.np_space.specs.Span.{span_has, IsPartOf}
use Rattle.np_space.specs.Ternary.{ternary_has, SameBit}
use Rattle.np_space.specs.Block.{block_has, everything, address_of, address_number, span_of, has_with_address, has_with_span, count_having, any_has, AreApart, AreDisjoint, HasMoved}
use Rattle.np_space.specs.declared.headers.Header.{Header}
use Rattle.np_space.specs.declared.patterns.Ternary.{Ternary}
use Rattle.np_space.specs.declared.spans.Span.{Span}
use Rattle.np_space.specs.declared.blocks.Block.{Block}
use Rattle.np_space.specs.declared.blocks.AddressField.{AddressField}
use Rattle.np_space.specs.declared.blocks.AddressField.TheVariants.{Src, Dst}
use Rattle.np_space.specs.declared.blocks.SpanField.{SpanField}
use Rattle.np_space.specs.declared.blocks.SpanField.TheVariants.{Proto, A, B, Est, Dscp}
use Rattle.np_space.proofs.FlagLemmas.{and_swap, and_true, and_join, and_sum, and_sum_three, flag_small, flag_apart}
use Rattle.np_space.proofs.BlockLemmas.{fields_in, least_of, has_least}
use Rattle.np_space.proofs.MadeLemmas.{any_address-has, everything-has}
use Rattle.np_space.proofs.PatternLemmas.{pattern_same, pattern_width}

-- ---- the common headers

-- two tests of which one follows from each block's, and which are never both passed
pub apart_by : (x y : Block) (h : Header) (p q : Bool) → (block_has x h ≡ true → p ≡ true) → (block_has y h ≡ true → q ≡ true) → false ≡ (p && q) → (block_has x h && block_has y h) ≡ false
apart_by x y h p q px qy apart =
    elim (cases_Bool (block_has x h && block_has y h)) [
      | inr neither ↦ neither
      | inl common ↦
          let both = and_parts (block_has x h) (block_has y h) common in
          absurd (true≢false (sym (λ i. px both.0 i && qy both.1 i) ∙ sym apart))
    ]

-- fields with the common numbers make a block with the common headers
pub fields_meet : (x y m : Block) → ((v : ℕ) → ternary_has m.src v ≡ (ternary_has x.src v && ternary_has y.src v)) → ((v : ℕ) → ternary_has m.dst v ≡ (ternary_has x.dst v && ternary_has y.dst v)) → ((v : ℕ) → span_has m.proto v ≡ (span_has x.proto v && span_has y.proto v)) → ((v : ℕ) → span_has m.a v ≡ (span_has x.a v && span_has y.a v)) → ((v : ℕ) → span_has m.b v ≡ (span_has x.b v && span_has y.b v)) → ((v : ℕ) → span_has m.est v ≡ (span_has x.est v && span_has y.est v)) → ((v : ℕ) → span_has m.dscp v ≡ (span_has x.dscp v && span_has y.dscp v)) → (h : Header) → block_has m h ≡ (block_has x h && block_has y h)
unfolding block_has
fields_meet x y m hsrc hdst hproto ha hb hest hdscp h =
    let addresses = and_join _ _ (ternary_has x.src h.src) (ternary_has y.src h.src) (ternary_has x.dst h.dst) (ternary_has y.dst h.dst) (hsrc h.src) (hdst h.dst) in
    let with_proto = and_join _ _ _ _ (span_has x.proto h.proto) (span_has y.proto h.proto) addresses (hproto h.proto) in
    let with_a = and_join _ _ _ _ (span_has x.a h.a) (span_has y.a h.a) with_proto (ha h.a) in
    let with_b = and_join _ _ _ _ (span_has x.b h.b) (span_has y.b h.b) with_a (hb h.b) in
    let with_est = and_join _ _ _ _ (span_has x.est (flag_number h.est)) (span_has y.est (flag_number h.est)) with_b (hest (flag_number h.est)) in
    and_join _ _ _ _ (span_has x.dscp h.dscp) (span_has y.dscp h.dscp) with_est (hdscp h.dscp)

-- no common block says that there is no common header
pub none_exact : (x y : Block) (r : Option Block) → r ≡ None → ((h : Header) → (block_has x h && block_has y h) ≡ false) → (h : Header) → some_has block_has r h ≡ (block_has x h && block_has y h)
none_exact x y r e apart h = ap (λ o. some_has block_has o h) e ∙ sym (apart h)

module _ (x y : Block) where
  -- sources without a common address
  pub apart_src : ((v : ℕ) → false ≡ (ternary_has x.src v && ternary_has y.src v)) → (h : Header) → (block_has x h && block_has y h) ≡ false
  apart_src apart h = apart_by x y h (ternary_has x.src h.src) (ternary_has y.src h.src) (λ e. (fields_in x h e).src) (λ e. (fields_in y h e).src) (apart h.src)

  -- destinations without a common address
  pub apart_dst : ((v : ℕ) → false ≡ (ternary_has x.dst v && ternary_has y.dst v)) → (h : Header) → (block_has x h && block_has y h) ≡ false
  apart_dst apart h = apart_by x y h (ternary_has x.dst h.dst) (ternary_has y.dst h.dst) (λ e. (fields_in x h e).dst) (λ e. (fields_in y h e).dst) (apart h.dst)

  -- protocols without a common number
  pub apart_proto : ((v : ℕ) → false ≡ (span_has x.proto v && span_has y.proto v)) → (h : Header) → (block_has x h && block_has y h) ≡ false
  apart_proto apart h = apart_by x y h (span_has x.proto h.proto) (span_has y.proto h.proto) (λ e. (fields_in x h e).proto) (λ e. (fields_in y h e).proto) (apart h.proto)

  -- spans of `a` without a common number
  pub apart_a : ((v : ℕ) → false ≡ (span_has x.a v && span_has y.a v)) → (h : Header) → (block_has x h && block_has y h) ≡ false
  apart_a apart h = apart_by x y h (span_has x.a h.a) (span_has y.a h.a) (λ e. (fields_in x h e).a) (λ e. (fields_in y h e).a) (apart h.a)

  -- spans of `b` without a common number
  pub apart_b : ((v : ℕ) → false ≡ (span_has x.b v && span_has y.b v)) → (h : Header) → (block_has x h && block_has y h) ≡ false
  apart_b apart h = apart_by x y h (span_has x.b h.b) (span_has y.b h.b) (λ e. (fields_in x h e).b) (λ e. (fields_in y h e).b) (apart h.b)

  -- spans of `est` without a common number
  pub apart_est : ((v : ℕ) → false ≡ (span_has x.est v && span_has y.est v)) → (h : Header) → (block_has x h && block_has y h) ≡ false
  apart_est apart h = apart_by x y h (span_has x.est (flag_number h.est)) (span_has y.est (flag_number h.est)) (λ e. (fields_in x h e).est) (λ e. (fields_in y h e).est) (apart (flag_number h.est))

  -- spans of `dscp` without a common number
  pub apart_dscp : ((v : ℕ) → false ≡ (span_has x.dscp v && span_has y.dscp v)) → (h : Header) → (block_has x h && block_has y h) ≡ false
  apart_dscp apart h = apart_by x y h (span_has x.dscp h.dscp) (span_has y.dscp h.dscp) (λ e. (fields_in x h e).dscp) (λ e. (fields_in y h e).dscp) (apart h.dscp)

-- there is no common block exactly where there is no common header, since each block has one
pub none_common : (x y : Block) (r : Option Block) → ((h : Header) → some_has block_has r h ≡ (block_has x h && block_has y h)) → IsNone r ↔ ((h : Header) → (block_has x h && block_has y h) ≡ false)
none_common x y None exact = (λ _ h. sym (exact h), λ _. refl)
none_common x y (Some m) exact =
    (λ bad. absurd (true≢false bad), λ apart. absurd (true≢false (sym (has_least m) ∙ exact (least_of m) ∙ apart (least_of m))))

-- ---- one field changed

-- Each of seven tests may stand last.
first_last : (s d p a b e c : Bool) → (s && d && p && a && b && e && c) ≡ ((d && p && a && b && e && c) && s)
first_last false d p a b e c = sym (and_right (d && p && a && b && e && c) false refl)
first_last true d p a b e c = sym (and_true (d && p && a && b && e && c))

-- the second
second_last : (s d p a b e c : Bool) → (s && d && p && a && b && e && c) ≡ ((s && p && a && b && e && c) && d)
second_last s false p a b e c = ap (λ t. t && p && a && b && e && c) (and_right s false refl) ∙ sym (and_right (s && p && a && b && e && c) false refl)
second_last s true p a b e c = ap (λ t. t && p && a && b && e && c) (and_true s) ∙ sym (and_true (s && p && a && b && e && c))

-- the third
third_last : (s d p a b e c : Bool) → (s && d && p && a && b && e && c) ≡ ((s && d && a && b && e && c) && p)
third_last s d false a b e c = ap (λ t. t && a && b && e && c) (and_right (s && d) false refl) ∙ sym (and_right (s && d && a && b && e && c) false refl)
third_last s d true a b e c = ap (λ t. t && a && b && e && c) (and_true (s && d)) ∙ sym (and_true (s && d && a && b && e && c))

-- the fourth
fourth_last : (s d p a b e c : Bool) → (s && d && p && a && b && e && c) ≡ ((s && d && p && b && e && c) && a)
fourth_last s d p false b e c = ap (λ t. t && b && e && c) (and_right (s && d && p) false refl) ∙ sym (and_right (s && d && p && b && e && c) false refl)
fourth_last s d p true b e c = ap (λ t. t && b && e && c) (and_true (s && d && p)) ∙ sym (and_true (s && d && p && b && e && c))

-- the fifth
fifth_last : (s d p a b e c : Bool) → (s && d && p && a && b && e && c) ≡ ((s && d && p && a && e && c) && b)
fifth_last s d p a false e c = ap (λ t. t && e && c) (and_right (s && d && p && a) false refl) ∙ sym (and_right (s && d && p && a && e && c) false refl)
fifth_last s d p a true e c = ap (λ t. t && e && c) (and_true (s && d && p && a)) ∙ sym (and_true (s && d && p && a && e && c))

-- the sixth
sixth_last : (s d p a b e c : Bool) → (s && d && p && a && b && e && c) ≡ ((s && d && p && a && b && c) && e)
sixth_last s d p a b e c = and_swap (s && d && p && a && b) e c

-- the number that the field's span is about
abbrev pub span_number : SpanField → Header → ℕ
span_number Proto h = h.proto
span_number A h = h.a
span_number B h = h.b
span_number Est h = flag_number h.est
span_number Dscp h = h.dscp

-- the tests of the other fields
other_address : AddressField → Block → Header → Bool
other_address Src b h = ternary_has b.dst h.dst && span_has b.proto h.proto && span_has b.a h.a && span_has b.b h.b && span_has b.est (flag_number h.est) && span_has b.dscp h.dscp
other_address Dst b h = ternary_has b.src h.src && span_has b.proto h.proto && span_has b.a h.a && span_has b.b h.b && span_has b.est (flag_number h.est) && span_has b.dscp h.dscp

-- the same for a field with a span
other_span : SpanField → Block → Header → Bool
other_span Proto b h = ternary_has b.src h.src && ternary_has b.dst h.dst && span_has b.a h.a && span_has b.b h.b && span_has b.est (flag_number h.est) && span_has b.dscp h.dscp
other_span A b h = ternary_has b.src h.src && ternary_has b.dst h.dst && span_has b.proto h.proto && span_has b.b h.b && span_has b.est (flag_number h.est) && span_has b.dscp h.dscp
other_span B b h = ternary_has b.src h.src && ternary_has b.dst h.dst && span_has b.proto h.proto && span_has b.a h.a && span_has b.est (flag_number h.est) && span_has b.dscp h.dscp
other_span Est b h = ternary_has b.src h.src && ternary_has b.dst h.dst && span_has b.proto h.proto && span_has b.a h.a && span_has b.b h.b && span_has b.dscp h.dscp
other_span Dscp b h = ternary_has b.src h.src && ternary_has b.dst h.dst && span_has b.proto h.proto && span_has b.a h.a && span_has b.b h.b && span_has b.est (flag_number h.est)

-- the field's test stands beside those of the other fields
address_apart : (field : AddressField) (b : Block) (h : Header) (p : Ternary) → has_with_address field p b h ≡ (other_address field b h && ternary_has p (address_number field h))
unfolding has_with_address other_address
address_apart Src b h p = first_last (ternary_has p h.src) (ternary_has b.dst h.dst) (span_has b.proto h.proto) (span_has b.a h.a) (span_has b.b h.b) (span_has b.est (flag_number h.est)) (span_has b.dscp h.dscp)
address_apart Dst b h p = second_last (ternary_has b.src h.src) (ternary_has p h.dst) (span_has b.proto h.proto) (span_has b.a h.a) (span_has b.b h.b) (span_has b.est (flag_number h.est)) (span_has b.dscp h.dscp)

-- the same for a field with a span
span_apart : (field : SpanField) (b : Block) (h : Header) (s : Span) → has_with_span field s b h ≡ (other_span field b h && span_has s (span_number field h))
unfolding has_with_span other_span
span_apart Proto b h s = third_last (ternary_has b.src h.src) (ternary_has b.dst h.dst) (span_has s h.proto) (span_has b.a h.a) (span_has b.b h.b) (span_has b.est (flag_number h.est)) (span_has b.dscp h.dscp)
span_apart A b h s = fourth_last (ternary_has b.src h.src) (ternary_has b.dst h.dst) (span_has b.proto h.proto) (span_has s h.a) (span_has b.b h.b) (span_has b.est (flag_number h.est)) (span_has b.dscp h.dscp)
span_apart B b h s = fifth_last (ternary_has b.src h.src) (ternary_has b.dst h.dst) (span_has b.proto h.proto) (span_has b.a h.a) (span_has s h.b) (span_has b.est (flag_number h.est)) (span_has b.dscp h.dscp)
span_apart Est b h s = sixth_last (ternary_has b.src h.src) (ternary_has b.dst h.dst) (span_has b.proto h.proto) (span_has b.a h.a) (span_has b.b h.b) (span_has s (flag_number h.est)) (span_has b.dscp h.dscp)
span_apart Dscp b h s = refl

-- a block with its own pattern is itself
pub own_address : (field : AddressField) (b : Block) (h : Header) → has_with_address field (address_of field b) b h ≡ block_has b h
unfolding has_with_address block_has
own_address Src b h = refl
own_address Dst b h = refl

-- the widest block with a pattern tests the pattern, and that the fields are of their widths
pub address_alone : (field : AddressField) (p : Ternary) (h : Header) → has_with_address field p everything h ≡ (has_widths h && ternary_has p (address_number field h))
address_alone field p h =
    address_apart field everything h p
    ∙ by (other_address field everything h) (ternary_has any_address v) (ternary_has p v) (λ has. any_address-has v ∙ lt-ltb v 4294967296 (pattern_width p.value p.wild v has))
    ∙ ap (λ b. b && ternary_has p v) (any field ∙ own_address field everything h ∙ everything-has h)
  where
    v : ℕ
    v = address_number field h

    by : (s t u : Bool) → (u ≡ true → t ≡ true) → (s && u) ≡ ((s && t) && u)
    by false t u f = refl
    by true t false f = sym (and_right t false refl)
    by true t true f = sym (f refl) ∙ sym (and_true t)

    any : (f : AddressField) → (other_address f everything h && ternary_has any_address (address_number f h)) ≡ has_with_address f (address_of f everything) everything h
    any Src = sym (address_apart Src everything h any_address)
    any Dst = sym (address_apart Dst everything h any_address)

-- patterns with the same bits make the same block
pub same_address : (field : AddressField) (b : Block) (h : Header) (p q : Ternary) → ((i : ℕ) → i < 32 → SameBit p q i) → has_with_address field p b h ≡ has_with_address field q b h
same_address field b h p q same =
    let v = address_number field h in
    address_apart field b h p
    ∙ ap (λ t. other_address field b h && t) (pattern_same p.value p.wild q.value q.wild v (λ i l. λ j. (same i l).wild j || same_flag (has_bit v i) ((same i l).value j)))
    ∙ sym (address_apart field b h q)

-- a block with its own span is itself
pub own_span : (field : SpanField) (b : Block) (h : Header) → has_with_span field (span_of field b) b h ≡ block_has b h
unfolding has_with_span block_has
own_span Proto b h = refl
own_span A b h = refl
own_span B b h = refl
own_span Est b h = refl
own_span Dscp b h = refl

-- where the numbers of a pattern are those of two others, so are the headers
pub address_sum : (field : AddressField) (b : Block) (h : Header) (p q : Ternary) (r : Option Ternary) → ((v : ℕ) → flag_number (ternary_has p v) ≡ flag_number (ternary_has q v) + flag_number (some_has ternary_has r v)) → flag_number (has_with_address field p b h) ≡ flag_number (has_with_address field q b h) + flag_number (some_has (λ t. has_with_address field t b) r h)
address_sum field b h p q r parts =
    let v = address_number field h in
    ap flag_number (address_apart field b h p) ∙ and_sum (other_address field b h) (ternary_has p v) (ternary_has q v) (some_has ternary_has r v) (parts v)
    ∙ (λ i. flag_number (sym (address_apart field b h q) i) + flag_number (taken r i))
  where
    taken : (r : Option Ternary) → (other_address field b h && some_has ternary_has r (address_number field h)) ≡ some_has (λ t. has_with_address field t b) r h
    taken None = and_right (other_address field b h) false refl
    taken (Some t) = sym (address_apart field b h t)

-- a number of a span is in its part, below or above
number_parts : (low high from to v : ℕ) → low ≤ from → from ≤ to → to ≤ high → flag_number (nat_le low v && nat_le v high) ≡ flag_number (nat_le from v && nat_le v to) + flag_number ((nat_le low v && nat_le v high) && nat_lt v from) + flag_number ((nat_le low v && nat_le v high) && nat_lt to v)
number_parts low high from to v l m r = grind (arith, nat_tests)

-- a span is a part of it, with what lies below the part and what lies above
span_parts : (whole part : Span) → IsPartOf part whole → (v : ℕ) → flag_number (span_has whole v) ≡ flag_number (span_has part v) + flag_number (span_has whole v && nat_lt v part.low) + flag_number (span_has whole v && nat_lt part.high v)
span_parts whole part inside v = number_parts whole.low whole.high part.low part.high v inside.low part.ordered inside.high

-- where a span falls into three, so do the headers of the block
span_sum : (field : SpanField) (b : Block) (h : Header) (part : Span) (below above : Option Span) → IsPartOf part (span_of field b) → ((v : ℕ) → some_has span_has below v ≡ (span_has (span_of field b) v && nat_lt v part.low)) → ((v : ℕ) → some_has span_has above v ≡ (span_has (span_of field b) v && nat_lt part.high v)) → flag_number (block_has b h) ≡ flag_number (has_with_span field part b h) + flag_number (some_has (λ s. has_with_span field s b) below h) + flag_number (some_has (λ s. has_with_span field s b) above h)
span_sum field b h part below above inside lower upper =
    ap flag_number (sym (own_span field b h) ∙ span_apart field b h (span_of field b))
    ∙ and_sum_three (other_span field b h) _ _ _ _ (span_parts (span_of field b) part inside (span_number field h))
    ∙ (λ i. flag_number (sym (span_apart field b h part) i) + flag_number ((ap (λ t. other_span field b h && t) (sym (lower (span_number field h))) ∙ piece below) i) + flag_number ((ap (λ t. other_span field b h && t) (sym (upper (span_number field h))) ∙ piece above) i))
  where
    piece : (r : Option Span) → (other_span field b h && some_has span_has r (span_number field h)) ≡ some_has (λ s. has_with_span field s b) r h
    piece None = and_right (other_span field b h) false refl
    piece (Some s) = sym (span_apart field b h s)

-- the same for a span that is known by an equation
pub span_sum_of : (field : SpanField) (b : Block) (h : Header) (part own : Span) (below above : Option Span) → own ≡ span_of field b → IsPartOf part (span_of field b) → ((v : ℕ) → some_has span_has below v ≡ (span_has own v && nat_lt v part.low)) → ((v : ℕ) → some_has span_has above v ≡ (span_has own v && nat_lt part.high v)) → flag_number (block_has b h) ≡ flag_number (has_with_span field part b h) + flag_number (some_has (λ s. has_with_span field s b) below h) + flag_number (some_has (λ s. has_with_span field s b) above h)
span_sum_of field b h part own below above e inside lower upper =
    span_sum field b h part below above inside
    (λ v. lower v ∙ ap (λ s. span_has s v && nat_lt v part.low) e)
    (λ v. upper v ∙ ap (λ s. span_has s v && nat_lt part.high v) e)

-- ---- counts

-- no blocks have no header
pub count_none : (h : Header) → count_having [] h ≡ 0
unfolding count_having
count_none h = refl

-- a test as a number
flag_cond : (b : Bool) → cond b 1 0 ≡ flag_number b
flag_cond false = refl
flag_cond true = refl

-- a block more at the end
pub count_push : (bs : List Block) (b : Block) (h : Header) → count_having (bs ++ b ∷ []) h ≡ count_having bs h + flag_number (block_has b h)
unfolding count_having
count_push bs b h = sum_by_push (λ x. cond (block_has x h) 1 0) bs b ∙ ap (λ n. count_by (λ x. block_has x h) bs + n) (flag_cond (block_has b h))

-- a block more at the start
pub count_cons : (bs : List Block) (b : Block) (h : Header) → count_having (b ∷ bs) h ≡ flag_number (block_has b h) + count_having bs h
unfolding count_having
count_cons bs b h = sum_by-cons (λ x. cond (block_has x h) 1 0) b bs ∙ ap (λ n. n + count_by (λ x. block_has x h) bs) (flag_cond (block_has b h))

-- some block has the header exactly where the count is above 0
pub count_any : (bs : List Block) (h : Header) → any_has bs h ≡ nat_lt 0 (count_having bs h)
count_any [] h = sym (ap (λ n. nat_lt 0 n) (count_none h))
count_any (b ∷ bs) h = ap (λ t. block_has b h || t) (count_any bs h) ∙ by (block_has b h) (count_having bs h) ∙ sym (ap (λ n. nat_lt 0 n) (count_cons bs b h))
  where
    by : (t : Bool) (n : ℕ) → (t || nat_lt 0 n) ≡ nat_lt 0 (flag_number t + n)
    by t n = grind (arith, nat_tests)

-- where the count is that of a test, so is the answer
pub any_from_count : (bs : List Block) (h : Header) (t : Bool) → count_having bs h ≡ flag_number t → any_has bs h ≡ t
any_from_count bs h t e = count_any bs h ∙ ap (λ n. nat_lt 0 n) e ∙ by t
  where
    by : (t : Bool) → nat_lt 0 (flag_number t) ≡ t
    by false = refl
    by true = refl

-- a block of the list that has the header counts
pub count_at : (bs : List Block) (h : Header) (i : ℕ) (d : Block) → i < length bs → block_has (get_or bs i d) h ≡ true → 0 < count_having bs h
count_at bs h i d l has =
    ltb-true 0 (count_having bs h) (sym (count_any bs h) ∙ list_any_at (λ b. block_has b h) bs i d l has)

-- where no header counts twice, no two blocks have one in common
pub disjoint_from_count : (bs : List Block) → ((h : Header) → count_having bs h ≤ 1) → AreDisjoint bs
disjoint_from_count [] once = λ i j d lt within. absurd (omega arith)
disjoint_from_count (b ∷ bs) once =
    AllPairs-cons AreApart b bs
    (λ k d within h. apart h (block_has b h) (block_has (get_or bs k d) h) refl k d within refl)
    (disjoint_from_count bs (λ h. let more = count_cons bs b h in omega (arith, once h)))
  where
    apart : (h : Header) (s t : Bool) → block_has b h ≡ s → (k : ℕ) (d : Block) → k < length bs → block_has (get_or bs k d) h ≡ t → (s && t) ≡ false
    apart h false t e k d within f = refl
    apart h true false e k d within f = refl
    apart h true true e k d within f =
        let both = count_cons bs b h ∙ ap (λ s. flag_number s + count_having bs h) e in
        let other = count_at bs h k d within f in
        absurd (omega (arith, once h))

-- the blocks of two lists, one list after the other
pub count_append : (bs cs : List Block) (h : Header) → count_having (bs ++ cs) h ≡ count_having bs h + count_having cs h
unfolding count_having
count_append bs cs h = sum_by-append (λ b. cond (block_has b h) 1 0) bs cs

-- some block of two lists
pub any_append : (bs cs : List Block) (h : Header) → any_has (bs ++ cs) h ≡ (any_has bs h || any_has cs h)
any_append bs cs h = list_any-append (λ b. block_has b h) bs cs

-- no header counts twice in disjoint blocks
pub count_from_disjoint : (bs : List Block) → AreDisjoint bs → (h : Header) → count_having bs h ≤ 1
count_from_disjoint [] apart h = omega (arith, count_none h)
count_from_disjoint (b ∷ bs) apart h =
    by (block_has b h) refl (count_from_disjoint bs (λ i j d lt within. apart (suc i) (suc j) d (omega arith) (omega arith)) h)
  where
    -- the block has the header, so no later one has it
    later : block_has b h ≡ true → (k : ℕ) (d : Block) → k < length bs → block_has (get_or bs k d) h ≡ false
    later has k d within = sym (ap (λ t. t && block_has (get_or bs k d) h) has) ∙ apart 0 (suc k) d (omega arith) (omega arith) h

    none : block_has b h ≡ true → nat_lt 0 (count_having bs h) ≡ false
    none has = sym (count_any bs h) ∙ list_any_none (λ c. block_has c h) bs (later has)

    by : (t : Bool) → block_has b h ≡ t → count_having bs h ≤ 1 → count_having (b ∷ bs) h ≤ 1
    by false e rest = let one = count_cons bs b h ∙ ap (λ t. flag_number t + count_having bs h) e in omega (arith, rest)
    by true e rest =
        let one = count_cons bs b h ∙ ap (λ t. flag_number t + count_having bs h) e in
        let no_more = ltb-false 0 (count_having bs h) (none e) in
        omega arith

-- so the count is the answer as a number
pub count_is_any : (bs : List Block) → AreDisjoint bs → (h : Header) → count_having bs h ≡ flag_number (any_has bs h)
count_is_any bs apart h = by (count_having bs h) (count_from_disjoint bs apart h) ∙ ap flag_number (sym (count_any bs h))
  where
    by : (n : ℕ) → n ≤ 1 → n ≡ flag_number (nat_lt 0 n)
    by zero l = refl
    by (suc zero) l = refl
    by (suc (suc n)) l = absurd (omega arith)

-- ---- differences

-- the headers of x that are in no common block of x and y are those that y lacks
pub count_difference : (x y : Block) (m : Block) (bs : List Block) → ((h : Header) → block_has m h ≡ (block_has x h && block_has y h)) → HasMoved (block_has x) (block_has m) [] bs → (h : Header) → count_having bs h ≡ flag_number (block_has x h && not (block_has y h))
count_difference x y m bs common moved h =
    let none = count_none h in
    let both = ap flag_number (common h) in
    let parts = flag_apart (block_has x h) (block_has y h) in
    omega (arith, moved h)

-- where the blocks have no header in common, y lacks all of x
pub count_alone : (x y : Block) → ((h : Header) → (block_has x h && block_has y h) ≡ false) → (h : Header) → count_having (x ∷ []) h ≡ flag_number (block_has x h && not (block_has y h))
count_alone x y apart h = count_cons [] x h ∙ ap (λ n. flag_number (block_has x h) + n) (count_none h) ∙ by (block_has x h) (block_has y h) (apart h)
  where
    by : (s t : Bool) → (s && t) ≡ false → flag_number s + 0 ≡ flag_number (s && not t)
    by false t e = refl
    by true false e = refl
    by true true e = absurd (true≢false e)

-- what the counts say of a difference
module _ (x y : Block) (bs : List Block) (once : (h : Header) → count_having bs h ≡ flag_number (block_has x h && not (block_has y h))) where
  -- together the blocks have what the second lacks
  pub difference_together : (h : Header) → any_has bs h ≡ (block_has x h && not (block_has y h))
  difference_together h = any_from_count bs h (block_has x h && not (block_has y h)) (once h)

  -- and no two of them have a header in common
  pub difference_disjoint : AreDisjoint bs
  difference_disjoint = disjoint_from_count bs (λ h. omega (arith, once h, flag_small (block_has x h && not (block_has y h))))

  -- a list of blocks without headers is empty, since each block has one
  pub difference_empty : (bs ≡ []) ↔ ((h : Header) → IsTrue (block_has x h) → IsTrue (block_has y h))
  difference_empty = (
    (λ e h has. by (block_has x h) (block_has y h) has (sym (difference_together h) ∙ ap (λ l. any_has l h) e)),
    (λ all. nothing bs (λ h. difference_together h ∙ within (block_has x h) (block_has y h) (all h))),
  )
    where
      by : (s t : Bool) → s ≡ true → (s && not t) ≡ false → t ≡ true
      by false t e f = absurd (true≢false (sym e))
      by true false e f = sym f
      by true true e f = refl

      within : (s t : Bool) → (s ≡ true → t ≡ true) → (s && not t) ≡ false
      within false t f = refl
      within true t f = ap not (f refl)

      nothing : (cs : List Block) → ((h : Header) → any_has cs h ≡ false) → cs ≡ []
      nothing [] none = refl
      nothing (c ∷ cs) none = absurd (true≢false (sym (ap (λ t. t || any_has cs (least_of c)) (has_least c)) ∙ none (least_of c)))

-- what holds of the value in an `Ok`, by what else holds of it
pub if_ok : {A E : Type 0} {P Q : A → Type 0} (r : Result A E) → ((v : A) → P v → Q v) → IfOk r P → IfOk r Q
if_ok (Ok v) f p = f v p
if_ok (Err e) f p = p

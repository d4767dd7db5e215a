-- What the spans and patterns of an entry's words have.
use Rattle.std.proofs.Common.{◌≡◌, ℕ, ◌+◌, ◌-◌, ◌<◌, ◌≤◌, ◌*◌, ◌/◌, Bool, true, false, List, [], ◌∷◌, map, fold, refl, sym, ◌∙◌, ap, arith, nat_lt, nat_le, nat_eq}
use Rattle.std.specs.Prelude.{◌&&◌, ◌||◌, not, if◌then◌else◌}
use Rattle.std.specs.List.{AllByRecursion, list_any}
use Rattle.std.proofs.lemmas.Bool.{ltb-true, ltb-false, leb-true, and_parts, eqb-true}
use Rattle.std.proofs.lemmas.Bool.Decides.{nat_tests}
use Rattle.std.proofs.lemmas.List.Folds.{list_any-append}
use Rattle.np_space.specs.Span.{span_from, span_has}
use Rattle.np_space.specs.declared.spans.Span.{Span}
use Rattle.np_space.proofs.FlagLemmas.{and_true, or_false}
use Rattle.np_space.proofs.MadeLemmas.{span_from-has}
use Rattle.np_acl.specs.Entries.{ports_have}
use Rattle.np_acl.specs.Spans.{any_number}
use Rattle.np_entry_read.specs.Spans.{only, below, above, around, span_without, spans_without, all_but, precedence_span}

-- ---- ports

-- spans of one or none
one_span : (s : Span) (x : ℕ) (has : Bool) → span_has s x ≡ has → ports_have (s ∷ []) x ≡ has
one_span s x has e = or_false (span_has s x) ∙ e

pub ports_between : (low high x : ℕ) → low ≤ high → high ≤ 65535 → ports_have (span_from low high ∷ []) x ≡ (nat_le low x && nat_le x high)
ports_between low high x ordered small = one_span (span_from low high) x _ (span_from-has low high x ordered small)

within : (x : ℕ) → x ≤ 65535 → (nat_le 0 x && nat_le x 65535) ≡ true
within x small = grind (arith, nat_tests)

pub ports_any : (x : ℕ) → x ≤ 65535 → ports_have (any_number ∷ []) x ≡ true
ports_any x small = ports_between 0 65535 x (omega arith) (omega arith) ∙ within x small

-- the numbers from one on that are below another
ports_lower : (low n x : ℕ) → n ≤ 65535 → ports_have (if nat_lt low n then span_from low (n - 1) ∷ [] else []) x ≡ (nat_le low x && nat_lt x n)
ports_lower low n x small = by (nat_lt low n) refl
  where
    some : low < n → (nat_le low x && nat_le x (n - 1)) ≡ (nat_le low x && nat_lt x n)
    some l = grind (arith, nat_tests)

    none : n ≤ low → false ≡ (nat_le low x && nat_lt x n)
    none l = grind (arith, nat_tests)

    by : (b : Bool) → nat_lt low n ≡ b → ports_have (if b then span_from low (n - 1) ∷ [] else []) x ≡ (nat_le low x && nat_lt x n)
    by false e = none (ltb-false low n e)
    by true e = let l = ltb-true low n e in ports_between low (n - 1) x (omega arith) (omega arith) ∙ some l

-- the numbers up to one that are above another
ports_upper : (high n x : ℕ) → high ≤ 65535 → ports_have (if nat_lt n high then span_from (n + 1) high ∷ [] else []) x ≡ (nat_lt n x && nat_le x high)
ports_upper high n x small = by (nat_lt n high) refl
  where
    some : n < high → (nat_le (n + 1) x && nat_le x high) ≡ (nat_lt n x && nat_le x high)
    some l = grind (arith, nat_tests)

    none : high ≤ n → false ≡ (nat_lt n x && nat_le x high)
    none l = grind (arith, nat_tests)

    by : (b : Bool) → nat_lt n high ≡ b → ports_have (if b then span_from (n + 1) high ∷ [] else []) x ≡ (nat_lt n x && nat_le x high)
    by false e = none (ltb-false n high e)
    by true e = let l = ltb-true n high e in ports_between (n + 1) high x (omega arith) small ∙ some l

below_zero : (n x : ℕ) → (nat_le 0 x && nat_lt x n) ≡ nat_lt x n
below_zero n x = grind (arith, nat_tests)

pub ports_below : (n x : ℕ) → n ≤ 65535 → ports_have (below n) x ≡ nat_lt x n
ports_below n x small = ports_lower 0 n x small ∙ below_zero n x

above_last : (n x : ℕ) → x ≤ 65535 → (nat_lt n x && nat_le x 65535) ≡ nat_lt n x
above_last n x small = grind (arith, nat_tests)

pub ports_above : (n x : ℕ) → x ≤ 65535 → ports_have (above n) x ≡ nat_lt n x
ports_above n x small = ports_upper 65535 n x (omega arith) ∙ above_last n x small

one_number : (n x : ℕ) → (nat_le n x && nat_le x n) ≡ nat_eq x n
one_number n x = grind (arith, nat_tests)

pub ports_each : (ns : List ℕ) (x : ℕ) → AllByRecursion (λ n. n ≤ 65535) ns → ports_have (map only ns) x ≡ list_any (nat_eq x) ns
ports_each [] x small = refl
ports_each (n ∷ ns) x small = (λ j. (span_from-has n n x (omega arith) small.0 ∙ one_number n x) j || ports_each ns x small.1 j)

-- ---- ports left out

-- what is left of a span that has the number
ports_around : (s : Span) (n x : ℕ) → span_has s n ≡ true → ports_have (around s n) x ≡ (span_has s x && not (nat_eq x n))
ports_around s n x has =
    let parts = and_parts (nat_le s.low n) (nat_le n s.high) has in
    let low = leb-true s.low n parts.0 in
    let high = leb-true n s.high parts.1 in
    list_any-append (λ t. span_has t x) (if nat_lt s.low n then span_from s.low (n - 1) ∷ [] else []) (if nat_lt n s.high then span_from (n + 1) s.high ∷ [] else [])
    ∙ (λ j. ports_lower s.low n x (omega (arith, s.width)) j || ports_upper s.high n x (omega (arith, s.width)) j)
    ∙ joined s.low s.high low high
  where
    joined : (low high : ℕ) → low ≤ n → n ≤ high → ((nat_le low x && nat_lt x n) || (nat_lt n x && nat_le x high)) ≡ ((nat_le low x && nat_le x high) && not (nat_eq x n))
    joined low high l h = grind (arith, nat_tests)

-- a span that hasn't the number stays
ports_kept : (s : Span) (n x : ℕ) → span_has s n ≡ false → span_has s x ≡ (span_has s x && not (nat_eq x n))
ports_kept s n x has = by (nat_eq x n) refl
  where
    by : (b : Bool) → nat_eq x n ≡ b → span_has s x ≡ (span_has s x && not b)
    by false e = sym (and_true (span_has s x))
    by true e = ap (λ y. span_has s y) (eqb-true x n e) ∙ has ∙ sym (none (span_has s x))
      where
        none : (b : Bool) → (b && false) ≡ false
        none false = refl
        none true = refl

ports_without : (s : Span) (n x : ℕ) → ports_have (span_without n s) x ≡ (span_has s x && not (nat_eq x n))
ports_without s n x = by (span_has s n) refl
  where
    by : (b : Bool) → span_has s n ≡ b → ports_have (if b then around s n else s ∷ []) x ≡ (span_has s x && not (nat_eq x n))
    by false e = or_false (span_has s x) ∙ ports_kept s n x e
    by true e = ports_around s n x e

and_shared : (a b c : Bool) → ((a && c) || (b && c)) ≡ ((a || b) && c)
and_shared false b c = refl
and_shared true false false = refl
and_shared true false true = refl
and_shared true true false = refl
and_shared true true true = refl

all_without : (spans : List Span) (n x : ℕ) → ports_have (spans_without spans n) x ≡ (ports_have spans x && not (nat_eq x n))
all_without [] n x = refl
all_without (s ∷ spans) n x =
    list_any-append (λ t. span_has t x) (span_without n s) (spans_without spans n)
    ∙ (λ j. ports_without s n x j || all_without spans n x j)
    ∙ and_shared (span_has s x) (ports_have spans x) (not (nat_eq x n))

neither : (a b c : Bool) → ((a && not b) && not c) ≡ (a && not (b || c))
neither false b c = refl
neither true false c = refl
neither true true c = refl

each_without : (ns : List ℕ) (spans : List Span) (x : ℕ) → ports_have (fold spans_without spans ns) x ≡ (ports_have spans x && not (list_any (nat_eq x) ns))
each_without [] spans x = sym (and_true (ports_have spans x))
each_without (n ∷ ns) spans x =
    each_without ns (spans_without spans n) x
    ∙ ap (λ b. b && not (list_any (nat_eq x) ns)) (all_without spans n x)
    ∙ neither (ports_have spans x) (nat_eq x n) (list_any (nat_eq x) ns)

pub ports_all_but : (ns : List ℕ) (x : ℕ) → x ≤ 65535 → ports_have (all_but ns) x ≡ not (list_any (nat_eq x) ns)
ports_all_but ns x small = each_without ns (any_number ∷ []) x ∙ ap (λ b. b && not (list_any (nat_eq x) ns)) (ports_any x small)

-- ---- precedences

eighths : (precedence dscp : ℕ) → (nat_le (8 * precedence) dscp && nat_le dscp (8 * precedence + 7)) ≡ nat_eq (dscp / 8) precedence
eighths precedence dscp = grind (arith, nat_tests)

pub precedence_meant : (precedence dscp : ℕ) → precedence ≤ 7 → span_has (precedence_span precedence) dscp ≡ nat_eq (dscp / 8) precedence
precedence_meant precedence dscp small =
    span_from-has (8 * precedence) (8 * precedence + 7) dscp (omega arith) (omega arith) ∙ eighths precedence dscp

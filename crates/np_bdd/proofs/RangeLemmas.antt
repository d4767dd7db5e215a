-- The tests of ranges, by the highest bit of the number.
use Rattle.std.proofs.Common.{◌≡◌, ℕ, ◌+◌, ◌-◌, ◌<◌, ◌≤◌, ◌^◌, true, false, List, length, sym, ◌∙◌, ap, arith, min}
use Rattle.std.specs.Prelude.{◌&&◌}
use Rattle.std.proofs.lemmas.Bool.Decides.{nat_tests}
use Rattle.np_space.specs.Span.{span_has}
use Rattle.np_space.specs.declared.spans.Span.{Span}
use Rattle.np_bdd.specs.declared.views.View.{View}
use Rattle.np_bdd.specs.Views.{leads_to_yes}
use Rattle.np_bdd.specs.Nodes.{KeepsNodes, StartsAt, Chooses}
use Rattle.np_bdd.specs.Fields.{TestsField, AlwaysAnswers, IsField, range_has}
use Rattle.np_bdd.proofs.FieldLemmas.{split_field, field_kept}

-- ---- the tests

-- an empty range
range_none : (low end n : ℕ) → end ≤ low → range_has low end n ≡ false
range_none low end n e = grind (arith, nat_tests)

-- a whole one
range_all : (low end n : ℕ) → low ≡ 0 → n < end → range_has low end n ≡ true
range_all low end n l h = grind (arith, nat_tests)

-- the numbers whose highest bit is clear
range_below : (half low end n : ℕ) → n < half → range_has low end n ≡ range_has low (min end half) n
range_below half low end n l = grind (arith, nat_tests)

-- those where it is set
range_above : (half low end n : ℕ) → n < half → range_has low end (half + n) ≡ range_has (low - half) (end - half) n
range_above half low end n l = grind (arith, nat_tests)

-- ---- the nodes

-- an empty range needs no test
pub range_empty : (first width low end : ℕ) (views : List View) (tail x : ℕ) → end ≤ low → first + width ≤ 111 → AlwaysAnswers false views x
    → IsField (range_has low end) first width views tail x
range_empty first width low end views tail x e fits none = record {
  starts = record { there = none.starts.there; from = omega (arith, none.starts.from) };
  tests = λ bits n are. none.leads bits ∙ ap (λ b. b && leads_to_yes views bits tail) (sym (range_none low end n e));
}

-- nor does a whole one
pub range_whole : (first width low end : ℕ) (views : List View) (tail : ℕ) → low ≡ 0 → end ≡ 2 ^ width → StartsAt views (first + width) tail
    → IsField (range_has low end) first width views tail tail
range_whole first width low end views tail l e starts = record {
  starts = record { there = starts.there; from = omega (arith, starts.from) };
  tests = λ bits n are. ap (λ b. b && leads_to_yes views bits tail) (sym (range_all low end n l (rw e are.small)));
}

-- a node of both halves
halves : (first width w low end : ℕ) (next last new : List View) (tail zeros ones x : ℕ) → width ≡ 1 + w → tail < length next
    → KeepsNodes next last → KeepsNodes last new
    → IsField (range_has low (min end (2 ^ w))) (1 + first) w next tail zeros
    → IsField (range_has (low - 2 ^ w) (end - 2 ^ w)) (1 + first) w last tail ones
    → StartsAt new first x → Chooses new first zeros ones x → IsField (range_has low end) first width new tail x
halves first width w low end next last new tail zeros ones x e there a b below above starts chooses = record {
  starts = starts;
  tests =
      split_field (range_has low end) (range_has low (min end (2 ^ w))) (range_has (low - 2 ^ w) (end - 2 ^ w)) first width w e
      (λ n l. range_below (2 ^ w) low end n l) (λ n l. range_above (2 ^ w) low end n l) new tail zeros ones x
      (field_kept (range_has low (min end (2 ^ w))) (1 + first) w last new tail zeros b (a.there tail there) (a.there zeros below.starts.there)
      (field_kept (range_has low (min end (2 ^ w))) (1 + first) w next last tail zeros a there below.starts.there below.tests))
      (field_kept (range_has (low - 2 ^ w) (end - 2 ^ w)) (1 + first) w last new tail ones b (a.there tail there) above.starts.there above.tests)
      chooses;
}

-- the same with the numbers as the code makes them
pub range_halves : (first width w low end half below_end rest_low rest_end : ℕ) (next last new : List View) (tail zeros ones x : ℕ) → width ≡ 1 + w
    → half ≡ 2 ^ w → below_end ≡ min end half → rest_low ≡ low - half → rest_end ≡ end - half → tail < length next
    → KeepsNodes next last → KeepsNodes last new → IsField (range_has low below_end) (1 + first) w next tail zeros
    → IsField (range_has rest_low rest_end) (1 + first) w last tail ones
    → StartsAt new first x → Chooses new first zeros ones x → IsField (range_has low end) first width new tail x
range_halves first width w low end half below_end rest_low rest_end next last new tail zeros ones x e power e_below e_low e_end there a b below above starts chooses =
    halves first width w low end next last new tail zeros ones x e there a b (rw (e_below, power) at below) (rw (e_low, e_end, power) at above) starts chooses

-- ---- spans

-- a span is such a range
span_same : (s : Span) (low end n : ℕ) → low ≡ s.low → end ≡ s.high + 1 → range_has low end n ≡ span_has s n
span_same s low end n l e = grind (arith, nat_tests)

-- so is its node
pub range_of_span : (s : Span) (first width low end : ℕ) (views : List View) (tail x : ℕ) → low ≡ s.low → end ≡ s.high + 1
    → IsField (range_has low end) first width views tail x → TestsField (span_has s) first width views tail x
range_of_span s first width low end views tail x l e field bits n are =
    field.tests bits n are ∙ ap (λ b. b && leads_to_yes views bits tail) (span_same s low end n l e)

-- Spans of the DSCP field.
use Rattle.std.proofs.Common.{◌≡◌, ℕ, ◌≤◌, subst, ap, arith}
use Rattle.std.proofs.Props.{props}
use Rattle.np_pred.specs.declared.dscp.DscpSpan.{DscpSpan}
use Rattle.np_pred.specs.Dscp.{dscp_span_from}

module _ (l h : ℕ) where
  -- what the type says of its two numbers
  abbrev DscpFacts : Type 0
  DscpFacts = (l ≤ h) × (h ≤ 63)

  -- it says it in one way
  dscp_facts_prop : IsProp DscpFacts
  dscp_facts_prop = hlevel props

  -- the span of two numbers and these facts
  abbrev dscp_with : DscpFacts → DscpSpan
  dscp_with x = record { low = l; high = h; ordered = x.0; width = x.1 }

-- a span is its two numbers
pub same_dscp_span : (p q : DscpSpan) → p.low ≡ q.low → p.high ≡ q.high → p ≡ q
same_dscp_span p q e f =
    let facts : DscpFacts p.low p.high = (p.ordered, p.width) in
    let P : ℕ → Type 0 = λ l. (x : DscpFacts l p.high) → p ≡ dscp_with l p.high x in
    let one : P q.low = subst P e (λ x. ap (dscp_with p.low p.high) (dscp_facts_prop p.low p.high facts x)) in
    let Q : ℕ → Type 0 = λ h. (x : DscpFacts q.low h) → p ≡ dscp_with q.low h x in
    let two : Q q.high = subst Q f one in
    two (q.ordered, q.width)

-- the least value of a span that is made
pub low-dscp_span_from : (low high : ℕ) → low ≤ high → high ≤ 63 → (dscp_span_from low high).low ≡ low
unfolding dscp_span_from
low-dscp_span_from low high ordered small = omega arith

-- the greatest value of a span that is made
pub high-dscp_span_from : (low high : ℕ) → high ≤ 63 → (dscp_span_from low high).high ≡ high
unfolding dscp_span_from
high-dscp_span_from low high small = omega arith

-- a span that is made of its own numbers
pub dscp_span_from-own : (s : DscpSpan) → dscp_span_from s.low s.high ≡ s
dscp_span_from-own s =
    let small : s.high ≤ 63 = s.width in
    same_dscp_span (dscp_span_from s.low s.high) s (low-dscp_span_from s.low s.high s.ordered small) (high-dscp_span_from s.low s.high small)

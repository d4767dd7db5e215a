-- Spans of the DSCP field, as `46` and `8-15`.
use Rattle.std.specs.Prelude.{ℕ, ◌≤◌, min, Bool, ◌&&◌, nat_le, List, Option, option_map}
use Rattle.std.proofs.Common.{arith}
use Rattle.np_pred.specs.declared.dscp.DscpSpan.{DscpSpan}
use Rattle.np_pred.specs.Bounds.{bounds_of, bounds_text}

-- the least value is at most the greatest
pub dscp_ordered : (low high : ℕ) → min low high ≤ high
dscp_ordered low high = omega arith

-- the greatest is a DSCP value
pub dscp_width : (high : ℕ) → min high 63 ≤ 63
dscp_width high = omega arith

-- the values from low to high, where low is at most high and high at most 63
unfoldable pub dscp_span_from : ℕ → ℕ → DscpSpan
dscp_span_from low high =
    record { low = min low (min high 63); high = min high 63; ordered = dscp_ordered low (min high 63); width = dscp_width high }

-- the values from `low` to `high`, both among them
abbrev pub dscp_has : DscpSpan → ℕ → Bool
dscp_has s value = nat_le s.low value && nat_le value s.high

-- the values of a word
abbrev pub dscp_span_of : List ℕ → Option DscpSpan
dscp_span_of word = option_map (λ b. dscp_span_from b.0 b.1) (bounds_of 63 word)

-- the word of a span of values
abbrev pub dscp_text : DscpSpan → List ℕ
dscp_text s = bounds_text s.low s.high

-- What a span has, and the spans that two numbers make.
use Rattle.std.specs.Prelude.{ℕ, ◌<◌, ◌≤◌, ◌^◌, Bool, ◌&&◌, min, nat_le, Option, Some, None, if◌then◌else◌}
use Rattle.std.proofs.Common.{arith}
use Rattle.np_space.specs.declared.spans.Span.{Span}

-- the numbers from `low` to `high`, both among them
abbrev pub span_has : Span → ℕ → Bool
span_has s x = nat_le s.low x && nat_le x s.high

-- one span lies in another
pub record IsPartOf (part whole : Span) : Type 0 where
  pub low : whole.low ≤ part.low
  pub high : part.high ≤ whole.high

-- the least number is at most the greatest
pub span_ordered : (low high : ℕ) → min low high ≤ high
span_ordered low high = omega arith

-- the greatest is a port
pub span_below : (high : ℕ) → min high 65535 < 2 ^ 16
span_below high = omega arith

-- the numbers from `low` to `high`, where `low` is at most `high` and `high` at most 65535
unfoldable pub span_from : ℕ → ℕ → Span
span_from low high =
    record { low = min low (min high 65535); high = min high 65535; ordered = span_ordered low (min high 65535); width = span_below high }

-- the numbers from `low` to `high`, if there are any
abbrev pub span_between : ℕ → ℕ → Option Span
span_between low high = if nat_le low high then Some (span_from low high) else None

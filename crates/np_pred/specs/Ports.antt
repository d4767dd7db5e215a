-- Spans of ports, as `443` and `1024-65535`.
use Rattle.std.specs.Prelude.{ℕ, List, Option, option_map}
use Rattle.np_space.specs.declared.spans.Span.{Span}
use Rattle.np_pred.specs.Bounds.{bounds_of, bounds_text}
use Rattle.np_space.specs.Span.{span_from}

-- the ports of a word
abbrev pub ports_of : List ℕ → Option Span
ports_of word = option_map (λ b. span_from b.0 b.1) (bounds_of 65535 word)

-- the word of a span of ports
abbrev pub ports_text : Span → List ℕ
ports_text s = bounds_text s.low s.high

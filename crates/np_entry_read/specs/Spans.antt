-- The numbers that an entry tests.
use Rattle.std.specs.Prelude.{ℕ, ◌+◌, ◌*◌, ◌-◌, nat_lt, Bool, List, [], ◌∷◌, ◌++◌, fold, if◌then◌else◌}
use Rattle.std.specs.List.{flat_map}
use Rattle.np_space.specs.Span.{span_from, span_has}
use Rattle.np_space.specs.declared.spans.Span.{Span}
use Rattle.np_acl.specs.Spans.{any_flag, any_number}

-- one number
abbrev pub only : ℕ → Span
only n = span_from n n

-- the numbers below this one, if there are any
abbrev pub below : ℕ → List Span
below n = if nat_lt 0 n then span_from 0 (n - 1) ∷ [] else []

-- the ports above this one, if there are any
abbrev pub above : ℕ → List Span
above n = if nat_lt n 65535 then span_from (n + 1) 65535 ∷ [] else []

-- the numbers of a span below this one, and those above it
abbrev pub around : Span → ℕ → List Span
around s n = (if nat_lt s.low n then span_from s.low (n - 1) ∷ [] else []) ++ (if nat_lt n s.high then span_from (n + 1) s.high ∷ [] else [])

-- a span without this number
abbrev pub span_without : ℕ → Span → List Span
span_without n s = if span_has s n then around s n else s ∷ []

-- spans without this number
abbrev pub spans_without : List Span → ℕ → List Span
spans_without spans n = flat_map (span_without n) spans

-- the ports other than these
abbrev pub all_but : List ℕ → List Span
all_but ns = fold spans_without (any_number ∷ []) ns

-- the flag of an entry that asks for established connections, or doesn't ask
abbrev pub flag_test : Bool → Span
flag_test established = if established then only 1 else any_flag

-- the code points of a precedence, which is their upper three bits
abbrev pub precedence_span : ℕ → Span
precedence_span precedence = span_from (8 * precedence) (8 * precedence + 7)

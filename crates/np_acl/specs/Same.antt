-- Which spans, patterns, ports and entries are equal, as tests.
use Rattle.std.specs.Prelude.{Bool, ◌&&◌, List, nat_eq}
use Rattle.std.specs.Bool.{beq}
use Rattle.std.specs.Cmp.{IsEquivalence, and_equiv, nat_eq_equiv, on_equiv}
use Rattle.std.specs.Cmp.Lexicographic.{lists_equiv, pointwise}
use Rattle.std.specs.Ordering.{eq_of_both, on}
use Rattle.np_space.specs.declared.patterns.Ternary.{Ternary}
use Rattle.np_space.specs.declared.spans.Span.{Span}
use Rattle.np_acl.specs.declared.entries.Entry.{Entry}

-- both numbers are the same
abbrev pub equal_spans : Span → Span → Bool
equal_spans = eq_of_both (on (λ (s : Span). s.low) nat_eq) (on (λ (s : Span). s.high) nat_eq)

-- the value and the wild bits are the same
abbrev pub equal_patterns : Ternary → Ternary → Bool
equal_patterns = eq_of_both (on (λ (p : Ternary). p.value) nat_eq) (on (λ (p : Ternary). p.wild) nat_eq)

-- the spans are as many, and each is equal to the one at its place
abbrev pub equal_ports : List Span → List Span → Bool
equal_ports = pointwise equal_spans

-- `==` of ports is an equivalence
pub equal_ports-equiv : IsEquivalence equal_ports
equal_ports-equiv = lists_equiv (and_equiv (on_equiv (λ (s : Span). s.low) nat_eq_equiv) (on_equiv (λ (s : Span). s.high) nat_eq_equiv))

-- each field is equal
abbrev pub equal_entries : Entry → Entry → Bool
equal_entries x y =
    beq x.permit y.permit && (equal_spans x.proto y.proto && (equal_patterns x.src y.src && (equal_patterns x.dst y.dst
    && (equal_ports x.a y.a && (equal_ports x.b y.b && (equal_spans x.est y.est && equal_spans x.dscp y.dscp))))))

-- Spans, ports, entries and lists are the same where their tests say so.
use Rattle.std.proofs.Common.{◌≡◌, ap, List}
use Rattle.std.specs.Prelude.{◌==◌}
use Rattle.std.specs.Bool.{Decides}
use Rattle.std.specs.Cmp.{booleans_Decides}
use Rattle.std.specs.Cmp.Lexicographic.{pointwise_decides}
use Rattle.std.proofs.lemmas.Bool.Decides.{Decides-and, Decides-eqb, Decides-like}
use Rattle.np_space.specs.declared.patterns.Ternary.{Ternary}
use Rattle.np_space.specs.declared.spans.Span.{Span}
use Rattle.np_space.proofs.MadeLemmas.{same_span, same_ternary}
use Rattle.np_acl.specs.declared.entries.Entry.{Entry}
use Rattle.np_acl.specs.Same.{equal_entries, equal_patterns, equal_ports, equal_spans}

-- spans are the same where their numbers are
pub spans_decide : (p q : Span) → Decides (equal_spans p q) (p ≡ q)
spans_decide p q =
    Decides-like (equal_spans p q)
    (λ e. same_span p q e.0 e.1)
    (λ e. (ap (λ s. s.low) e, ap (λ s. s.high) e))
    (Decides-and (p.low == q.low) (p.high == q.high) (Decides-eqb p.low q.low) (Decides-eqb p.high q.high))

-- patterns are the same where their numbers are
pub patterns_decide : (p q : Ternary) → Decides (equal_patterns p q) (p ≡ q)
patterns_decide p q =
    Decides-like (equal_patterns p q)
    (λ e. same_ternary p q e.0 e.1)
    (λ e. (ap (λ t. t.value) e, ap (λ t. t.wild) e))
    (Decides-and (p.value == q.value) (p.wild == q.wild) (Decides-eqb p.value q.value) (Decides-eqb p.wild q.wild))

-- ports are the same where each of their spans is
pub ports_decide : (xs ys : List Span) → Decides (equal_ports xs ys) (xs ≡ ys)
ports_decide xs ys = pointwise_decides spans_decide xs ys

-- entries with the same fields are the same
same_entry : (x y : Entry) → x.permit ≡ y.permit → x.proto ≡ y.proto → x.src ≡ y.src → x.dst ≡ y.dst → x.a ≡ y.a → x.b ≡ y.b → x.est ≡ y.est → x.dscp ≡ y.dscp → x ≡ y
same_entry x y permit proto src dst a b est dscp i = record {
  permit = permit i;
  proto = proto i;
  src = src i;
  dst = dst i;
  a = a i;
  b = b i;
  est = est i;
  dscp = dscp i;
}

-- entries are the same where each of their fields is
pub entries_decide : (x y : Entry) → Decides (equal_entries x y) (x ≡ y)
entries_decide x y =
    Decides-like (equal_entries x y)
    (λ e. same_entry x y e.0 e.1.0 e.1.1.0 e.1.1.1.0 e.1.1.1.1.0 e.1.1.1.1.1.0 e.1.1.1.1.1.1.0 e.1.1.1.1.1.1.1)
    (λ e. (ap (λ z. z.permit) e, (ap (λ z. z.proto) e, (ap (λ z. z.src) e, (ap (λ z. z.dst) e, (ap (λ z. z.a) e, (ap (λ z. z.b) e, (ap (λ z. z.est) e, ap (λ z. z.dscp) e))))))))
    (Decides-and _ _ (booleans_Decides x.permit y.permit)
    (Decides-and _ _ (spans_decide x.proto y.proto)
    (Decides-and _ _ (patterns_decide x.src y.src)
    (Decides-and _ _ (patterns_decide x.dst y.dst)
    (Decides-and _ _ (ports_decide x.a y.a)
    (Decides-and _ _ (ports_decide x.b y.b)
    (Decides-and _ _ (spans_decide x.est y.est) (spans_decide x.dscp y.dscp))))))))

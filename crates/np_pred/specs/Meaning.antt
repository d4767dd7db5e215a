-- For which headers a predicate holds.
use Rattle.std.specs.Prelude.{Bool, true, false, ◌&&◌, ◌||◌, not, ◌==◌}
use Rattle.np_space.specs.Span.{span_has}
use Rattle.np_space.specs.Patterns.{any_pattern_has}
use Rattle.np_space.specs.declared.headers.Header.{Header}
use Rattle.np_pred.specs.declared.predicate.Pred.{Pred}
use Rattle.np_pred.specs.declared.predicate.Pred.TheOpen.{Pred-F, Any, Nothing, Proto, Src, Dst, SrcPort, DstPort, IcmpType, IcmpCode, Dscp, Established, Not, And, Or}
use Rattle.np_pred.specs.declared.predicate.Pred.TheFolds.{fold-Pred}
use Rattle.np_pred.specs.Dscp.{dscp_has}

-- TCP and UDP have ports
abbrev pub has_ports : Header → Bool
has_ports h = h.proto == 6 || h.proto == 17

-- one predicate, with what its operands say of a header in their places
abbrev pub holds_step : Pred-F (Header → Bool) → Header → Bool
holds_step Any h = true
holds_step Nothing h = false
holds_step (Proto n) h = h.proto == n
holds_step (Src patterns) h = any_pattern_has patterns h.src
holds_step (Dst patterns) h = any_pattern_has patterns h.dst
holds_step (SrcPort ports) h = has_ports h && span_has ports h.a
holds_step (DstPort ports) h = has_ports h && span_has ports h.b
holds_step (IcmpType n) h = h.proto == 1 && h.a == n
holds_step (IcmpCode n) h = h.proto == 1 && h.b == n
holds_step (Dscp values) h = dscp_has values h.dscp
holds_step Established h = h.est
holds_step (Not p) h = not (p h)
holds_step (And p q) h = p h && q h
holds_step (Or p q) h = p h || q h

-- the predicate holds for the header
abbrev pub pred_holds : Pred → Header → Bool
pred_holds p = fold-Pred (Header → Bool) holds_step p

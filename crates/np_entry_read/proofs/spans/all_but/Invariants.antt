use Rattle.std.proofs.Common.{◌≡◌, fold, drop}
use Rattle.np_entry_read.specs.Spans.{all_but, spans_without}
use Rattle.np_entry_read.proofs.spans.all_but.Given as goal

-- without the ports that are left, the spans are what is asked for
abbrev pub invariant-loop-port : goal.invariant-loop-port
invariant-loop-port l = fold spans_without l.spans (drop l.port-index l.ports) ≡ all_but l.ports

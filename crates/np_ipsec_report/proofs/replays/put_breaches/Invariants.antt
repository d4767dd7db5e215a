use Rattle.std.proofs.Common.{◌≡◌, ◌++◌, take}
use Rattle.std.specs.List.{flat_map}
use Rattle.np_net_text.specs.CanonicalText.{line_text}
use Rattle.np_ipsec_report.specs.Replays.{breach_words}
use Rattle.np_ipsec_report.proofs.replays.put_breaches.Given as goal

abbrev pub invariant-loop-breach : goal.invariant-loop-breach
invariant-loop-breach l = l.text.items ≡ l.initial.text.items ++ flat_map (λ breach. line_text (breach_words breach)) (take l.breach-index l.breaches)

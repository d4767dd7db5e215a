use Rattle.std.proofs.Common.{◌≡◌, ◌++◌, take}
use Rattle.std.specs.List.{flat_map}
use Rattle.np_net_text.specs.CanonicalText.{line_text}
use Rattle.np_report.specs.Words.{hop_words}
use Rattle.np_report.proofs.words.put_hops.Given as goal

abbrev pub invariant-loop-hop : goal.invariant-loop-hop
invariant-loop-hop l = l.text.items ≡ l.initial.text.items ++ flat_map (λ hop. line_text (hop_words l.net hop)) (take l.hop-index l.hops)

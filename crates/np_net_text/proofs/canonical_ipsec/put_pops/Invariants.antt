use Rattle.std.proofs.Common.{◌≡◌, ◌++◌, take}
use Rattle.std.specs.List.{flat_map}
use Rattle.np_net_text.specs.Canonical as canonical
use Rattle.np_net_text.specs.CanonicalText.{line_text}
use Rattle.np_net_text.proofs.canonical_ipsec.put_pops.Given as goal

abbrev pub invariant-loop-sa : goal.invariant-loop-sa
invariant-loop-sa l = l.out.items ≡ l.initial.out.items ++ flat_map (λ sa. line_text (canonical.pop_words l.net l.interface sa)) (take l.sa-index l.pops)

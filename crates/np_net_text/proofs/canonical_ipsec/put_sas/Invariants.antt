use Rattle.std.proofs.Common.{◌≡◌, ◌++◌, take}
use Rattle.std.specs.List.{flat_map}
use Rattle.np_net_text.specs.Canonical as canonical
use Rattle.np_net_text.specs.CanonicalText.{line_text}
use Rattle.np_net_text.proofs.canonical_ipsec.put_sas.Given as goal

abbrev pub invariant-loop-sa : goal.invariant-loop-sa
invariant-loop-sa l = l.out.items ≡ l.initial.out.items ++ flat_map (λ sa. line_text (canonical.sa_words l.net sa)) (take l.sa-index l.sas)

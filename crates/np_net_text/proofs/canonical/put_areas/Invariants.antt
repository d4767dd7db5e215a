use Rattle.std.proofs.Common.{◌≡◌, ◌++◌, take}
use Rattle.std.specs.List.{flat_map}
use Rattle.np_net_text.specs.Canonical as canonical
use Rattle.np_net_text.specs.CanonicalText.{line_text}
use Rattle.np_net_text.proofs.canonical.put_areas.Given as goal

abbrev pub invariant-loop-area : goal.invariant-loop-area
invariant-loop-area l = l.out.items ≡ l.initial.out.items ++ flat_map (λ area. line_text (canonical.area_words area)) (take l.area-index l.areas)

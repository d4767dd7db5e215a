use Rattle.std.proofs.Common.{◌≡◌, ◌++◌, ◌∷◌, take}
use Rattle.std.specs.List.{flat_map}
use Rattle.np_pred.specs.Patterns.{prefix_text}
use Rattle.np_pred.proofs.address_lists.put_next_prefixes.Given as goal

abbrev pub invariant-loop-pattern : goal.invariant-loop-pattern
invariant-loop-pattern l = l.out.items ≡ l.initial.out.items ++ flat_map (λ p. 44 ∷ prefix_text p) (take l.pattern-index l.patterns)

use Rattle.std.proofs.Common.{◌≡◌, take}
use Rattle.std.specs.List.{filter}
use Rattle.np_bdd.specs.Fields.{allows}
use Rattle.np_bdd.proofs.addresses.side.Given as goal

abbrev pub invariant-loop-pattern : goal.invariant-loop-pattern
invariant-loop-pattern l = l.list.items ≡ filter (allows l.bit l.set) (take l.pattern-index l.patterns)

use Rattle.std.proofs.Common.{◌≡◌, ◌++◌, map, take, if◌then◌else◌}
use Rattle.np_atomset.specs.AtomSet.{has_member}
use Rattle.np_report.proofs.atoms.put_each.Given as goal

abbrev pub invariant-loop-cut : goal.invariant-loop-cut
invariant-loop-cut l = l.text.items ≡ l.initial.text.items ++ map (λ s. if has_member s l.n then 49 else 48) (take l.cut-index l.cuts)

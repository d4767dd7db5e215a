use Rattle.std.proofs.Common.{◌≡◌, ◌++◌, map}
use Rattle.np_acl_read.proofs.numbered.NumberedEntries.into_list.Given as goal

-- the entries so far and those that are left are all of them
abbrev pub invariant-loop-entry : goal.invariant-loop-entry
invariant-loop-entry l = l.list ++ l.entry-iterator ≡ map (λ entry. entry.1) l.fn.self

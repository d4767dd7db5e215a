use Rattle.std.proofs.Common.{◌≡◌, length, map}
use Rattle.np_acl.specs.Tables.{named}
use Rattle.np_acl.proofs.tables.named.Given as goal

abbrev pub invariant-loop-table : goal.invariant-loop-table
invariant-loop-table g l = named (map (λ entry. (entry.0.now, entry.1)) l.table) l.word ≡ named (map (λ entry. (entry.0.now, entry.1)) l.initial.table) l.word

abbrev pub decreases-loop-table : goal.decreases-loop-table
decreases-loop-table g l = length l.table

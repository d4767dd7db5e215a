use Rattle.std.proofs.Common.{◌≡◌, ◌-◌, ◌≤◌, replicate, false, vec_len}
use Rattle.np_flow.proofs.spreading.empty_sets.Given as goal

abbrev pub invariant-loop-alloc : goal.invariant-loop-alloc
invariant-loop-alloc l = record {
  few : vec_len l.sets ≤ l.n;
  made : l.sets.items ≡ replicate (vec_len l.sets) (replicate l.atoms false);
}

abbrev pub decreases-loop-alloc : goal.decreases-loop-alloc
decreases-loop-alloc l = l.n - vec_len l.sets

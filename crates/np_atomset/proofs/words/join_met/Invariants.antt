use Rattle.std.proofs.Common.{◌≡◌, ◌≢◌, ℕ, ◌<◌, ◌≤◌, ◌^◌, get_or}
use Rattle.std.specs.Prelude.{bit_and, bit_or}
use Rattle.std.specs.Bool.{MatchBool}
use Rattle.np_atomset.proofs.words.join_met.Given as goal

abbrev pub invariant-loop-i : goal.invariant-loop-i
invariant-loop-i l = record {
  done : (k : ℕ) → k < l.i → get_or l.words k 0 ≡ bit_or (get_or l.initial.words k 0) (bit_and (get_or l.xs k 0) (get_or l.ys k 0));
  left : (k : ℕ) → l.i ≤ k → get_or l.words k 0 ≡ get_or l.initial.words k 0;
  old_fit : (k : ℕ) → get_or l.initial.words k 0 < 2 ^ 64;
  fit : (k : ℕ) → get_or l.words k 0 < 2 ^ 64;
  change : MatchBool l.changed ((k : ℕ) × (k < l.i) × (get_or l.words k 0 ≢ get_or l.initial.words k 0)) (l.words ≡ l.initial.words);
}

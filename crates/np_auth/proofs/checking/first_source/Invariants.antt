use Rattle.std.proofs.Common.{ℕ, ◌<◌}
use Rattle.np_space.specs.declared.headers.Header.{Header}
use Rattle.np_auth.specs.Rules.{HasSourceToo}
use Rattle.np_auth.proofs.checking.first_source.Given as goal

-- none of the areas so far has such a source
abbrev pub invariant-loop-a : goal.invariant-loop-a
invariant-loop-a l = (b : ℕ) (k : Header) → b < l.a → HasSourceToo l.net l.from l.pred b k → ⊥

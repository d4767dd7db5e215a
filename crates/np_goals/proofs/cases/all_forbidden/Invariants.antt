use Rattle.np_goals.specs.Making.{AreForbidden}
use Rattle.np_goals.proofs.cases.all_forbidden.Given as goal

-- those of the goals so far
abbrev pub invariant-loop-k : goal.invariant-loop-k
invariant-loop-k l = AreForbidden l.cuts l.atoms l.first l.goals l.k l.bad

use Rattle.std.proofs.lemmas.Result.{IfOk-weaker}
use Rattle.np_goals.specs.declared.verdicts.Verdict.TheVariants.{Holds}
use Rattle.np_goals.proofs.CaseLaws.{right_from_atoms}
use Rattle.np_goals.proofs.judging.verdict.Goals as goal

pub returns-in-Some : goal.returns-in-Some
returns-in-Some c =
    IfOk-weaker c.violated.result _ _ (λ verdict atoms. right_from_atoms c.args.net.now c.args.case.now c.args.k verdict c.requires.goal atoms) c.violated.ensures

pub returns-in-None : goal.returns-in-None
returns-in-None c =
    right_from_atoms c.args.net.now c.args.case.now c.args.k Holds c.requires.goal (rw c.in-None.is at c.in_ok-atom.ensures)

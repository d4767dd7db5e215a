use Rattle.std.proofs.Common.{◌∙◌, ap, subst}
use Rattle.std.specs.Prelude.{IfOk}
use Rattle.np_cut.specs.Applying.{applied_of}
use Rattle.np_goals.specs.Cases.{IsCaseOf}
use Rattle.np_top.proofs.answers.case_by.Goals as goal

pub returns-clause-case : goal.returns-clause-case
returns-clause-case g c =
    subst (λ lists. IfOk c.case_of.result (λ case. IsCaseOf c.args.net.now.interfaces c.args.net.now.goals lists case)) (c.in_ok-applied.ensures.made ∙ ap (applied_of c.args.net.now.interfaces) c.as_slice.ensures.value) c.case_of.ensures

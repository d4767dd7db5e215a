use Rattle.np_report.proofs.SummaryLaws.{goal_hops}
use Rattle.np_report.proofs.summary.hops_of.Goals as goal

pub returns-in-Violated : goal.returns-in-Violated
returns-in-Violated c = λ net k. rw (c.in-Violated.is, c.len.ensures) (goal_hops net k c.in-Violated.header c.in-Violated.path)

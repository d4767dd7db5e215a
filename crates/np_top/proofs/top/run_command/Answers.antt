use Rattle.std.proofs.Common.{sym, subst}
use Rattle.np_top.specs.Commands.{command_in}
use Rattle.np_top.specs.Outcome.{IsAnswerTo}
use Rattle.np_top.specs.Status.{IsSettled}
use Rattle.np_top.proofs.Outcomes.{one_answer_to, written_whole, written_part, written_only, written_complete, written_maximal, written_trajectory, written_safe, written_clean, reported}
use Rattle.np_top.proofs.TraceLaws.{report_settled}
use Rattle.np_top.proofs.top.run_command.Goals as goal

pub returns-in-Ok-clause-outcome : goal.returns-in-Ok-clause-outcome
returns-in-Ok-clause-outcome g c = λ settled files told.
    written_whole (IsAnswerTo files (command_in c.args.command)) c.in-Ok.answer.text c.in-Ok.answer.status c.write.result _ _ _
    (c.in-Ok.ensures.ok files told) (rw c.as_slice.ensures at c.write.ensures.written) settled

pub returns-in-Ok-clause-only : goal.returns-in-Ok-clause-only
returns-in-Ok-clause-only g c = λ files text status told answer.
    written_only c.in-Ok.answer.status status c.write.result _ _ _ _
    (one_answer_to files (command_in c.args.command) c.in-Ok.answer.text text c.in-Ok.answer.status status (c.in-Ok.ensures.ok files told) answer).1 c.write.ensures.written

pub returns-in-Ok-clause-write_prefix : goal.returns-in-Ok-clause-write_prefix
returns-in-Ok-clause-write_prefix g c = λ is files told.
    written_part (IsAnswerTo files (command_in c.args.command)) c.in-Ok.answer.text c.in-Ok.answer.status c.write.result _ _ _
    (c.in-Ok.ensures.ok files told) c.in-Ok.ensures.settled.0 (rw c.as_slice.ensures at c.write.ensures.written) is

pub returns-in-Ok-clause-complete : goal.returns-in-Ok-clause-complete
returns-in-Ok-clause-complete g c = λ files told accepted unbroken no_fault.
    let answer = c.in-Ok.ensures.ok files told in
    written_complete (IsAnswerTo files (command_in c.args.command)) c.in-Ok.answer.text c.in-Ok.answer.status c.write.result _ _ _
    answer (reported files (command_in c.args.command) c.in-Ok.answer.text c.in-Ok.answer.status accepted answer) no_fault (rw c.as_slice.ensures at c.write.ensures.written)

pub returns-in-Ok-clause-maximal : goal.returns-in-Ok-clause-maximal
returns-in-Ok-clause-maximal g c = λ is files told.
    written_maximal files (command_in c.args.command) c.write.result _ _ is
    (written_whole (IsAnswerTo files (command_in c.args.command)) c.in-Ok.answer.text c.in-Ok.answer.status c.write.result _ _ _
    (c.in-Ok.ensures.ok files told) (rw c.as_slice.ensures at c.write.ensures.written) (subst IsSettled (sym is) tt))

pub returns-in-Ok-clause-trajectory : goal.returns-in-Ok-clause-trajectory
returns-in-Ok-clause-trajectory g c = λ is files told.
    written_trajectory files (command_in c.args.command) c.write.result _ _ is
    (written_whole (IsAnswerTo files (command_in c.args.command)) c.in-Ok.answer.text c.in-Ok.answer.status c.write.result _ _ _
    (c.in-Ok.ensures.ok files told) (rw c.as_slice.ensures at c.write.ensures.written) (report_settled c.write.result is).0)

pub returns-in-Ok-clause-safe : goal.returns-in-Ok-clause-safe
returns-in-Ok-clause-safe g c = λ is files told.
    written_safe files (command_in c.args.command) c.write.result _ _ is
    (written_whole (IsAnswerTo files (command_in c.args.command)) c.in-Ok.answer.text c.in-Ok.answer.status c.write.result _ _ _
    (c.in-Ok.ensures.ok files told) (rw c.as_slice.ensures at c.write.ensures.written) (report_settled c.write.result is).0)

pub returns-in-Ok-clause-clean : goal.returns-in-Ok-clause-clean
returns-in-Ok-clause-clean g c = λ is files told.
    written_clean files (command_in c.args.command) c.write.result _ _ is
    (written_whole (IsAnswerTo files (command_in c.args.command)) c.in-Ok.answer.text c.in-Ok.answer.status c.write.result _ _ _
    (c.in-Ok.ensures.ok files told) (rw c.as_slice.ensures at c.write.ensures.written) (subst IsSettled (sym is) tt))

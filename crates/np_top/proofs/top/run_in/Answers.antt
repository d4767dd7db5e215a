use Rattle.np_top.specs.declared.status.Status.TheVariants.{Usage}
use Rattle.np_top.specs.Commands.{command_in}
use Rattle.np_top.specs.Outcome.{texts_of, IsOutcome}
use Rattle.np_top.specs.Report.{usage_text}
use Rattle.np_top.proofs.Outcomes.{usage_outcome, answer_outcome, of_files, written_whole, written_part, complete_outcome, maximal_command, trajectory_command, safe_command, clean_command, accepted_command, none_accepted}
use Rattle.np_top.proofs.top.run_in.Goals as goal

pub returns-in_default-clause-outcome : goal.returns-in_default-clause-outcome
returns-in_default-clause-outcome g c = λ settled files told.
    written_whole (IsOutcome (texts_of c.args.words.now) files) usage_text Usage c.write.result _ _ _ (usage_outcome (texts_of c.args.words.now) files c.in_default.ensures) c.write.ensures.written settled

pub returns-in_default-clause-write_prefix : goal.returns-in_default-clause-write_prefix
returns-in_default-clause-write_prefix g c = λ is files told.
    written_part (IsOutcome (texts_of c.args.words.now) files) usage_text Usage c.write.result _ _ _ (usage_outcome (texts_of c.args.words.now) files c.in_default.ensures) tt c.write.ensures.written is

pub returns-clause-outcome : goal.returns-clause-outcome
returns-clause-outcome g c = λ settled files told.
    let w = c.run_command.ensures.outcome settled files told in
    (w.0, answer_outcome (texts_of c.args.words.now) files (command_in c.in-Some.command) w.0 _ c.in-Some.ensures w.1, w.2)

pub returns-clause-read_fault : goal.returns-clause-read_fault
returns-clause-read_fault g c = λ is.
    let f = c.run_command.ensures.read_fault is in
    (f.0, of_files (texts_of c.args.words.now) (command_in c.in-Some.command) c.in-Some.ensures f.1, f.2)

pub returns-clause-write_prefix : goal.returns-clause-write_prefix
returns-clause-write_prefix g c = λ is files told.
    let p = c.run_command.ensures.write_prefix is files told in
    (p.0, p.1, answer_outcome (texts_of c.args.words.now) files (command_in c.in-Some.command) p.0 p.1 c.in-Some.ensures p.2, p.3)

pub returns-in_default-clause-complete : goal.returns-in_default-clause-complete
returns-in_default-clause-complete g c = λ files told accepted unbroken no_fault.
    absurd (none_accepted (texts_of c.args.words.now) files c.in_default.ensures accepted)

pub returns-clause-complete : goal.returns-clause-complete
returns-clause-complete g c = λ files told accepted unbroken no_fault.
    let command = command_in c.in-Some.command in
    complete_outcome (texts_of c.args.words.now) files command _ _ _ c.in-Some.ensures
    (c.run_command.ensures.complete files told (accepted_command (texts_of c.args.words.now) files command c.in-Some.ensures accepted) unbroken no_fault)

pub returns-clause-maximal : goal.returns-clause-maximal
returns-clause-maximal g c = λ is files told.
    maximal_command (texts_of c.args.words.now) files (command_in c.in-Some.command) _ _ c.in-Some.ensures (c.run_command.ensures.maximal is files told)

pub returns-clause-trajectory : goal.returns-clause-trajectory
returns-clause-trajectory g c = λ is files told.
    trajectory_command (texts_of c.args.words.now) files (command_in c.in-Some.command) _ _ c.in-Some.ensures (c.run_command.ensures.trajectory is files told)

pub returns-clause-safe : goal.returns-clause-safe
returns-clause-safe g c = λ is files told.
    safe_command (texts_of c.args.words.now) files (command_in c.in-Some.command) _ _ c.in-Some.ensures (c.run_command.ensures.safe is files told)

pub returns-clause-clean : goal.returns-clause-clean
returns-clause-clean g c = λ is files told.
    clean_command (texts_of c.args.words.now) files (command_in c.in-Some.command) c.in-Some.ensures (c.run_command.ensures.clean is files told)

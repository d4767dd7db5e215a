-- The outcome of a run: that there is one at most, and how a run's text comes to be it.
use Rattle.std.proofs.Common.{◌≡◌, ℕ, ◌⊎◌, inl, inr, Bool, true, false, List, Option, Some, None, Result, Ok, Err, refl, sym, ◌∙◌, subst}
use Rattle.std.specs.Prelude.{MatchOption, IsSome, if◌then◌else◌}
use Rattle.np_outside.specs.Files.{Files}
use Rattle.np_top.specs.declared.status.Status.{Status}
use Rattle.np_top.specs.declared.status.Status.TheVariants.{Holds, Fails, Usage, Refused, ReadFault, WriteFault, Memory}
use Rattle.np_net.specs.Plan.{Plan}
use Rattle.np_script.specs.Fitting.{Fits}
use Rattle.np_top.specs.Commands.{Command, check, atoms, synth, ipsec, trace, show, notes, gen, command_of}
use Rattle.np_top.specs.Report.{usage_text, verdicts_status}
use Rattle.np_goals.specs.declared.verdicts.Verdict.{Verdict}
use Rattle.np_report.specs.Verdicts.{all_hold}
use Rattle.np_load.specs.CleanRun.{IsCleanRun}
use Rattle.np_load.proofs.CleanLaws.{clean_run}
use Rattle.np_load.specs.Inputs.{Inputs, Play, inputs_of, play_of}
use Rattle.np_load.specs.Noting.{Noted, noted_of}
use Rattle.np_load.specs.Saying.{net_says}
use Rattle.np_top.specs.Outcome.{IsAnswer, IsAnswerTo, IsCheckReportOn, IsAtomsReportOn, IsSynthesisReportOn, IsTraceReportOn, HasFiles, ReadsFiles, AreOfFiles, IsAccepted, AcceptsFiles, AreAccepted, IsOutcome, IsDefined, IsMaximalOn, IsMaximalFor, IsMaximalOutcome, IsTrajectoryOn, IsTrajectoryFor, IsTrajectoryOutcome, IsSafeOn, IsSafeFor, IsSafeOutcome, IsCleanFor, IsCleanOutcome, IsOneOutcome}
use Rattle.np_top.specs.Ipsec.{IsIpsecReport}
use Rattle.np_top.specs.Notes.{notes_status, IsNotesReport}
use Rattle.np_top.specs.Show.{IsCanonical}
use Rattle.np_top.specs.Status.{IsReport, IsSettled, IsUnlessFault}
use Rattle.np_top.specs.Written.{Took, TookPrefix}
use Rattle.np_top.proofs.Existing.{an_outcome}
use Rattle.np_top.proofs.IpsecLaws.{one_ipsec_report, ipsec_reported, ipsec_safe}
use Rattle.np_top.proofs.OneReport.{Same, one_check_report, one_atoms_report, one_gen_report}
use Rattle.np_top.proofs.SynthesisLaws.{one_synthesis_report, synthesis_reported, holds_is_maximal}
use Rattle.np_top.proofs.TraceLaws.{one_trace_report, play_fits, trace_is_trajectory, trace_reported}

one_canonical : (net : Plan) (s t : List ℕ) (x y : Status) → IsCanonical net s x → IsCanonical net t y → Same s x t y
one_canonical net s t x y a b = (a.0 ∙ sym b.0, a.1 ∙ sym b.1)

one_notes_report : (noted : Noted) (s t : List ℕ) (x y : Status) → IsNotesReport noted s x → IsNotesReport noted t y → Same s x t y
one_notes_report noted s t x y a b = (a.0 ∙ sym b.0, a.1 ∙ sym b.1)

one_answer : {X : Type 0} (Is : X → List ℕ → Status → Type 0) → ((z : X) (s t : List ℕ) (x y : Status) → Is z s x → Is z t y → Same s x t y) →
    (says : Option (Result X (List ℕ))) (s t : List ℕ) (x y : Status) → IsAnswer Is says s x → IsAnswer Is says t y → Same s x t y
one_answer Is one None s t x y a b = absurd a
one_answer Is one (Some (Err refusal)) s t x y a b = (a.0 ∙ sym b.0, a.1 ∙ sym b.1)
one_answer Is one (Some (Ok z)) s t x y a b = one z s t x y a b

pub one_answer_to : (files : Files) (command : Command) (s t : List ℕ) (x y : Status) → IsAnswerTo files command s x → IsAnswerTo files command t y → Same s x t y
one_answer_to files (check file) s t x y a b =
    one_answer IsCheckReportOn (λ inputs s t x y a b. one_check_report inputs.net inputs.configs s t x y a b) (inputs_of files file) s t x y a b
one_answer_to files (atoms file) s t x y a b =
    one_answer IsAtomsReportOn (λ inputs s t x y a b. one_atoms_report inputs.net inputs.configs s t x y a b) (inputs_of files file) s t x y a b
one_answer_to files (synth file) s t x y a b =
    one_answer IsSynthesisReportOn (λ inputs s t x y a b. one_synthesis_report inputs.net inputs.configs s t x y a b) (inputs_of files file) s t x y a b
one_answer_to files (ipsec file) s t x y a b = one_answer IsIpsecReport one_ipsec_report (net_says files file) s t x y a b
one_answer_to files (trace file script) s t x y a b =
    one_answer IsTraceReportOn (λ play s t x y a b. one_trace_report play.net play.script s t x y a b) (play_of files file script) s t x y a b
one_answer_to files (show file) s t x y a b = one_answer IsCanonical one_canonical (net_says files file) s t x y a b
one_answer_to files (notes file) s t x y a b = one_answer IsNotesReport one_notes_report (noted_of files file) s t x y a b
one_answer_to files (gen seed) s t x y a b = one_gen_report seed s t x y a b

-- two outcomes of the same words and files are the same text and status
pub one_outcome : (words : List (List ℕ)) (files : Files) (s t : List ℕ) (x y : Status) → IsOutcome words files s x → IsOutcome words files t y → Same s x t y
one_outcome words files s t x y a b = one_for (command_of words) a b where
  one_for : (command : Option Command) → MatchOption command ((s ≡ usage_text) × (x ≡ Usage)) (λ command. IsAnswerTo files command s x) →
      MatchOption command ((t ≡ usage_text) × (y ≡ Usage)) (λ command. IsAnswerTo files command t y) → Same s x t y
  one_for None a b = (a.0 ∙ sym b.0, a.1 ∙ sym b.1)
  one_for (Some command) a b = one_answer_to files command s t x y a b

defined_by : {X : Type 0} (Is : X → List ℕ → Status → Type 0) (says : Option (Result X (List ℕ))) (text : List ℕ) (status : Status) →
    IsAnswer Is says text status → IsSome says
defined_by Is None text status answer = absurd answer
defined_by Is (Some says) text status answer = refl

has_files : (files : Files) (command : Command) (text : List ℕ) (status : Status) → IsAnswerTo files command text status → HasFiles files command
has_files files (check file) text status answer = defined_by IsCheckReportOn (inputs_of files file) text status answer
has_files files (atoms file) text status answer = defined_by IsAtomsReportOn (inputs_of files file) text status answer
has_files files (synth file) text status answer = defined_by IsSynthesisReportOn (inputs_of files file) text status answer
has_files files (ipsec file) text status answer = defined_by IsIpsecReport (net_says files file) text status answer
has_files files (trace file script) text status answer = defined_by IsTraceReportOn (play_of files file script) text status answer
has_files files (show file) text status answer = defined_by IsCanonical (net_says files file) text status answer
has_files files (notes file) text status answer = defined_by IsNotesReport (noted_of files file) text status answer
has_files files (gen seed) text status answer = tt

-- an outcome needs its files
pub outcome_defined : (words : List (List ℕ)) (files : Files) (text : List ℕ) (status : Status) → IsOutcome words files text status → IsDefined words files
outcome_defined words files text status outcome = defined_for (command_of words) outcome where
  defined_for : (command : Option Command) → MatchOption command ((text ≡ usage_text) × (status ≡ Usage)) (λ command. IsAnswerTo files command text status) →
      MatchOption command (Unit {0}) (λ command. HasFiles files command)
  defined_for None outcome = tt
  defined_for (Some command) outcome = has_files files command text status outcome

pub is_one_outcome : IsOneOutcome
is_one_outcome = record {
  same_text = λ words files text other status own a b. (one_outcome words files text other status own a b).0;
  same_status = λ words files text other status own a b. (one_outcome words files text other status own a b).1;
  defined = outcome_defined;
  exists = an_outcome;
}

-- ---- a run

-- the outcome of words that fit no command
pub usage_outcome : (words : List (List ℕ)) (files : Files) → None ≡ command_of words → IsOutcome words files usage_text Usage
usage_outcome words files fits = rw (← fits) (refl, refl)

-- the outcome of a command is its answer
pub answer_outcome : (words : List (List ℕ)) (files : Files) (command : Command) (text : List ℕ) (status : Status) → Some command ≡ command_of words →
    IsAnswerTo files command text status → IsOutcome words files text status
answer_outcome words files command text status fits answer = rw (← fits) answer

-- words are those of a command that reads a file, where their command does
pub of_files : (words : List (List ℕ)) (command : Command) → Some command ≡ command_of words → ReadsFiles command → AreOfFiles words
of_files words command fits reads = rw (← fits) reads

-- a status is its own, unless a device or memory fails
pub is_unless_fault : (status : Status) → IsUnlessFault status status
is_unless_fault Holds = refl
is_unless_fault Fails = refl
is_unless_fault Usage = refl
is_unless_fault Refused = refl
is_unless_fault ReadFault = tt
is_unless_fault WriteFault = tt
is_unless_fault Memory = tt

-- what became of a text that was to be written with this status
abbrev pub IsWritten : Option (List ℕ) → Option (List ℕ) → List ℕ → Status → Type 0 → Status → Type 0
IsWritten old new text status Fault result = ((result ≡ status) × Took old new text) ⊎ ((result ≡ WriteFault) × TookPrefix old new text × Fault)

-- what is written whole, where it is what is to be written by `Is`
pub written_whole : (Is : List ℕ → Status → Type 0) (text : List ℕ) (status result : Status) (old new : Option (List ℕ)) (Fault : Type 0) →
    Is text status → IsWritten old new text status Fault result → IsSettled result → (whole : List ℕ) × Is whole result × Took old new whole
written_whole Is text status result old new Fault is (inl w) settled = (text, subst (Is text) (sym w.0) is, w.1)
written_whole Is text status result old new Fault is (inr w) settled = absurd (subst IsSettled w.0 settled)

-- what is written in part
pub written_part : (Is : List ℕ → Status → Type 0) (text : List ℕ) (status result : Status) (old new : Option (List ℕ)) (Fault : Type 0) →
    Is text status → IsSettled status → IsWritten old new text status Fault result → result ≡ WriteFault →
    (whole : List ℕ) × (own : Status) × Is whole own × TookPrefix old new whole
written_part Is text status result old new Fault is settled (inl w) fault = absurd (subst IsSettled (sym w.0 ∙ fault) settled)
written_part Is text status result old new Fault is settled (inr w) fault = (text, status, is, w.1)

-- the status of what is written is the one that is to come with it
pub written_only : (status own result : Status) (old new : Option (List ℕ)) (text : List ℕ) (Fault : Type 0) → status ≡ own → IsWritten old new text status Fault result → IsUnlessFault own result
written_only status own result old new text Fault same (inl w) = subst (IsUnlessFault own) (sym (w.0 ∙ same)) (is_unless_fault own)
written_only status own result old new text Fault same (inr w) = subst (IsUnlessFault own) (sym w.0) tt

-- ---- files that are accepted

verdicts_reported : (verdicts : List Verdict) → IsReport (verdicts_status verdicts)
verdicts_reported verdicts = by (all_hold verdicts) where
  by : (b : Bool) → IsReport (if b then Holds else Fails)
  by true = tt
  by false = tt

notes_reported : (clean : Bool) → IsReport (notes_status clean)
notes_reported true = tt
notes_reported false = tt

answer_reported : {X : Type 0} (Is : X → List ℕ → Status → Type 0) → ((x : X) (text : List ℕ) (status : Status) → Is x text status → IsReport status) →
    (says : Option (Result X (List ℕ))) (text : List ℕ) (status : Status) → IsAccepted says → IsAnswer Is says text status → IsReport status
answer_reported Is reported None text status accepted is = absurd accepted
answer_reported Is reported (Some (Err refusal)) text status accepted is = absurd accepted
answer_reported Is reported (Some (Ok x)) text status accepted is = reported x text status is

-- what answers to files that are accepted is a report
pub reported : (files : Files) (command : Command) (text : List ℕ) (status : Status) → AcceptsFiles files command → IsAnswerTo files command text status → IsReport status
reported files (check file) text status accepted is =
    answer_reported IsCheckReportOn (λ inputs text status is. subst IsReport (sym is.status_is) (verdicts_reported is.verdicts)) (inputs_of files file) text status accepted is
reported files (atoms file) text status accepted is =
    answer_reported IsAtomsReportOn (λ inputs text status is. subst IsReport (sym is.status_is) tt) (inputs_of files file) text status accepted is
reported files (synth file) text status accepted is =
    answer_reported IsSynthesisReportOn (λ inputs text status is. synthesis_reported inputs.net inputs.configs text status is) (inputs_of files file) text status accepted is
reported files (ipsec file) text status accepted is = answer_reported IsIpsecReport ipsec_reported (net_says files file) text status accepted is
reported files (trace file script) text status accepted is =
    answer_reported IsTraceReportOn (λ play text status is. trace_reported play.net play.script text status is) (play_of files file script) text status accepted is
reported files (show file) text status accepted is =
    answer_reported IsCanonical (λ net text status is. subst IsReport (sym is.1) tt) (net_says files file) text status accepted is
reported files (notes file) text status accepted is =
    answer_reported IsNotesReport (λ noted text status is. subst IsReport (sym is.1) (notes_reported noted.clean)) (noted_of files file) text status accepted is
reported files (gen seed) text status accepted is = subst IsReport (sym is.summary.status_is) (verdicts_reported is.summary.verdicts)

accepted_there : {X : Type 0} (says : Option (Result X (List ℕ))) → IsAccepted says → IsSome says
accepted_there None accepted = absurd accepted
accepted_there (Some says) accepted = refl

-- files that are accepted are there
pub accepted_files : (files : Files) (command : Command) → AcceptsFiles files command → HasFiles files command
accepted_files files (check file) accepted = accepted_there (inputs_of files file) accepted
accepted_files files (atoms file) accepted = accepted_there (inputs_of files file) accepted
accepted_files files (synth file) accepted = accepted_there (inputs_of files file) accepted
accepted_files files (ipsec file) accepted = accepted_there (net_says files file) accepted
accepted_files files (trace file script) accepted = accepted_there (play_of files file script) accepted
accepted_files files (show file) accepted = accepted_there (net_says files file) accepted
accepted_files files (notes file) accepted = accepted_there (noted_of files file) accepted
accepted_files files (gen seed) accepted = tt

-- the outcome of a command whose files are accepted
pub accepted_command : (words : List (List ℕ)) (files : Files) (command : Command) → Some command ≡ command_of words → AreAccepted words files → AcceptsFiles files command
accepted_command words files command fits accepted = subst (λ o. MatchOption o ⊥ (λ c. AcceptsFiles files c)) (sym fits) accepted

-- nothing is accepted for words that fit no command
pub none_accepted : (words : List (List ℕ)) (files : Files) → None ≡ command_of words → AreAccepted words files → ⊥
none_accepted words files fits accepted = subst (λ o. MatchOption o ⊥ (λ c. AcceptsFiles files c)) (sym fits) accepted

-- a report is written, and the text is the right one with this status
abbrev pub IsComplete : (List ℕ → Status → Type 0) → Option (List ℕ) → Option (List ℕ) → Status → Type 0
IsComplete Is old new result = (IsReport result × ((text : List ℕ) × Is text result × Took old new text)) ⊎ (result ≡ Memory)

-- so it is where what is right is to be written, and no write fails
pub written_complete : (Is : List ℕ → Status → Type 0) (text : List ℕ) (status result : Status) (old new : Option (List ℕ)) (Fault : Type 0) →
    Is text status → IsReport status → (Fault → ⊥) → IsWritten old new text status Fault result → IsComplete Is old new result
written_complete Is text status result old new Fault is report no_fault (inl w) = inl (subst IsReport (sym w.0) report, (text, subst (Is text) (sym w.0) is, w.1))
written_complete Is text status result old new Fault is report no_fault (inr w) = absurd (no_fault w.2)

-- what is complete of a command is complete of its words
pub complete_outcome : (words : List (List ℕ)) (files : Files) (command : Command) (old new : Option (List ℕ)) (result : Status) → Some command ≡ command_of words →
    IsComplete (IsAnswerTo files command) old new result → IsComplete (IsOutcome words files) old new result
complete_outcome words files command old new result fits (inl w) = inl (w.0, (w.1.0, answer_outcome words files command w.1.0 result fits w.1.1, w.1.2))
complete_outcome words files command old new result fits (inr w) = inr w

-- ---- a synthesis with status 0

-- what is to be written of a synthesis with this status is the text of a maximal posture
maximal_on : (says : Option (Result Inputs (List ℕ))) (text : List ℕ) → IsAnswer IsSynthesisReportOn says text Holds → IsMaximalOn says text
maximal_on None text answer = absurd answer
maximal_on (Some (Err refusal)) text answer = let differ : Holds ≡ Refused = answer.1 in absurd (cc)
maximal_on (Some (Ok inputs)) text answer = holds_is_maximal inputs.net inputs.configs text answer

-- so it is for any command
pub maximal_for : (files : Files) (command : Command) (text : List ℕ) → IsAnswerTo files command text Holds → IsMaximalFor files command text
maximal_for files (check file) text answer = tt
maximal_for files (atoms file) text answer = tt
maximal_for files (synth file) text answer = maximal_on (inputs_of files file) text answer
maximal_for files (ipsec file) text answer = tt
maximal_for files (trace file script) text answer = tt
maximal_for files (show file) text answer = tt
maximal_for files (notes file) text answer = tt
maximal_for files (gen seed) text answer = tt

-- what is written whole with this status is such a text
pub written_maximal : (files : Files) (command : Command) (result : Status) (old new : Option (List ℕ)) → result ≡ Holds →
    (text : List ℕ) × IsAnswerTo files command text result × Took old new text → (text : List ℕ) × IsMaximalFor files command text × Took old new text
written_maximal files command result old new is w = (w.0, maximal_for files command w.0 (subst (IsAnswerTo files command w.0) is w.1), w.2)

-- what is maximal for a command is maximal for its words
pub maximal_command : (words : List (List ℕ)) (files : Files) (command : Command) (old new : Option (List ℕ)) → Some command ≡ command_of words →
    (text : List ℕ) × IsMaximalFor files command text × Took old new text → (text : List ℕ) × IsMaximalOutcome words files text × Took old new text
maximal_command words files command old new fits w = (w.0, rw (← fits) w.1, w.2)

-- ---- a replay whose report is written

-- a line that refuses a file is no report
refused_only : {A : Type 0} (status : Status) → status ≡ Refused → IsReport status → A
refused_only status refused report = absurd (subst IsReport refused report)

-- what is to be written of a replay with the status of a report is the text of a trajectory
trajectory_on : (says : Option (Result Play (List ℕ))) (text : List ℕ) (status : Status) → ((play : Play) → says ≡ Some (Ok play) → Fits play.net play.script) → IsReport status →
    IsAnswer IsTraceReportOn says text status → IsTrajectoryOn says text
trajectory_on None text status fits report answer = absurd answer
trajectory_on (Some (Err refusal)) text status fits report answer = refused_only status answer.1 report
trajectory_on (Some (Ok play)) text status fits report answer = trace_is_trajectory play.net play.script text status (fits play refl) answer

-- so it is for any command
pub trajectory_for : (files : Files) (command : Command) (text : List ℕ) (status : Status) → IsReport status → IsAnswerTo files command text status → IsTrajectoryFor files command text
trajectory_for files (check file) text status report answer = tt
trajectory_for files (atoms file) text status report answer = tt
trajectory_for files (synth file) text status report answer = tt
trajectory_for files (ipsec file) text status report answer = tt
trajectory_for files (trace file script) text status report answer = trajectory_on (play_of files file script) text status (play_fits files file script) report answer
trajectory_for files (show file) text status report answer = tt
trajectory_for files (notes file) text status report answer = tt
trajectory_for files (gen seed) text status report answer = tt

-- what is written whole with such a status is such a text
pub written_trajectory : (files : Files) (command : Command) (result : Status) (old new : Option (List ℕ)) → IsReport result →
    (text : List ℕ) × IsAnswerTo files command text result × Took old new text → (text : List ℕ) × IsTrajectoryFor files command text × Took old new text
written_trajectory files command result old new report w = (w.0, trajectory_for files command w.0 result report w.1, w.2)

-- what is a trajectory's for a command is so for its words
pub trajectory_command : (words : List (List ℕ)) (files : Files) (command : Command) (old new : Option (List ℕ)) → Some command ≡ command_of words →
    (text : List ℕ) × IsTrajectoryFor files command text × Took old new text → (text : List ℕ) × IsTrajectoryOutcome words files text × Took old new text
trajectory_command words files command old new fits w = (w.0, rw (← fits) w.1, w.2)

-- ---- answers on IPsec goals whose report is written

-- what is to be written of them with the status of a report is the text of safe answers
safe_on : (says : Option (Result Plan (List ℕ))) (text : List ℕ) (status : Status) → IsReport status → IsAnswer IsIpsecReport says text status → IsSafeOn says text
safe_on None text status report answer = absurd answer
safe_on (Some (Err refusal)) text status report answer = refused_only status answer.1 report
safe_on (Some (Ok net)) text status report answer = ipsec_safe net text status answer

-- so it is for any command
pub safe_for : (files : Files) (command : Command) (text : List ℕ) (status : Status) → IsReport status → IsAnswerTo files command text status → IsSafeFor files command text
safe_for files (check file) text status report answer = tt
safe_for files (atoms file) text status report answer = tt
safe_for files (synth file) text status report answer = tt
safe_for files (ipsec file) text status report answer = safe_on (net_says files file) text status report answer
safe_for files (trace file script) text status report answer = tt
safe_for files (show file) text status report answer = tt
safe_for files (notes file) text status report answer = tt
safe_for files (gen seed) text status report answer = tt

-- what is written whole with such a status is such a text
pub written_safe : (files : Files) (command : Command) (result : Status) (old new : Option (List ℕ)) → IsReport result →
    (text : List ℕ) × IsAnswerTo files command text result × Took old new text → (text : List ℕ) × IsSafeFor files command text × Took old new text
written_safe files command result old new report w = (w.0, safe_for files command w.0 result report w.1, w.2)

-- what is safe for a command is so for its words
pub safe_command : (words : List (List ℕ)) (files : Files) (command : Command) (old new : Option (List ℕ)) → Some command ≡ command_of words →
    (text : List ℕ) × IsSafeFor files command text × Took old new text → (text : List ℕ) × IsSafeOutcome words files text × Took old new text
safe_command words files command old new fits w = (w.0, rw (← fits) w.1, w.2)

-- ---- notes that end with status 0

-- with status 0 there is no note
no_note : (clean : Bool) → Holds ≡ notes_status clean → clean ≡ true
no_note true is = refl
no_note false is = let differ : Holds ≡ Fails = is in absurd (cc)

-- where there is none, each configuration is clean
clean_on : (files : Files) (file text : List ℕ) → IsAnswer IsNotesReport (noted_of files file) text Holds → IsCleanRun files file
clean_on files file text answer = by (noted_of files file) refl answer where
  by : (says : Option (Result Noted (List ℕ))) → noted_of files file ≡ says → IsAnswer IsNotesReport says text Holds → IsCleanRun files file
  by None is answer = absurd answer
  by (Some (Err refusal)) is answer = let differ : Holds ≡ Refused = answer.1 in absurd (cc)
  by (Some (Ok noted)) is answer = clean_run files file noted is (no_note noted.clean answer.1)

-- so it is for any command
pub clean_for : (files : Files) (command : Command) (text : List ℕ) → IsAnswerTo files command text Holds → IsCleanFor files command
clean_for files (check file) text answer = tt
clean_for files (atoms file) text answer = tt
clean_for files (synth file) text answer = tt
clean_for files (ipsec file) text answer = tt
clean_for files (trace file script) text answer = tt
clean_for files (show file) text answer = tt
clean_for files (notes file) text answer = clean_on files file text answer
clean_for files (gen seed) text answer = tt

-- what is written whole with this status says it
pub written_clean : (files : Files) (command : Command) (result : Status) (old new : Option (List ℕ)) → result ≡ Holds →
    (text : List ℕ) × IsAnswerTo files command text result × Took old new text → IsCleanFor files command
written_clean files command result old new is w = clean_for files command w.0 (subst (IsAnswerTo files command w.0) is w.1)

-- what is clean for a command is so for its words
pub clean_command : (words : List (List ℕ)) (files : Files) (command : Command) → Some command ≡ command_of words → IsCleanFor files command → IsCleanOutcome words files
clean_command words files command fits clean = rw (← fits) clean

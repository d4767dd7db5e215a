-- The outcome of a run, by its words and files.
use Rattle.std.specs.Prelude.{◌≡◌, ℕ, List, Option, Some, None, Result, Ok, Err, MatchOption, IsSome, map, String}
use Rattle.std.specs.String.{string_bytes}
use Rattle.std.specs.declared.alloc.Global.{Global}
use Rattle.np_outside.specs.Files.{Files}
use Rattle.np_load.specs.CleanRun.{IsCleanRun}
use Rattle.np_load.specs.Inputs.{Inputs, Play, inputs_of, play_of}
use Rattle.np_load.specs.Noting.{noted_of}
use Rattle.np_load.specs.Saying.{net_says}
use Rattle.np_net.specs.Plan.{Plan}
use Rattle.np_top.specs.declared.status.Status.{Status}
use Rattle.np_top.specs.declared.status.Status.TheVariants.{Usage, Refused}
use Rattle.np_top.specs.Commands.{Command, check, atoms, synth, ipsec, trace, show, notes, gen, command_of}
use Rattle.np_top.specs.Report.{usage_text, IsCheckReport, IsAtomsReport}
use Rattle.np_top.specs.Generated.{IsGenReport}
use Rattle.np_top.specs.Notes.{IsNotesReport}
use Rattle.np_top.specs.Show.{IsCanonical}
use Rattle.np_top.specs.Synthesis.{IsSynthesisReport, IsMaximalText}
use Rattle.np_top.specs.Ipsec.{IsIpsecReport, IsSafeText}
use Rattle.np_top.specs.Trace.{IsTraceReport, IsTrajectoryText}

-- the report on the goals, of these inputs
abbrev pub IsCheckReportOn : Inputs → List ℕ → Status → Type 0
IsCheckReportOn inputs text status = IsCheckReport inputs.net inputs.configs text status

-- the report on the atoms, of these inputs
abbrev pub IsAtomsReportOn : Inputs → List ℕ → Status → Type 0
IsAtomsReportOn inputs text status = IsAtomsReport inputs.net inputs.configs text status

-- the report on a synthesis, of these inputs
abbrev pub IsSynthesisReportOn : Inputs → List ℕ → Status → Type 0
IsSynthesisReportOn inputs text status = IsSynthesisReport inputs.net inputs.configs text status

-- the report on a replay, of this network and this script
abbrev pub IsTraceReportOn : Play → List ℕ → Status → Type 0
IsTraceReportOn play text status = IsTraceReport play.net play.script text status

-- the text and the status that answer to what files say: the line of the first refusal, or what is to be written of what they declare
abbrev pub IsAnswer : {X : Type 0} → (X → List ℕ → Status → Type 0) → Option (Result X (List ℕ)) → List ℕ → Status → Type 0
IsAnswer Is None text status = ⊥
IsAnswer Is (Some (Err refusal)) text status = (text ≡ refusal) × (status ≡ Refused)
IsAnswer Is (Some (Ok x)) text status = Is x text status

-- the text and the status that answer to a command over these files
abbrev pub IsAnswerTo : Files → Command → List ℕ → Status → Type 0
IsAnswerTo files (check file) text status = IsAnswer IsCheckReportOn (inputs_of files file) text status
IsAnswerTo files (atoms file) text status = IsAnswer IsAtomsReportOn (inputs_of files file) text status
IsAnswerTo files (synth file) text status = IsAnswer IsSynthesisReportOn (inputs_of files file) text status
IsAnswerTo files (ipsec file) text status = IsAnswer IsIpsecReport (net_says files file) text status
IsAnswerTo files (trace file script) text status = IsAnswer IsTraceReportOn (play_of files file script) text status
IsAnswerTo files (show file) text status = IsAnswer IsCanonical (net_says files file) text status
IsAnswerTo files (notes file) text status = IsAnswer IsNotesReport (noted_of files file) text status
IsAnswerTo files (gen seed) text status = IsGenReport seed text status

-- each file that a command needs is there, up to the first one that is refused
abbrev pub HasFiles : Files → Command → Type 0
HasFiles files (check file) = IsSome (inputs_of files file)
HasFiles files (atoms file) = IsSome (inputs_of files file)
HasFiles files (synth file) = IsSome (inputs_of files file)
HasFiles files (ipsec file) = IsSome (net_says files file)
HasFiles files (trace file script) = IsSome (play_of files file script)
HasFiles files (show file) = IsSome (net_says files file)
HasFiles files (notes file) = IsSome (noted_of files file)
HasFiles files (gen seed) = Unit {0}

-- a command that reads a file
abbrev pub ReadsFiles : Command → Type 0
ReadsFiles (check file) = Unit {0}
ReadsFiles (atoms file) = Unit {0}
ReadsFiles (synth file) = Unit {0}
ReadsFiles (ipsec file) = Unit {0}
ReadsFiles (trace file script) = Unit {0}
ReadsFiles (show file) = Unit {0}
ReadsFiles (notes file) = Unit {0}
ReadsFiles (gen seed) = ⊥

-- The text and the status are the outcome of these words and files. There is none where a file that is needed isn't there.
abbrev pub IsOutcome : List (List ℕ) → Files → List ℕ → Status → Type 0
IsOutcome words files text status =
    MatchOption (command_of words) ((text ≡ usage_text) × (status ≡ Usage)) (λ command. IsAnswerTo files command text status)

-- The words are those of a command that reads a file.
abbrev pub AreOfFiles : List (List ℕ) → Type 0
AreOfFiles words = MatchOption (command_of words) ⊥ ReadsFiles

-- Each file that the words need is there, up to the first one that is refused.
abbrev pub IsDefined : List (List ℕ) → Files → Type 0
IsDefined words files = MatchOption (command_of words) (Unit {0}) (λ command. HasFiles files command)

-- a file is there, and is not refused
abbrev pub IsAccepted : {X : Type 0} → Option (Result X (List ℕ)) → Type 0
IsAccepted None = ⊥
IsAccepted (Some (Err refusal)) = ⊥
IsAccepted (Some (Ok x)) = Unit {0}

-- the files that a command needs are there, within their limit and in their grammars
abbrev pub AcceptsFiles : Files → Command → Type 0
AcceptsFiles files (check file) = IsAccepted (inputs_of files file)
AcceptsFiles files (atoms file) = IsAccepted (inputs_of files file)
AcceptsFiles files (synth file) = IsAccepted (inputs_of files file)
AcceptsFiles files (ipsec file) = IsAccepted (net_says files file)
AcceptsFiles files (trace file script) = IsAccepted (play_of files file script)
AcceptsFiles files (show file) = IsAccepted (net_says files file)
AcceptsFiles files (notes file) = IsAccepted (noted_of files file)
AcceptsFiles files (gen seed) = Unit {0}

-- The words fit a command, and all its files are there, within their limit and in their grammars.
abbrev pub AreAccepted : List (List ℕ) → Files → Type 0
AreAccepted words files = MatchOption (command_of words) ⊥ (λ command. AcceptsFiles files command)

-- what files say is a network and configurations of which the text is that of a maximal posture
abbrev pub IsMaximalOn : Option (Result Inputs (List ℕ)) → List ℕ → Type 0
IsMaximalOn None text = ⊥
IsMaximalOn (Some (Err refusal)) text = ⊥
IsMaximalOn (Some (Ok inputs)) text = IsMaximalText inputs.net inputs.configs text

-- for a synthesis that ends with status 0: its text is that of a maximal posture
abbrev pub IsMaximalFor : Files → Command → List ℕ → Type 0
IsMaximalFor files (check file) text = Unit {0}
IsMaximalFor files (atoms file) text = Unit {0}
IsMaximalFor files (synth file) text = IsMaximalOn (inputs_of files file) text
IsMaximalFor files (ipsec file) text = Unit {0}
IsMaximalFor files (trace file script) text = Unit {0}
IsMaximalFor files (show file) text = Unit {0}
IsMaximalFor files (notes file) text = Unit {0}
IsMaximalFor files (gen seed) text = Unit {0}

-- Where the words are those of a synthesis, the text is that of a maximal posture.
abbrev pub IsMaximalOutcome : List (List ℕ) → Files → List ℕ → Type 0
IsMaximalOutcome words files text = MatchOption (command_of words) (Unit {0}) (λ command. IsMaximalFor files command text)

-- what files say is a network and a script, and the text is that of a trajectory
abbrev pub IsTrajectoryOn : Option (Result Play (List ℕ)) → List ℕ → Type 0
IsTrajectoryOn None text = ⊥
IsTrajectoryOn (Some (Err refusal)) text = ⊥
IsTrajectoryOn (Some (Ok play)) text = IsTrajectoryText play.net text

-- for a replay whose report is written: the states are a trajectory
abbrev pub IsTrajectoryFor : Files → Command → List ℕ → Type 0
IsTrajectoryFor files (check file) text = Unit {0}
IsTrajectoryFor files (atoms file) text = Unit {0}
IsTrajectoryFor files (synth file) text = Unit {0}
IsTrajectoryFor files (ipsec file) text = Unit {0}
IsTrajectoryFor files (trace file script) text = IsTrajectoryOn (play_of files file script) text
IsTrajectoryFor files (show file) text = Unit {0}
IsTrajectoryFor files (notes file) text = Unit {0}
IsTrajectoryFor files (gen seed) text = Unit {0}

-- Where the words are those of a replay, the text is that of a trajectory.
abbrev pub IsTrajectoryOutcome : List (List ℕ) → Files → List ℕ → Type 0
IsTrajectoryOutcome words files text = MatchOption (command_of words) (Unit {0}) (λ command. IsTrajectoryFor files command text)

-- what a file says is a network, and the text is that of answers that are safe
abbrev pub IsSafeOn : Option (Result Plan (List ℕ)) → List ℕ → Type 0
IsSafeOn None text = ⊥
IsSafeOn (Some (Err refusal)) text = ⊥
IsSafeOn (Some (Ok net)) text = IsSafeText net text

-- for a report on IPsec goals: each yes is safe
abbrev pub IsSafeFor : Files → Command → List ℕ → Type 0
IsSafeFor files (check file) text = Unit {0}
IsSafeFor files (atoms file) text = Unit {0}
IsSafeFor files (synth file) text = Unit {0}
IsSafeFor files (ipsec file) text = IsSafeOn (net_says files file) text
IsSafeFor files (trace file script) text = Unit {0}
IsSafeFor files (show file) text = Unit {0}
IsSafeFor files (notes file) text = Unit {0}
IsSafeFor files (gen seed) text = Unit {0}

-- Where the words ask about IPsec goals, each yes is safe.
abbrev pub IsSafeOutcome : List (List ℕ) → Files → List ℕ → Type 0
IsSafeOutcome words files text = MatchOption (command_of words) (Unit {0}) (λ command. IsSafeFor files command text)

-- for a report on notes that ends with status 0: each configuration is clean
abbrev pub IsCleanFor : Files → Command → Type 0
IsCleanFor files (check file) = Unit {0}
IsCleanFor files (atoms file) = Unit {0}
IsCleanFor files (synth file) = Unit {0}
IsCleanFor files (ipsec file) = Unit {0}
IsCleanFor files (trace file script) = Unit {0}
IsCleanFor files (show file) = Unit {0}
IsCleanFor files (notes file) = IsCleanRun files file
IsCleanFor files (gen seed) = Unit {0}

-- Where the words ask for notes, each configuration is clean.
abbrev pub IsCleanOutcome : List (List ℕ) → Files → Type 0
IsCleanOutcome words files = MatchOption (command_of words) (Unit {0}) (λ command. IsCleanFor files command)

-- There is one outcome at most, and there is one exactly where the files that it needs are there.
pub record IsOneOutcome : Type 0 where
  pub same_text : (words : List (List ℕ)) (files : Files) (text other : List ℕ) (status own : Status) → IsOutcome words files text status → IsOutcome words files other own → text ≡ other
  pub same_status : (words : List (List ℕ)) (files : Files) (text other : List ℕ) (status own : Status) → IsOutcome words files text status → IsOutcome words files other own → status ≡ own
  pub defined : (words : List (List ℕ)) (files : Files) (text : List ℕ) (status : Status) → IsOutcome words files text status → IsDefined words files
  pub exists : (words : List (List ℕ)) (files : Files) → IsDefined words files → (text : List ℕ) × (status : Status) × IsOutcome words files text status

-- the words of a command line, as bytes
abbrev pub texts_of : List (String Global) → List (List ℕ)
texts_of words = map string_bytes words

-- Where the needed files are there, there is an outcome.
use Rattle.std.proofs.Common.{◌≡◌, ℕ, zero, suc, ◌<◌, Bool, List, [], ◌∷◌, ◌++◌, length, get_or, map, Option, Some, None, Result, Ok, Err, refl, sym, ◌∙◌, arith, ap}
use Rattle.std.proofs.lemmas.Simd.{map-map}
use Rattle.std.specs.Prelude.{MatchOption, IsSome}
use Rattle.np_outside.specs.Files.{Files}
use Rattle.np_space.specs.declared.headers.Header.{Header}
use Rattle.np_acl_read.specs.Reading.{config_of}
use Rattle.np_acl_read.specs.declared.config.Config.{Config}
use Rattle.np_atoms.specs.Atoms.{cut_sets}
use Rattle.np_net.specs.Plan.{Plan}
use Rattle.np_net.specs.declared.filtering.Goal.{Goal}
use Rattle.np_net.specs.declared.filtering.Interface.{Interface}
use Rattle.np_net_text.specs.Canonical.{net_text}
use Rattle.np_cut.specs.Applying.{applied_of, slot_lets}
use Rattle.np_net_read.specs.Reading.{net_of}
use Rattle.np_generate.specs.Generated.{drawn, generated_configs, generated_net}
use Rattle.np_generated.specs.Configs.{config_meant}
use Rattle.np_generated.specs.Network.{network_meant}
use Rattle.np_generated.proofs.ConfigLaws.{configs_read}
use Rattle.np_generated.proofs.NetLaws.{net_read}
use Rattle.np_goals.specs.Cases.{goal_at}
use Rattle.np_goals.specs.Verdicts.{IsVerdict}
use Rattle.np_goals.specs.declared.verdicts.Verdict.{Verdict}
use Rattle.np_goals.specs.declared.verdicts.Verdict.TheVariants.{Holds}
use Rattle.np_goals.proofs.ExistenceLaws.{have_leasts, have_verdicts}
use Rattle.np_report.specs.Atoms.{atoms_text}
use Rattle.np_report.specs.Summary.{summary_text}
use Rattle.np_report.specs.Verdicts.{verdicts_text}
use Rattle.np_load.specs.Inputs.{inputs_of, play_of}
use Rattle.np_load.specs.Noting.{Noted, noted_of}
use Rattle.np_load.specs.Saying.{net_says}
use Rattle.np_top.specs.declared.status.Status.{Status}
use Rattle.np_top.specs.declared.status.Status.TheVariants.{Usage, Refused}
use Rattle.np_top.specs.declared.status.Status.TheVariants as status
use Rattle.np_top.specs.Commands.{Command, check, atoms, synth, ipsec, trace, show, notes, gen, command_of}
use Rattle.np_top.specs.Outcome.{IsAnswer, IsAnswerTo, IsCheckReportOn, IsAtomsReportOn, IsSynthesisReportOn, IsTraceReportOn, HasFiles, IsOutcome, IsDefined}
use Rattle.np_top.specs.Notes.{last_line, notes_status, IsNotesReport}
use Rattle.np_top.specs.Generated.{IsGenReport, IsSummaryReport}
use Rattle.np_top.specs.Report.{usage_text, AreRightVerdicts, IsCheckReport, IsAtomsReport, cuts_of, verdicts_status}
use Rattle.np_top.specs.Ipsec.{IsIpsecReport}
use Rattle.np_top.specs.Show.{IsCanonical}
use Rattle.np_top.proofs.IpsecLaws.{an_ipsec_report}
use Rattle.np_top.proofs.SynthesisLaws.{a_synthesis_report}
use Rattle.np_top.proofs.TraceLaws.{a_trace_report, play_fits}

-- right verdicts on goals, one for each
record Verdicts (interfaces : List Interface) (lets : ℕ → Header → Bool) (goals : List Goal) : Type 0 where
  verdicts : List Verdict
  count : length verdicts ≡ length goals
  right : (k : ℕ) (d : Goal) → k < length goals → IsVerdict interfaces lets (goal_at goals d k) (get_or verdicts k Holds)

all_verdicts : (interfaces : List Interface) (lets : ℕ → Header → Bool) (goals : List Goal) → Verdicts interfaces lets goals
all_verdicts interfaces lets [] = record { verdicts = []; count = refl; right = λ k d below. absurd (omega (arith, below)) }
all_verdicts interfaces lets (goal ∷ goals) =
    let first = have_verdicts interfaces lets goal in
    let rest = all_verdicts interfaces lets goals in
    record { verdicts = first.0 ∷ rest.verdicts; count = ap suc rest.count; right = each first.0 first.1 rest }
  where
    each : (v : Verdict) → IsVerdict interfaces lets goal v → (rest : Verdicts interfaces lets goals) → (k : ℕ) (d : Goal) → k < length (goal ∷ goals) → IsVerdict interfaces lets (goal_at (goal ∷ goals) d k) (get_or (v ∷ rest.verdicts) k Holds)
    each v is rest zero d below = is
    each v is rest (suc k) d below = rest.right k d (omega (arith, below))

right_verdicts : (net : Plan) (configs : List Config) → (verdicts : List Verdict) × AreRightVerdicts net configs verdicts
right_verdicts net configs =
    let v = all_verdicts net.interfaces (slot_lets net.interfaces configs) net.goals in
    (v.verdicts, record { count = v.count; right = v.right })

-- there is a text and a status
abbrev There : (List ℕ → Status → Type 0) → Type 0
There Is = (text : List ℕ) × (status : Status) × Is text status

a_check_report : (net : Plan) (configs : List Config) → There (IsCheckReport net configs)
a_check_report net configs =
    let v = right_verdicts net configs in
    (verdicts_text net v.0, verdicts_status v.0, record { verdicts = v.0; right = v.1; text_is = refl; status_is = refl })

an_atoms_report : (net : Plan) (configs : List Config) → There (IsAtomsReport net configs)
an_atoms_report net configs =
    let found = have_leasts (cuts_of net configs) in (
      atoms_text net (applied_of net.interfaces configs).names (cut_sets (cuts_of net configs) found.0) found.0,
      status.Holds,
      record { leasts = found.0; least = found.1; text_is = refl; status_is = refl },
    )

a_summary : (seed : ℕ) (net : Plan) (configs : List Config) → There (IsSummaryReport seed net configs)
a_summary seed net configs =
    let found = have_leasts (cuts_of net configs) in
    let v = right_verdicts net configs in (
      summary_text seed net (length found.0) v.0,
      verdicts_status v.0,
      record { leasts = found.0; least = found.1; verdicts = v.0; right = v.1; text_is = refl; status_is = refl },
    )

-- there is one of whatever the texts of the seed are read as
a_gen_report_on : (seed : ℕ) (net : Plan) (configs : List Config) → net_of (generated_net seed) ≡ Ok net → map config_of (generated_configs seed) ≡ map (λ config. Ok config) configs → There (IsGenReport seed)
a_gen_report_on seed net configs net_read configs_read =
    let summary = a_summary seed net configs in
    (summary.0, summary.1, record { net = net; configs = configs; net_read = net_read; configs_read = configs_read; summary = summary.2 })

a_gen_report : (seed : ℕ) → There (IsGenReport seed)
a_gen_report seed =
    a_gen_report_on seed (network_meant (drawn seed).0.net) (map config_meant (drawn seed).0.entries) (net_read seed)
    (configs_read seed ∙ sym (map-map (λ config. Ok config) config_meant (drawn seed).0.entries))

an_answer : {X : Type 0} (Is : X → List ℕ → Status → Type 0) (says : Option (Result X (List ℕ))) → ((x : X) → says ≡ Some (Ok x) → There (Is x)) → IsSome says → There (IsAnswer Is says)
an_answer Is None some there = absurd (cc)
an_answer Is (Some (Err refusal)) some there = (refusal, Refused, (refl, refl))
an_answer Is (Some (Ok x)) some there = some x refl

an_answer_to : (files : Files) (command : Command) → HasFiles files command → There (IsAnswerTo files command)
an_answer_to files (check file) there = an_answer IsCheckReportOn (inputs_of files file) (λ inputs said. a_check_report inputs.net inputs.configs) there
an_answer_to files (atoms file) there = an_answer IsAtomsReportOn (inputs_of files file) (λ inputs said. an_atoms_report inputs.net inputs.configs) there
an_answer_to files (synth file) there = an_answer IsSynthesisReportOn (inputs_of files file) (λ inputs said. a_synthesis_report inputs.net inputs.configs) there
an_answer_to files (ipsec file) there = an_answer IsIpsecReport (net_says files file) (λ net said. an_ipsec_report net) there
an_answer_to files (trace file script) there =
    an_answer IsTraceReportOn (play_of files file script) (λ play said. a_trace_report play.net play.script (play_fits files file script play said)) there
an_answer_to files (show file) there = an_answer IsCanonical (net_says files file) (λ net said. (net_text net, status.Holds, (refl, refl))) there
an_answer_to files (notes file) there = an_answer IsNotesReport (noted_of files file) (λ noted said. (noted.text ++ last_line noted.clean, notes_status noted.clean, (refl, refl))) there
an_answer_to files (gen seed) there = a_gen_report seed

pub an_outcome : (words : List (List ℕ)) (files : Files) → IsDefined words files → There (IsOutcome words files)
an_outcome words files there = by (command_of words) there where
  by : (command : Option Command) → MatchOption command (Unit {0}) (λ c. HasFiles files c) → (text : List ℕ) × (status : Status) × MatchOption command ((text ≡ usage_text) × (status ≡ Usage)) (λ c. IsAnswerTo files c text status)
  by None there = (usage_text, Usage, (refl, refl))
  by (Some command) there = an_answer_to files command there

-- A script that fits a network has one report, and its states are a trajectory.
use Rattle.std.proofs.Common.{◌≡◌, ◌≢◌, ℕ, ◌<◌, arith, Bool, true, false, List, [], ◌∷◌, length, slice_get, All, Contains, Option, Some, None, Result, Ok, Err, IfOk, refl, sym, ◌∙◌, ap, subst}
use Rattle.std.specs.Prelude.{if◌then◌else◌, nat_lt}
use Rattle.std.specs.Option.{option_map}
use Rattle.std.specs.FinMap.{get}
use Rattle.std.proofs.lemmas.List.Elements.{All-contains, All-weaker}
use Rattle.std.proofs.lemmas.Option.{get_or_from_slice_get, slice_get_within}
use Rattle.np_outside.specs.Files.{Files}
use Rattle.np_net.specs.Plan.{Plan}
use Rattle.np_net.specs.declared.associations.IpGoal.{IpGoal}
use Rattle.np_ipsec.specs.Steps.{State}
use Rattle.np_ipsec.specs.Trajectories.{BreaksGoal, IsSafe}
use Rattle.np_script.specs.Fitting.{Fits}
use Rattle.np_script.specs.Reading.{script_of}
use Rattle.np_script.specs.declared.script.Script.{Script}
use Rattle.np_script.proofs.ShapeLaws.{script_fits}
use Rattle.np_traj.specs.Breaching.{AreBreaches, BreaksAt, IsFirstBreach}
use Rattle.np_traj.specs.Replaying.{AreReplayed, AreTrajectory}
use Rattle.np_traj.specs.declared.states.Illegal.{Illegal}
use Rattle.np_traj.proofs.BreachesLaws.{breaches_of, one_list}
use Rattle.np_traj.proofs.ReplaysLaws.{a_replay, one_replay, replay_goes_deeper}
use Rattle.np_report.specs.Refusals.{refusal_text}
use Rattle.np_ipsec_report.specs.Replays.{replay_text}
use Rattle.np_report.specs.declared.refusals.Refusal.TheVariants as refusal
use Rattle.np_load.specs.Inputs.{Play, play_of}
use Rattle.np_load.specs.Limits.{file_limit}
use Rattle.np_load.specs.Saying.{and_then, net_says, or_refused, script_says}
use Rattle.np_top.specs.declared.status.Status.{Status}
use Rattle.np_top.specs.declared.status.Status.TheVariants.{Holds, Fails, Usage, Refused, ReadFault, WriteFault, Memory}
use Rattle.np_top.specs.Status.{IsReport, IsSettled}
use Rattle.np_top.specs.declared.report.Answer.{Answer}
use Rattle.np_top.specs.Ipsec.{RulesHold}
use Rattle.np_top.specs.Trace.{IsTraceReport, IsTrajectoryText, replay_status}
use Rattle.np_top.proofs.OneReport.{Same}
use Rattle.np_top.proofs.SafeLaws.{rules_safe}

-- ---- a script that a file has fits the network

said_fits : (net : Plan) (file : List ℕ) (text : List ℕ) (long : Bool) (script : Script) (judged : Result Script (List ℕ)) →
    judged ≡ (if long then Err (refusal_text file refusal.TooLong) else or_refused refusal.Script file (script_of net text)) → judged ≡ Ok script → Fits net script
said_fits net file text true script judged is ok = cc
said_fits net file text false script judged is ok = by (script_of net text) refl (sym is ∙ ok)
  where
    by : (read : Result Script _) → script_of net text ≡ read → or_refused refusal.Script file read ≡ Ok script → Fits net script
    by (Ok own) read ok = let same : own ≡ script = cc in script_fits net text script (read ∙ ap (λ s. Ok s) same)
    by (Err fault) read ok = cc

script_says_fits : (files : Files) (net : Plan) (file : List ℕ) (script : Script) → script_says files net file ≡ Some (Ok script) → Fits net script
script_says_fits files net file script says = by (get files file) says
  where
    by : (found : Option (List ℕ)) → option_map (λ bytes. if nat_lt file_limit (length bytes) then Err (refusal_text file refusal.TooLong) else or_refused refusal.Script file (script_of net bytes)) found ≡ Some (Ok script) → Fits net script
    by None says = cc
    by (Some bytes) says = said_fits net file bytes (nat_lt file_limit (length bytes)) script _ refl (cc)

-- what files say of a replay fits
pub play_fits : (files : Files) (file script : List ℕ) (play : Play) → play_of files file script ≡ Some (Ok play) → Fits play.net play.script
play_fits files file script play says = by (net_says files file) says
  where
    with_script : (net : Plan) (said : Option (Result Script (List ℕ))) → script_says files net script ≡ said → and_then said (λ s. Some (Ok (record { net = net; script = s }))) ≡ Some (Ok play) → Fits play.net play.script
    with_script net None is says = cc
    with_script net (Some (Err text)) is says = cc
    with_script net (Some (Ok s)) is says =
        let made : Play = record { net = net; script = s } in
        let same : made ≡ play = cc in
        subst (λ p. Fits p.net p.script) same (script_says_fits files net script s is)

    by : (said : Option (Result Plan (List ℕ))) → and_then said (λ net. and_then (script_says files net script) (λ s. Some (Ok (record { net = net; script = s })))) ≡ Some (Ok play) → Fits play.net play.script
    by None says = cc
    by (Some (Err text)) says = cc
    by (Some (Ok net)) says = with_script net (script_says files net script) refl says

-- ---- what the report needs

-- the goals of breaches are the network's
pub goals_within : (net : Plan) (states : List State) (breaches : List (ℕ × ℕ)) → AreBreaches net states (length net.ipgoals) breaches → All (λ breach. breach.0 < length net.ipgoals) breaches
goals_within net states breaches are =
    All-weaker (λ breach. (breach.0 < length net.ipgoals) × IsFirstBreach net states breach.0 breach.1) (λ breach. breach.0 < length net.ipgoals) (λ breach is. is.0) breaches are.each

-- ---- there is one report, and no other

module _ (net : Plan) (script : Script) where
  pub a_trace_report : Fits net script → (text : List ℕ) × (status : Status) × IsTraceReport net script text status
  a_trace_report fits =
      let replay = a_replay net net.depth script fits in
      let found = breaches_of net net.depth script replay.states replay.stop (length net.ipgoals) replay.replayed in (
        replay_text net replay.states replay.stop found.breaches,
        replay_status replay.stop found.breaches,
        record { states = replay.states; stop = replay.stop; breaches = found.breaches; replayed = replay.replayed; breached = found.are; text_is = refl; status_is = refl },
      )

  pub one_trace_report : (s t : List ℕ) (x y : Status) → IsTraceReport net script s x → IsTraceReport net script t y → Same s x t y
  one_trace_report s t x y a b =
      let same = one_replay net net.depth script a.states a.stop b.states b.stop a.replayed b.replayed in
      let own : AreBreaches net b.states (length net.ipgoals) a.breaches = subst (λ states. AreBreaches net states (length net.ipgoals) a.breaches) same.0 a.breached in
      let breaches : a.breaches ≡ b.breaches = one_list net b.states (length net.ipgoals) a.breaches b.breaches own b.breached in (
        a.text_is ∙ (λ i. replay_text net (same.0 i) (same.1 i) (breaches i)) ∙ sym b.text_is,
        a.status_is ∙ (λ i. replay_status (same.1 i) (breaches i)) ∙ sym b.status_is,
      )

  -- ---- its status

  status_reported : (stop : Option (ℕ × Illegal)) (breaches : List (ℕ × ℕ)) → IsReport (replay_status stop breaches)
  status_reported None [] = tt
  status_reported None (breach ∷ breaches) = tt
  status_reported (Some stop) breaches = tt

  -- it says how the goals stand
  pub trace_reported : (text : List ℕ) (status : Status) → IsTraceReport net script text status → IsReport status
  trace_reported text status is = subst IsReport (sym is.status_is) (status_reported is.stop is.breaches)

  -- ---- its states

  -- of a trajectory no state breaks a goal that is safe
  none_breaks : (states : List State) (goal : IpGoal) (n : ℕ) (first here : State) → AreTrajectory net net.depth states → IsSafe net net.depth goal →
      slice_get states 0 ≡ Some first → slice_get states n ≡ Some here → BreaksGoal net goal first here → ⊥
  none_breaks [] goal n first here are safe first_is here_is breaks = absurd (cc)
  none_breaks (s ∷ states) goal n first here are safe first_is here_is breaks =
      let same : first ≡ s = cc in
      safe s states are here (n, slice_get_within (s ∷ states) n here here_is, get_or_from_slice_get (s ∷ states) n here here here_is)
      (subst (λ x. BreaksGoal net goal x here) same breaks)

  -- so there is no breach of a goal whose local rules hold
  none_broken : (states : List State) (stop : Option (ℕ × Illegal)) (breaches : List (ℕ × ℕ)) → Fits net script → AreReplayed net net.depth script states stop →
      AreBreaches net states (length net.ipgoals) breaches → (g n : ℕ) (goal : IpGoal) → Contains breaches (g, n) → slice_get net.ipgoals g ≡ Some goal → RulesHold net goal → ⊥
  none_broken states stop breaches fits replayed are g n goal listed goal_is rules =
      let breach : BreaksAt net states g n =
      (All-contains (λ breach. (breach.0 < length net.ipgoals) × IsFirstBreach net states breach.0 breach.1) breaches (g, n) are.each listed).1.breaks in
      let goal_too : slice_get net.ipgoals g ≡ Some breach.the_goal = breach.goal_is in
      let same : breach.the_goal ≡ goal = cc in
      none_breaks states goal n breach.first breach.here (replay_goes_deeper net net.depth script fits states stop replayed net.depth (omega arith))
      (rules_safe net goal rules net.depth) breach.first_is breach.here_is (subst (λ x. BreaksGoal net x breach.first breach.here) same breach.breaks)

  -- they are a trajectory
  pub trace_is_trajectory : (text : List ℕ) (status : Status) → Fits net script → IsTraceReport net script text status → IsTrajectoryText net text
  trace_is_trajectory text status fits is = record {
    states = is.states;
    stop = is.stop;
    breaches = is.breaches;
    trajectory = replay_goes_deeper net net.depth script fits is.states is.stop is.replayed;
    unbroken = none_broken is.states is.stop is.breaches fits is.replayed is.breached;
    text_is = is.text_is;
  }

-- ---- how it ends

-- a report is written whole, and is none on how to use the program
pub report_settled : (status : Status) → IsReport status → IsSettled status × (status ≢ Usage)
report_settled Holds report = (tt, λ same. cc)
report_settled Fails report = (tt, λ same. cc)
report_settled Usage report = absurd report
report_settled Refused report = absurd report
report_settled ReadFault report = absurd report
report_settled WriteFault report = absurd report
report_settled Memory report = absurd report

pub trace_settled : {E : Type 0} (net : Plan) (script : Script) (result : Result Answer E) → IfOk result (λ answer. IsTraceReport net script answer.text answer.status) →
    IfOk result (λ answer. IsSettled answer.status × (answer.status ≢ Usage))
trace_settled net script (Ok answer) is = report_settled answer.status (trace_reported net script answer.text answer.status is)
trace_settled net script (Err error) is = tt

-- What `check` and `atoms` write of a network and the configurations of its devices.
use Rattle.std.specs.Prelude.{◌≡◌, ℕ, ◌<◌, Bool, List, [], ◌∷◌, ◌++◌, length, slice_index_or, codes, if◌then◌else◌}
use Rattle.np_space.specs.Classes.{AreLeasts}
use Rattle.np_space.specs.declared.headers.Header.{Header}
use Rattle.np_acl_read.specs.declared.config.Config.{Config}
use Rattle.np_net.specs.Plan.{Plan}
use Rattle.np_net.specs.declared.filtering.Goal.{Goal}
use Rattle.np_cut.specs.Applying.{applied_of, slot_lets}
use Rattle.np_cut.specs.FilterCuts.{filter_tests}
use Rattle.np_atoms.specs.Atoms.{cut_sets}
use Rattle.np_goals.specs.Cases.{goal_at}
use Rattle.np_goals.specs.Verdicts.{IsVerdict}
use Rattle.np_goals.specs.declared.verdicts.Verdict.{Verdict}
use Rattle.np_goals.specs.declared.verdicts.Verdict.TheVariants as verdict
use Rattle.np_report.specs.Atoms.{atoms_text}
use Rattle.np_report.specs.Verdicts.{all_hold, verdicts_text}
use Rattle.np_top.specs.declared.status.Status.{Status}
use Rattle.np_top.specs.declared.status.Status.TheVariants.{Holds, Fails}

-- what is written where the words fit no command
abbrev pub usage_text : List ℕ
usage_text = codes "usage" ++ 10 ∷ []

-- the status that goes with verdicts
abbrev pub verdicts_status : List Verdict → Status
verdicts_status verdicts = if all_hold verdicts then Holds else Fails

-- The right verdict on each goal, by what crosses the slots.
pub record AreRightVerdicts (net : Plan) (configs : List Config) (verdicts : List Verdict) : Type 0 where
  pub count : length verdicts ≡ length net.goals
  pub right : (k : ℕ) (d : Goal) → k < length net.goals → IsVerdict net.interfaces (slot_lets net.interfaces configs) (goal_at net.goals d k) (slice_index_or verdicts k verdict.Holds)

-- The report on the goals: the right verdict on each of them, and whether all hold.
pub record IsCheckReport (net : Plan) (configs : List Config) (text : List ℕ) (status : Status) : Type 0 where
  pub verdicts : List Verdict
  pub right : AreRightVerdicts net configs verdicts
  pub text_is : text ≡ verdicts_text net verdicts
  pub status_is : status ≡ verdicts_status verdicts

-- the tests of a network's filter cuts: its lists in their order, and then its goals
abbrev pub cuts_of : Plan → List Config → List (Header → Bool)
cuts_of net configs = filter_tests (applied_of net.interfaces configs).lists net.goals

-- the report on the atoms of the filter cuts
pub record IsAtomsReport (net : Plan) (configs : List Config) (text : List ℕ) (status : Status) : Type 0 where
  pub leasts : List Header
  pub least : AreLeasts (cuts_of net configs) leasts
  pub text_is : text ≡ atoms_text net (applied_of net.interfaces configs).names (cut_sets (cuts_of net configs) leasts) leasts
  pub status_is : status ≡ Holds

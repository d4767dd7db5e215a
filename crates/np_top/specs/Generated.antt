-- What `gen` writes of a seed.
use Rattle.std.specs.Prelude.{◌≡◌, ℕ, List, length, map, Ok}
use Rattle.np_space.specs.Classes.{AreLeasts}
use Rattle.np_space.specs.declared.headers.Header.{Header}
use Rattle.np_acl_read.specs.Reading.{config_of}
use Rattle.np_acl_read.specs.declared.config.Config.{Config}
use Rattle.np_generate.specs.Generated.{generated_configs, generated_net}
use Rattle.np_goals.specs.declared.verdicts.Verdict.{Verdict}
use Rattle.np_net.specs.Plan.{Plan}
use Rattle.np_net_read.specs.Reading.{net_of}
use Rattle.np_report.specs.Summary.{summary_text}
use Rattle.np_top.specs.Report.{AreRightVerdicts, cuts_of, verdicts_status}
use Rattle.np_top.specs.declared.status.Status.{Status}

-- The summary of the report on a network's goals: how many atoms its filter cuts have, and the right verdicts.
pub record IsSummaryReport (seed : ℕ) (net : Plan) (configs : List Config) (text : List ℕ) (status : Status) : Type 0 where
  pub leasts : List Header
  pub least : AreLeasts (cuts_of net configs) leasts
  pub verdicts : List Verdict
  pub right : AreRightVerdicts net configs verdicts
  pub text_is : text ≡ summary_text seed net (length leasts) verdicts
  pub status_is : status ≡ verdicts_status verdicts

-- The report on a generated network: the summary for the network and the configurations that the texts of the seed are read as.
pub record IsGenReport (seed : ℕ) (text : List ℕ) (status : Status) : Type 0 where
  pub net : Plan
  pub configs : List Config
  pub net_read : net_of (generated_net seed) ≡ Ok net
  pub configs_read : map config_of (generated_configs seed) ≡ map (λ config. Ok config) configs
  pub summary : IsSummaryReport seed net configs text status

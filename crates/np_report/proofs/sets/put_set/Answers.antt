use Rattle.std.proofs.Common.{◌∙◌, arith}
use Rattle.std.proofs.lemmas.List.Elements.{All-same}
use Rattle.np_report.specs.Runs.{HasNumbers}
use Rattle.np_report.proofs.RunLaws.{runs_fit}
use Rattle.np_report.proofs.sets.put_set.Goals as goal

pub put_runs-requires : goal.put_runs-requires
put_runs-requires c = All-same HasNumbers _ _ (c.as_slice.ensures.value ∙ c.in_ok-runs.ensures) (runs_fit c.args.set.now (omega arith))

use Rattle.np_script.proofs.ShapeLaws.{script_fits}
use Rattle.np_script.proofs.laws.script_is_a_start_and_moves.Goals as goal

pub returns-clause-fits : goal.returns-clause-fits
returns-clause-fits c = script_fits

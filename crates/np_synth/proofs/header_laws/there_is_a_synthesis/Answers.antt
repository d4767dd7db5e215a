use Rattle.np_synth.proofs.ExistenceLaws as existence
use Rattle.np_synth.proofs.header_laws.there_is_a_synthesis.Goals as goal

pub returns : goal.returns
returns c = existence.have_syntheses

use Rattle.np_synth.proofs.HeaderLaws as headers
use Rattle.np_synth.proofs.header_laws.synthesised_is_maximal.Goals as goal

pub returns : goal.returns
returns c = headers.synthesised_is_maximal

use Rattle.np_synth.proofs.UniqueLaws as unique
use Rattle.np_synth.proofs.header_laws.drops_are_unique.Goals as goal

pub returns : goal.returns
returns c = unique.dropped_are_unique

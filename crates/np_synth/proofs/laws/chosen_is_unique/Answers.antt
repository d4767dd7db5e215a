use Rattle.np_synth.proofs.ChoosingLaws as choosing
use Rattle.np_synth.proofs.laws.chosen_is_unique.Goals as goal

pub returns : goal.returns
returns c = choosing.chosen_is_unique

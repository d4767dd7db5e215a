use Rattle.np_synth.proofs.LiftingLaws as lifting
use Rattle.np_synth.proofs.header_laws.atoms_deny_for_headers.Goals as goal

pub returns : goal.returns
returns c = lifting.atoms_deny_for_headers

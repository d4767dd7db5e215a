-- A generated network's text is read as the network that is meant.
use Rattle.std.proofs.Common.{◌≡◌, ℕ, sym, ap, ◌∙◌}
use Rattle.std.specs.Prelude.{Ok}
use Rattle.np_net.specs.Network.{IsNetwork}
use Rattle.np_text.specs.Joined.{text_of_lines}
use Rattle.np_net_text.specs.Canonical.{net_text}
use Rattle.np_net_read.specs.Reading.{net_of}
use Rattle.np_net_text.proofs.TextBackLaws.{net_of_text}
use Rattle.np_generate.specs.Drawn.{a_net}
use Rattle.np_generate.specs.Generated.{drawn, generated_net}
use Rattle.np_generated.specs.Network.{HasGeneratedSizes, network_meant}
use Rattle.np_generated.proofs.DrawnLaws.{net_within}
use Rattle.np_generated.proofs.NetMade.{network_made, sizes_generated}
use Rattle.np_generated.proofs.NetWords.{lines_same}

-- the text is the canonical text of the network
pub net_canonical : (seed : ℕ) → generated_net seed ≡ net_text (network_meant (drawn seed).0.net)
unfolding drawn
net_canonical seed = ap text_of_lines (sym (lines_same (a_net seed).0 (net_within seed)))

-- the network is one
pub net_made : (seed : ℕ) → IsNetwork (network_meant (drawn seed).0.net)
unfolding drawn
net_made seed = network_made (a_net seed).0 (net_within seed)

pub net_sized : (seed : ℕ) → HasGeneratedSizes (network_meant (drawn seed).0.net)
unfolding drawn
net_sized seed = sizes_generated (a_net seed).0 (net_within seed)

-- so the text is read as the network
pub net_read : (seed : ℕ) → net_of (generated_net seed) ≡ Ok (network_meant (drawn seed).0.net)
net_read seed = ap net_of (net_canonical seed) ∙ net_of_text (network_meant (drawn seed).0.net) (net_made seed)

-- The texts of the network of a seed.
use Rattle.std.specs.Prelude.{ℕ, List, map}
use Rattle.np_text.specs.Joined.{joined_text}
use Rattle.np_generate.specs.declared.drawn.DrawnEntry.{DrawnEntry}
use Rattle.np_generate.specs.ConfigLines.{config_lines}
use Rattle.np_generate.specs.Drawing.{Drawing, ◌>>=◌, given, in_turn}
use Rattle.np_generate.specs.Drawn.{DrawnNet, a_net, some_entries}
use Rattle.np_text.specs.Joined.{text_of_lines}
use Rattle.np_generate.specs.NetLines.{net_lines}

-- what is drawn: of the network, and then the entries of each device
pub record Drawn : Type 0 where
  pub net : DrawnNet
  pub entries : List (List DrawnEntry)

-- all that is drawn from the seed, which is the first state
unfoldable pub drawn : Drawing Drawn
drawn = a_net >>= λ net. in_turn (λ k. some_entries) 0 24 >>= λ entries. given (record { net = net; entries = entries })

-- the text of a network
abbrev pub net_text : DrawnNet → List ℕ
net_text net = text_of_lines (net_lines net)

-- the text of a configuration
abbrev pub config_text : List DrawnEntry → List ℕ
config_text entries = joined_text (config_lines entries)

-- the network's text of a seed
abbrev pub generated_net : ℕ → List ℕ
generated_net seed = net_text (drawn seed).0.net

-- the configurations of a seed, in the order of the devices
abbrev pub generated_configs : ℕ → List (List ℕ)
generated_configs seed = map config_text (drawn seed).0.entries

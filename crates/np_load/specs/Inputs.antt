-- What all files of a run say.
use Rattle.std.specs.Prelude.{ℕ, List, [], ◌∷◌, Option, Some, Result, Ok}
use Rattle.std.specs.Option.{option_map_or}
use Rattle.np_outside.specs.Files.{Files}
use Rattle.np_acl_read.specs.declared.config.Config.{Config}
use Rattle.np_acl_read.specs.Groups.{no_groups}
use Rattle.np_net.specs.Plan.{Plan}
use Rattle.np_net.specs.declared.filtering.Device.{Device}
use Rattle.np_script.specs.declared.script.Script.{Script}
use Rattle.np_load.specs.Saying.{net_says, config_says, script_says, and_then}

-- a network, and the configurations of its devices in their order
pub record Inputs : Type 0 where
  pub net : Plan
  pub configs : List Config

-- the configuration of a device without a file
abbrev pub empty : Config
empty = record { lists = []; groups = no_groups }

-- what a device's configuration says; without a file it is empty
abbrev pub device_says : Files → Device → Option (Result Config (List ℕ))
device_says files device = option_map_or (config_says files) device.config (Some (Ok empty))

-- what the configurations of these devices say, in their order
abbrev pub configs_say : Files → List Device → Option (Result (List Config) (List ℕ))
configs_say files [] = Some (Ok [])
configs_say files (device ∷ devices) =
    and_then (device_says files device) (λ config. and_then (configs_say files devices) (λ configs. Some (Ok (config ∷ configs))))

-- what all files of a run say: the network's, and then each device's configuration in the order of the devices
abbrev pub inputs_of : Files → List ℕ → Option (Result Inputs (List ℕ))
inputs_of files file =
    and_then (net_says files file) (λ net. and_then (configs_say files net.devices) (λ configs. Some (Ok (record { net = net; configs = configs }))))

-- a network, and a script for it
pub record Play : Type 0 where
  pub net : Plan
  pub script : Script

-- what the files of a replay say: the network's, and then the script's
abbrev pub play_of : Files → List ℕ → List ℕ → Option (Result Play (List ℕ))
play_of files file script =
    and_then (net_says files file) (λ net. and_then (script_says files net script) (λ s. Some (Ok (record { net = net; script = s }))))

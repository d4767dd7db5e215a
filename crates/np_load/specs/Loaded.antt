-- Which devices have their configurations.
use Rattle.std.specs.Prelude.{◌≡◌, ℕ, Bool, false, List, map, Some, Ok}
use Rattle.std.specs.Option.{option_map_or}
use Rattle.std.specs.Str.{bytes_eq}
use Rattle.np_outside.specs.Files.{Files}
use Rattle.np_acl_read.specs.declared.config.Config.{Config}
use Rattle.np_net.specs.declared.filtering.Device.{Device}
use Rattle.np_load.specs.Inputs.{device_says}

-- the device's configuration is in this file
abbrev pub names_file : List ℕ → Device → Bool
names_file file device = option_map_or (bytes_eq file) device.config false

-- each of these devices has the configuration that the files say
pub record AreLoaded (files : Files) (devices : List Device) (configs : List Config) : Type 0 where
  pub each : map (device_says files) devices ≡ map (λ config. Some (Ok config)) configs

-- What it means that a run of notes ends clean.
use Rattle.std.specs.Prelude.{◌≡◌, ℕ, List, ◌∷◌, ◌++◌, length, Some, Ok}
use Rattle.std.specs.FinMap.{get}
use Rattle.np_outside.specs.Files.{Files}
use Rattle.np_acl_read.specs.declared.config.Config.{Config}
use Rattle.np_acl_read.specs.Reading.{config_of}
use Rattle.np_net.specs.declared.filtering.Device.{Device}
use Rattle.np_notes.specs.Clean.{AreItsLines, IsClean, IsNamed}
use Rattle.np_notes.specs.ReadLines.{read_lines}
use Rattle.np_load.specs.Inputs.{Inputs, inputs_of}

-- one that stands at this place among these, from 0 on
pub record IsAt {X : Type 0} (all : List X) (place : ℕ) (one : X) : Type 0 where
  pub front : List X
  pub back : List X
  pub split : all ≡ front ++ one ∷ back
  pub before : length front ≡ place

-- the configuration in a file is clean as that of the device of this number: the file is there, and its bytes declare the device's configuration. Each of its lines says what it says after the lines before it. Each line that looks like an entry and stands in no list of another kind is an entry of a list, and each line that applies a list does so in its interface's section. The lines name each of the device's interfaces, and of those that apply lists the last at each interface and way names an interface of the device, and a list that is there and has entries.
pub record IsCleanFile (files : Files) (inputs : Inputs) (n : ℕ) (file : List ℕ) : Type 0 where
  pub bytes : List ℕ
  pub config : Config
  pub there : get files file ≡ Some bytes
  pub declares : config_of bytes ≡ Ok config
  pub its : IsAt inputs.configs n config
  pub lines : AreItsLines bytes (read_lines bytes)
  pub clean : IsClean config (read_lines bytes)
  pub named : IsNamed inputs.net n config (read_lines bytes)

-- the files declare a network and the configurations of its devices, and each of these that stands in a file is clean
pub record IsCleanRun (files : Files) (file : List ℕ) : Type 0 where
  pub inputs : Inputs
  pub declared : inputs_of files file ≡ Some (Ok inputs)
  pub each : (n : ℕ) (device : Device) (name : List ℕ) → IsAt inputs.net.devices n device → device.config ≡ Some name → IsCleanFile files inputs n name

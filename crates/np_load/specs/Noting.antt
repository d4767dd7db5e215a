-- What the readings of the configurations of a run passed over and may matter.
use Rattle.std.specs.Prelude.{ℕ, ◌+◌, Bool, true, false, ◌&&◌, List, [], ◌∷◌, ◌++◌, Option, Some, Result, Ok}
use Rattle.std.specs.Option.{option_map_or}
use Rattle.std.specs.FinMap.{get}
use Rattle.np_outside.specs.Files.{Files}
use Rattle.np_net.specs.Plan.{Plan}
use Rattle.np_net.specs.declared.filtering.Device.{Device}
use Rattle.np_notes.specs.declared.note.Note.{Note}
use Rattle.np_notes.specs.NameNotes.{interfaces_of}
use Rattle.np_notes.specs.Notes.{notes_of}
use Rattle.np_report.specs.Notes.{notes_text}
use Rattle.np_load.specs.Inputs.{inputs_of}
use Rattle.np_load.specs.Saying.{and_then}

-- the text of notes, and whether there is none
pub record Noted : Type 0 where
  pub text : List ℕ
  pub clean : Bool

-- no notes
abbrev pub nothing : Noted
nothing = record { text = []; clean = true }

-- notes, and after them others
abbrev pub noted_after : Noted → Noted → Noted
noted_after one more = record { text = one.text ++ more.text; clean = one.clean && more.clean }

-- there is no note
abbrev pub is_clean : List Note → Bool
is_clean [] = true
is_clean (note ∷ notes) = false

-- the notes on the configuration in this file
abbrev pub noted_in_file : List ℕ → List Note → Noted
noted_in_file file notes = record { text = notes_text file notes; clean = is_clean notes }

-- the notes on the bytes of a file, as the configuration of the device of this number
abbrev pub file_noted : Files → Plan → ℕ → List ℕ → Noted
file_noted files net device file = option_map_or (λ bytes. noted_in_file file (notes_of (interfaces_of net device) bytes)) (get files file) nothing

-- the notes on the configuration of a device, which has this number; none where it has no file
abbrev pub device_noted : Files → Plan → ℕ → Device → Noted
device_noted files net n device = option_map_or (file_noted files net n) device.config nothing

-- the notes on the configurations of devices, of which the first has this number, in their order
abbrev pub devices_noted : Files → Plan → ℕ → List Device → Noted
devices_noted files net n [] = nothing
devices_noted files net n (device ∷ devices) = noted_after (device_noted files net n device) (devices_noted files net (n + 1) devices)

-- the notes on what all files of a run say: where the network and the configurations of its devices are accepted, those on the configurations
abbrev pub noted_of : Files → List ℕ → Option (Result Noted (List ℕ))
noted_of files file = and_then (inputs_of files file) (λ inputs. Some (Ok (devices_noted files inputs.net 0 inputs.net.devices)))

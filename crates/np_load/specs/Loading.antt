-- What loading gives, beside what files say.
use Rattle.std.specs.Prelude.{◌≡◌, ℕ, ◌+◌, List, [], ◌∷◌, Option, Some, Result, Ok, Err}
use Rattle.std.specs.FinMap.{get}
use Rattle.std.specs.List.{All}
use Rattle.np_outside.specs.Files.{Files}
use Rattle.np_acl_read.specs.declared.config.Config.{Config}
use Rattle.np_notes.specs.ReadLines.{read_lines}
use Rattle.np_notes.specs.Walked.{HasPassed}
use Rattle.np_net.specs.Plan.{Plan}
use Rattle.np_net.specs.declared.filtering.Device.{Device}
use Rattle.np_lines.specs.declared.fault.LineFault.{LineFault}
use Rattle.np_lines.specs.declared.text_error.TextError.{TextError}
use Rattle.np_lines.specs.declared.text_error.TextError.TheVariants as unread
use Rattle.np_report.specs.declared.refusals.Refusal.{Refusal}
use Rattle.np_report.specs.Refusals.{refusal_text}
use Rattle.np_load.specs.declared.halt.Halt.{Halt}
use Rattle.np_load.specs.declared.halt.Halt.TheVariants as halts
use Rattle.np_load.specs.declared.inputs.Inputs as loaded
use Rattle.np_load.specs.declared.noted.Noted as gathered
use Rattle.np_load.specs.declared.noted.ReadFile.{ReadFile}
use Rattle.np_load.specs.declared.plays.Play as played
use Rattle.np_load.specs.Inputs.{Inputs, Play, device_says}
use Rattle.np_load.specs.Noting.{Noted, device_noted, noted_after, nothing}
use Rattle.np_load.specs.Saying.{and_then, config_says}

-- what was loaded is what is said, and a refusal is the one that is said; a fault and want of memory say nothing
abbrev pub LoadsAs : {X Y : Type 0} → (X → Y) → Result X Halt → Option (Result Y (List ℕ)) → Type 0
LoadsAs shown (Ok x) says = says ≡ Some (Ok (shown x))
LoadsAs shown (Err (halts.Refused text)) says = says ≡ Some (Err text)
LoadsAs shown (Err halts.ReadFault) says = Unit {0}
LoadsAs shown (Err halts.Memory) says = Unit {0}

-- the same of a value that is as it is said
abbrev pub Loads : {X : Type 0} → Result X Halt → Option (Result X (List ℕ)) → Type 0
Loads result says = LoadsAs (λ x. x) result says

-- this halt is the refusal that is said, or a fault or want of memory, which say nothing
abbrev pub Halts : {X : Type 0} → Halt → Option (Result X (List ℕ)) → Type 0
Halts {X} halt says = Loads {X = X} (Err halt) says

-- inputs as the program holds them
abbrev pub inputs_in : loaded.Inputs → Inputs
inputs_in inputs = record { net = inputs.net; configs = inputs.configs.items }

-- a network and a script as the program holds them
abbrev pub play_in : played.Play → Play
play_in play = record { net = play.net; script = play.script }

-- a text that isn't read halts the run: with the line that refuses it, or for want of memory
abbrev pub HaltsBy : {W : Type 0} → (LineFault W → Refusal) → List ℕ → TextError W → Halt → Type 0
HaltsBy why file (unread.Fault fault) halt = halt ≡ halts.Refused (refusal_text file (why fault))
HaltsBy why file (unread.Memory e) halt = halt ≡ halts.Memory

-- notes as the program holds them
abbrev pub noted_in : gathered.Noted → Noted
noted_in noted = record { text = noted.text.items; clean = noted.clean }

-- the notes on the configuration of a device, which has this number, where it is accepted
abbrev pub device_notes_say : Files → Plan → ℕ → Device → Option (Result Noted (List ℕ))
device_notes_say files net n device = and_then (device_says files device) (λ config. Some (Ok (device_noted files net n device)))

-- the notes on the configurations of devices, of which the first has this number, up to the first one that is refused
abbrev pub notes_say : Files → Plan → ℕ → List Device → Option (Result Noted (List ℕ))
notes_say files net n [] = Some (Ok nothing)
notes_say files net n (device ∷ devices) =
    and_then (device_notes_say files net n device) (λ one. and_then (notes_say files net (n + 1) devices) (λ more. Some (Ok (noted_after one more))))

-- what is kept of a file that was read: it has an accepted configuration, and this is what its reading passed over
pub record IsReadOf (files : Files) (read : ReadFile) : Type 0 where
  pub bytes : List ℕ
  pub config : Config
  pub there : get files read.file ≡ Some bytes
  pub says : config_says files read.file ≡ Some (Ok config)
  pub passed : HasPassed read.passed (read_lines bytes)

-- each of these files was read
pub record AreReadOf (files : Files) (read : List ReadFile) : Type 0 where
  pub each : All (IsReadOf files) read

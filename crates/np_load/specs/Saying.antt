-- What a file says.
use Rattle.std.specs.Prelude.{ℕ, List, length, nat_lt, Option, Some, None, Result, Ok, Err, if◌then◌else◌}
use Rattle.std.specs.Option.{option_map}
use Rattle.std.specs.FinMap.{get}
use Rattle.np_outside.specs.Files.{Files}
use Rattle.np_net.specs.Plan.{Plan}
use Rattle.np_net_read.specs.Reading.{net_of}
use Rattle.np_acl_read.specs.declared.config.Config.{Config}
use Rattle.np_acl_read.specs.Reading.{config_of}
use Rattle.np_script.specs.Reading.{script_of}
use Rattle.np_script.specs.declared.script.Script.{Script}
use Rattle.np_report.specs.declared.refusals.Refusal.{Refusal}
use Rattle.np_report.specs.declared.refusals.Refusal.TheVariants as refusal
use Rattle.np_report.specs.Refusals.{refusal_text}
use Rattle.np_load.specs.Limits.{file_limit}

-- what a text says, or the line that is written where it is faulty
abbrev pub or_refused : {X Fault : Type 0} → (Fault → Refusal) → List ℕ → Result X Fault → Result X (List ℕ)
or_refused why file (Ok x) = Ok x
or_refused why file (Err fault) = Err (refusal_text file (why fault))

-- what a file says by this reading of its bytes, or the line that is written where it is too long or faulty; nothing where it isn't there
abbrev pub file_says : {X Fault : Type 0} → (Fault → Refusal) → (List ℕ → Result X Fault) → Files → List ℕ → Option (Result X (List ℕ))
file_says why reading files file =
    option_map (λ bytes. if nat_lt file_limit (length bytes) then Err (refusal_text file refusal.TooLong) else or_refused why file (reading bytes)) (get files file)

-- the network that a file declares
abbrev pub net_says : Files → List ℕ → Option (Result Plan (List ℕ))
net_says files file = file_says refusal.Net net_of files file

-- the configuration that a file declares
abbrev pub config_says : Files → List ℕ → Option (Result Config (List ℕ))
config_says files file = file_says refusal.Config config_of files file

-- the script that a file has for a network
abbrev pub script_says : Files → Plan → List ℕ → Option (Result Script (List ℕ))
script_says files net file = file_says refusal.Script (script_of net) files file

-- The first file that is refused, or isn't there, decides.
abbrev pub and_then : {X Y : Type 0} → Option (Result X (List ℕ)) → (X → Option (Result Y (List ℕ))) → Option (Result Y (List ℕ))
and_then None next = None
and_then (Some (Err text)) next = Some (Err text)
and_then (Some (Ok x)) next = next x

-- What it means that a run of notes ends clean.
use Rattle.std.proofs.Common.{◌≡◌, ℕ, ◌+◌, Bool, true, false, arith, List, [], ◌∷◌, ◌++◌, length, Option, Some, None, Result, Ok, Err, refl, sym, ap, subst, ◌∙◌, add-zero}
use Rattle.std.specs.Prelude.{◌&&◌, suc, nat_lt, if◌then◌else◌}
use Rattle.std.specs.FinMap.{get}
use Rattle.std.specs.Option.{option_map, option_map_or}
use Rattle.np_outside.specs.Files.{Files}
use Rattle.np_acl_read.specs.declared.config.Config.{Config}
use Rattle.np_acl_read.specs.Reading.{config_of}
use Rattle.np_net.specs.Plan.{Plan}
use Rattle.np_net.specs.declared.filtering.Device.{Device}
use Rattle.np_notes.specs.declared.note.Note.{Note}
use Rattle.np_notes.specs.LineNotes.{line_notes}
use Rattle.np_notes.specs.NameNotes.{interfaces_of}
use Rattle.np_notes.specs.Notes.{name_notes, notes_of}
use Rattle.np_notes.specs.ReadLines.{read_lines}
use Rattle.np_notes.proofs.CleanLaws.{clean_is}
use Rattle.np_notes.proofs.NamedLaws.{named_is}
use Rattle.np_notes.proofs.ReadLaws.{lines_are_its}
use Rattle.np_report.specs.declared.refusals.Refusal.{Refusal}
use Rattle.np_report.specs.declared.refusals.Refusal.TheVariants as refusal
use Rattle.np_report.specs.Refusals.{refusal_text}
use Rattle.np_load.specs.CleanRun.{IsAt, IsCleanFile, IsCleanRun}
use Rattle.np_load.specs.Inputs.{Inputs, configs_say, device_says, empty, inputs_of}
use Rattle.np_load.specs.Limits.{file_limit}
use Rattle.np_load.specs.Noting.{Noted, device_noted, devices_noted, file_noted, is_clean, noted_in_file, noted_of, nothing}
use Rattle.np_load.specs.Saying.{and_then, config_says, net_says, or_refused}

-- ---- what is said, and is no refusal

-- where the second of two is accepted the first one is
first_said : {X Y : Type 0} (said : Option (Result X (List ℕ))) (next : X → Option (Result Y (List ℕ))) (y : Y) → and_then said next ≡ Some (Ok y) → (x : X) × (said ≡ Some (Ok x)) × (next x ≡ Some (Ok y))
first_said None next y is = absurd (cc)
first_said (Some (Err text)) next y is = absurd (cc)
first_said (Some (Ok x)) next y is = (x, refl, is)

-- a reading that is accepted is the one of the bytes, and they aren't too many
bytes_read : {X Fault : Type 0} (why : Fault → Refusal) (file : List ℕ) (long : Bool) (judged : Result X Fault) (x : X) → Some (if long then Err (refusal_text file refusal.TooLong) else or_refused why file judged) ≡ Some (Ok x) → judged ≡ Ok x
bytes_read why file true judged x is = absurd (cc)
bytes_read why file false (Ok y) x is = let same : y ≡ x = cc in ap (λ z. Ok z) same
bytes_read why file false (Err fault) x is = absurd (cc)

-- a file with an accepted configuration is there
file_there : (files : Files) (file : List ℕ) (config : Config) → config_says files file ≡ Some (Ok config) → (bytes : List ℕ) × (get files file ≡ Some bytes) × (config_of bytes ≡ Ok config)
file_there files file config says = by (get files file) refl says where
  by : (found : Option (List ℕ)) → get files file ≡ found
      → option_map (λ bytes. if nat_lt file_limit (length bytes) then Err (refusal_text file refusal.TooLong) else or_refused refusal.Config file (config_of bytes)) found ≡ Some (Ok config)
      → (bytes : List ℕ) × (get files file ≡ Some bytes) × (config_of bytes ≡ Ok config)
  by None there is = absurd (cc)
  by (Some bytes) there is = (bytes, there, bytes_read refusal.Config file (nat_lt file_limit (length bytes)) (config_of bytes) config is)

-- ---- one device among the others

-- its configuration is said, and stands at its place among the others
config_at : (files : Files) (before after : List Device) (device : Device) (configs : List Config) → configs_say files (before ++ device ∷ after) ≡ Some (Ok configs)
    → (config : Config) × (device_says files device ≡ Some (Ok config)) × IsAt configs (length before) config
config_at files [] after device configs says =
    let own = first_said (device_says files device) (λ config. and_then (configs_say files after) (λ cs. Some (Ok (config ∷ cs)))) configs says in
    let others = first_said (configs_say files after) (λ cs. Some (Ok (own.0 ∷ cs))) configs own.2 in
    let whole : own.0 ∷ others.0 ≡ configs = cc in
    (own.0, own.1, record { front = []; back = others.0; split = sym whole; before = refl })
config_at files (first ∷ before) after device configs says =
    let own = first_said (device_says files first) (λ config. and_then (configs_say files (before ++ device ∷ after)) (λ cs. Some (Ok (config ∷ cs)))) configs says in
    let others = first_said (configs_say files (before ++ device ∷ after)) (λ cs. Some (Ok (own.0 ∷ cs))) configs own.2 in
    let whole : own.0 ∷ others.0 ≡ configs = cc in
    let found = config_at files before after device others.0 others.1 in
    (found.0, found.1, record { front = own.0 ∷ found.2.front; back = found.2.back; split = sym whole ∙ ap (λ cs. own.0 ∷ cs) found.2.split; before = ap (λ n. suc n) found.2.before })

and_both : (a b : Bool) → (a && b) ≡ true → (a ≡ true) × (b ≡ true)
and_both true b is = (refl, is)
and_both false b is = absurd (cc)

-- where there is no note on all there is none on it
clean_at : (files : Files) (net : Plan) (n : ℕ) (before after : List Device) (device : Device) → (devices_noted files net n (before ++ device ∷ after)).clean ≡ true → (device_noted files net (n + length before) device).clean ≡ true
clean_at files net n [] after device clean =
    subst (λ k. (device_noted files net k device).clean ≡ true) (sym (add-zero n)) (and_both (device_noted files net n device).clean (devices_noted files net (n + 1) after).clean clean).0
clean_at files net n (first ∷ before) after device clean =
    let rest = clean_at files net (n + 1) before after device (and_both (device_noted files net n first).clean (devices_noted files net (n + 1) (before ++ device ∷ after)).clean clean).1 in
    let same : n + 1 + length before ≡ n + suc (length before) = omega arith in
    subst (λ k. (device_noted files net k device).clean ≡ true) same rest

none_noted : (notes : List Note) → is_clean notes ≡ true → notes ≡ []
none_noted [] clean = refl
none_noted (note ∷ notes) clean = absurd (cc)

both_none : {X : Type 0} (xs ys : List X) → xs ++ ys ≡ [] → (xs ≡ []) × (ys ≡ [])
both_none [] ys none = (refl, none)
both_none (x ∷ xs) ys none = absurd (cc)

-- the configuration in a file is clean where there is no note on it
clean_file : (files : Files) (inputs : Inputs) (n : ℕ) (file : List ℕ) (config : Config) → IsAt inputs.configs n config → config_says files file ≡ Some (Ok config) → (file_noted files inputs.net n file).clean ≡ true → IsCleanFile files inputs n file
clean_file files inputs n file config its says clean = record {
  bytes = bytes;
  config = config;
  there = found.1;
  declares = found.2;
  its = its;
  lines = lines_are_its bytes config found.2;
  clean = clean_is bytes config found.2 none.0;
  named = named_is bytes config inputs.net n found.2 none.1;
}
  where
    found : (bytes : List ℕ) × (get files file ≡ Some bytes) × (config_of bytes ≡ Ok config)
    found = file_there files file config says

    bytes : List ℕ
    bytes = found.0

    noted : is_clean (notes_of (interfaces_of inputs.net n) bytes) ≡ true
    noted = sym (ap (λ o. (option_map_or (λ b. noted_in_file file (notes_of (interfaces_of inputs.net n) b)) o nothing).clean) found.1) ∙ clean

    none : (line_notes (read_lines bytes) ≡ []) × (name_notes (interfaces_of inputs.net n) (read_lines bytes) ≡ [])
    none = both_none (line_notes (read_lines bytes)) (name_notes (interfaces_of inputs.net n) (read_lines bytes)) (none_noted (notes_of (interfaces_of inputs.net n) bytes) noted)

-- ---- the whole

-- what is said where nothing is refused
abbrev accepted : {X : Type 0} → X → Option (Result X (List ℕ))
accepted x = Some (Ok x)

-- a network and configurations
abbrev both : Plan → List Config → Inputs
both net configs = record { net = net; configs = configs }

-- the notes on the configurations of all devices
abbrev all_of : Files → Inputs → Noted
all_of files inputs = devices_noted files inputs.net 0 inputs.net.devices

same_accepted : {X : Type 0} (x y : X) → accepted x ≡ accepted y → x ≡ y
same_accepted x y is = cc

-- the configurations are those that the devices' files say
configs_said : (files : Files) (file : List ℕ) (inputs : Inputs) → inputs_of files file ≡ accepted inputs → configs_say files inputs.net.devices ≡ accepted inputs.configs
configs_said files file inputs is =
    let net = first_said (net_says files file) (λ net. and_then (configs_say files net.devices) (λ configs. accepted (both net configs))) inputs is in
    let configs = first_said (configs_say files net.0.devices) (λ configs. accepted (both net.0 configs)) inputs net.2 in
    subst (λ (i : Inputs). configs_say files i.net.devices ≡ accepted i.configs) (same_accepted (both net.0 configs.0) inputs configs.2) configs.1

-- where no device has a note, each one's file is clean
each_clean : (files : Files) (inputs : Inputs) → configs_say files inputs.net.devices ≡ accepted inputs.configs → (all_of files inputs).clean ≡ true
    → (n : ℕ) (device : Device) (name : List ℕ) → IsAt inputs.net.devices n device → device.config ≡ Some name → IsCleanFile files inputs n name
each_clean files inputs said clean n device name at named = subst (λ k. IsCleanFile files inputs k name) at.before own where
  here : (config : Config) × (device_says files device ≡ accepted config) × IsAt inputs.configs (length at.front) config
  here = config_at files at.front at.back device inputs.configs (subst (λ devices. configs_say files devices ≡ accepted inputs.configs) at.split said)

  noted_here : (device_noted files inputs.net (length at.front) device).clean ≡ true
  noted_here =
      let same : 0 + length at.front ≡ length at.front = omega arith in
      subst (λ k. (device_noted files inputs.net k device).clean ≡ true) same
      (clean_at files inputs.net 0 at.front at.back device (subst (λ devices. (devices_noted files inputs.net 0 devices).clean ≡ true) at.split clean))

  own : IsCleanFile files inputs (length at.front) name
  own = clean_file files inputs (length at.front) name here.0 here.2
      (sym (ap (λ o. option_map_or (config_says files) o (accepted empty)) named) ∙ here.1)
      (sym (ap (λ o. (option_map_or (file_noted files inputs.net (length at.front)) o nothing).clean) named) ∙ noted_here)

pub clean_run : (files : Files) (file : List ℕ) (noted : Noted) → noted_of files file ≡ Some (Ok noted) → noted.clean ≡ true → IsCleanRun files file
clean_run files file noted is clean =
    let found = first_said (inputs_of files file) (λ inputs. accepted (all_of files inputs)) noted is in
    let same : all_of files found.0 ≡ noted = same_accepted (all_of files found.0) noted found.2 in
    record { inputs = found.0; declared = found.1; each = each_clean files found.0 (configs_said files file found.0 found.1) (ap (λ n. n.clean) same ∙ clean) }

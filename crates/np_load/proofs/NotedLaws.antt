-- The notes of one device after another.
use Rattle.std.proofs.Common.{◌≡◌, ℕ, ◌+◌, false, List, [], ◌∷◌, ◌++◌, arith, map, length, Option, Some, None, Result, Ok, Err, refl, sym, ap, ◌∙◌}
use Rattle.std.specs.Prelude.{◌≤◌, ◌&&◌, nat_lt, IsOk, IsSome}
use Rattle.std.specs.FinMap.{get}
use Rattle.std.specs.Option.{option_map_or}
use Rattle.std.proofs.lemmas.Bool.Decides.{nat_tests}
use Rattle.std.proofs.lemmas.Grind.{flat_map-append}
use Rattle.std.proofs.lemmas.List.{map-append}
use Rattle.std.proofs.lemmas.List.Elements.{All-append, All-cons, All-nil}
use Rattle.np_outside.specs.Files.{Files}
use Rattle.np_acl_read.specs.declared.config.Config.{Config}
use Rattle.np_acl_read.specs.Reading.{config_of}
use Rattle.np_net.specs.Plan.{Plan}
use Rattle.np_net.specs.declared.filtering.Device.{Device}
use Rattle.np_notes.specs.declared.note.Note.{Note}
use Rattle.np_notes.specs.declared.passed.Passed.{Passed}
use Rattle.np_notes.specs.LineNotes.{line_notes}
use Rattle.np_notes.specs.NameNotes.{interfaces_of}
use Rattle.np_notes.specs.Notes.{name_notes, notes_of}
use Rattle.np_notes.specs.ReadLines.{ReadLine, read_lines}
use Rattle.np_notes.specs.Walked.{HasPassed}
use Rattle.np_report.specs.Notes.{note_words, notes_text}
use Rattle.np_text.specs.Joined.{joined_line, joined_text, text_of_lines}
use Rattle.np_load.specs.declared.halt.Halt.{Halt}
use Rattle.np_load.specs.declared.halt.Halt.TheVariants as halts
use Rattle.np_load.specs.declared.noted.Noted as gathered
use Rattle.np_load.specs.declared.noted.ReadFile.{ReadFile}
use Rattle.np_load.specs.Inputs.{Inputs, configs_say, device_says}
use Rattle.np_load.specs.Loading.{AreReadOf, IsReadOf, Loads, LoadsAs, device_notes_say, noted_in, notes_say}
use Rattle.np_load.specs.Limits.{file_limit}
use Rattle.np_load.specs.Noting.{Noted, device_noted, devices_noted, file_noted, is_clean, noted_after, noted_in_file, noted_of, nothing}
use Rattle.np_load.specs.Saying.{and_then, config_says, net_says}

-- what is said with these notes in front
abbrev pub behind_noted : Noted → Option (Result Noted (List ℕ)) → Option (Result Noted (List ℕ))
behind_noted front says = and_then says (λ more. Some (Ok (noted_after front more)))

-- the devices' notes are those of their configurations, where these are accepted
notes_said : (files : Files) (net : Plan) (n : ℕ) (devices : List Device) → notes_say files net n devices ≡ and_then (configs_say files devices) (λ configs. Some (Ok (devices_noted files net n devices)))
notes_said files net n [] = refl
notes_said files net n (device ∷ devices) =
    (λ i. and_then (device_notes_say files net n device) (λ one. and_then (notes_said files net (n + 1) devices i) (λ more. Some (Ok (noted_after one more)))))
    ∙ by (device_says files device) (configs_say files devices)
  where
    one : Noted
    one = device_noted files net n device

    more : Noted
    more = devices_noted files net (n + 1) devices

    by : (first : Option (Result Config (List ℕ))) (others : Option (Result (List Config) (List ℕ))) →
        and_then (and_then first (λ config. Some (Ok one))) (λ own. and_then (and_then others (λ configs. Some (Ok more))) (λ left. Some (Ok (noted_after own left))))
        ≡ and_then (and_then first (λ config. and_then others (λ configs. Some (Ok (config ∷ configs))))) (λ configs. Some (Ok (noted_after one more)))
    by None others = refl
    by (Some (Err text)) others = refl
    by (Some (Ok config)) None = refl
    by (Some (Ok config)) (Some (Err text)) = refl
    by (Some (Ok config)) (Some (Ok configs)) = refl

-- a network and configurations
abbrev both : Plan → List Config → Inputs
both net configs = record { net = net; configs = configs }

-- the notes on the configurations of a network's devices
abbrev all_of : Files → Plan → Noted
all_of files net = devices_noted files net 0 net.devices

-- the notes on what all files say, file by file
noted_by_files : (files : Files) (file : List ℕ) → noted_of files file ≡ and_then (net_says files file) (λ net. notes_say files net 0 net.devices)
noted_by_files files file = by (net_says files file) where
  in_net : (net : Plan) (configs : Option (Result (List Config) (List ℕ))) →
      and_then (and_then configs (λ cs. Some (Ok (both net cs)))) (λ (inputs : Inputs). Some (Ok (all_of files inputs.net))) ≡ and_then configs (λ cs. Some (Ok (all_of files net)))
  in_net net None = refl
  in_net net (Some (Err text)) = refl
  in_net net (Some (Ok cs)) = refl

  by : (said : Option (Result Plan (List ℕ))) →
      and_then (and_then said (λ net. and_then (configs_say files net.devices) (λ configs. Some (Ok (both net configs))))) (λ (inputs : Inputs). Some (Ok (all_of files inputs.net)))
      ≡ and_then said (λ net. notes_say files net 0 net.devices)
  by None = refl
  by (Some (Err text)) = refl
  by (Some (Ok net)) = in_net net (configs_say files net.devices) ∙ sym (notes_said files net 0 net.devices)

-- ---- the notes on one configuration

text_both : (file : List ℕ) (one more : List Note) → notes_text file (one ++ more) ≡ notes_text file one ++ notes_text file more
text_both file one more =
    ap text_of_lines (map-append (note_words file) one more)
    ∙ ap joined_text (map-append (λ words. (false, words)) (map (note_words file) one) (map (note_words file) more))
    ∙ flat_map-append (λ line. joined_line line.0 line.1 ++ 10 ∷ []) (map (λ words. (false, words)) (map (note_words file) one)) (map (λ words. (false, words)) (map (note_words file) more))

clean_both : (one more : List Note) → is_clean (one ++ more) ≡ (is_clean one && is_clean more)
clean_both [] more = refl
clean_both (note ∷ one) more = refl

-- notes and others after them are all
both_of : (file : List ℕ) (one more : List Note) → noted_after (noted_in_file file one) (noted_in_file file more) ≡ noted_in_file file (one ++ more)
both_of file one more = (λ i. record { text = sym (text_both file one more) i; clean = sym (clean_both one more) i })

-- those of a configuration's lines and those of names are those on the configuration
pub both_noted : (net : Plan) (device : ℕ) (file : List ℕ) (passed : Passed) (noted first second : Noted) (lines names : List Note) → noted ≡ noted_after first second → first ≡ noted_in_file file lines → second ≡ noted_in_file file names →
    ((all : List ReadLine) → HasPassed passed all → lines ≡ line_notes all) → ((all : List ReadLine) → HasPassed passed all → names ≡ name_notes (interfaces_of net device) all) →
    (bytes : List ℕ) → HasPassed passed (read_lines bytes) → noted ≡ noted_in_file file (notes_of (interfaces_of net device) bytes)
both_noted net device file passed noted first second lines names is one two of_lines of_names bytes had =
    is
    ∙ (λ i. noted_after (one i) (two i))
    ∙ both_of file lines names
    ∙ (λ i. noted_in_file file (of_lines (read_lines bytes) had i ++ of_names (read_lines bytes) had i))

-- ---- what is loaded

-- once the network is read, the notes on its devices' configurations are those on all files
pub noted_in_net : (files : Files) (file : List ℕ) (net : Plan) (result : Result gathered.Noted Halt) → net_says files file ≡ Some (Ok net) → LoadsAs noted_in result (notes_say files net 0 net.devices) → LoadsAs noted_in result (noted_of files file)
noted_in_net files file net result says noted = rw (noted_by_files files file, says) noted

-- and each file is there exactly where they say so
pub some_in_net : (files : Files) (file : List ℕ) (net : Plan) → net_says files file ≡ Some (Ok net) → IsSome (noted_of files file) → IsSome (notes_say files net 0 net.devices)
some_in_net files file net says some = rw says at (rw (noted_by_files files file) at some)

-- a file that isn't too long and is accepted has a configuration
not_longer : (limit count : ℕ) → count ≤ limit → nat_lt limit count ≡ false
not_longer limit count within = grind (arith, nat_tests)

-- a result that is no error is a value
value_of : {X E : Type 0} (result : Result X E) → IsOk result → (x : X) × (result ≡ Ok x)
value_of (Ok x) ok = (x, refl)
value_of (Err e) ok = absurd (cc)

pub read_says : (files : Files) (file bytes : List ℕ) (read : ReadFile) → get files file ≡ Some bytes → length bytes ≤ file_limit → IsOk (config_of bytes) → read.file ≡ file → HasPassed read.passed (read_lines bytes) → IsReadOf files read
read_says files file bytes read there within accepted same passed = record {
  bytes = bytes;
  config = config;
  there = ap (λ f. get files f) same ∙ there;
  says = ap (λ f. config_says files f) same ∙ says;
  passed = passed;
}
  where
    config : Config
    config = (value_of (config_of bytes) accepted).0

    is : config_of bytes ≡ Ok config
    is = (value_of (config_of bytes) accepted).1

    says : config_says files file ≡ Some (Ok config)
    says = rw (there, not_longer file_limit (length bytes) within, is) refl

-- before any file is read
pub none_read : (files : Files) (read : List ReadFile) → read ≡ [] → AreReadOf files read
none_read files read none = rw none (record { each = All-nil (IsReadOf files) })

-- one more file that was read
pub read_more : (files : Files) (read : List ReadFile) (one : ReadFile) → AreReadOf files read → IsReadOf files one → AreReadOf files (read ++ one ∷ [])
read_more files read one had is = record {
  each = All-append (IsReadOf files) read (one ∷ []) had.each (All-cons (IsReadOf files) one [] is (All-nil (IsReadOf files)));
}

-- the notes on a file that was read
pub noted_says : (files : Files) (net : Plan) (n : ℕ) (file : List ℕ) (read : ReadFile) (noted : Noted) → IsReadOf files read → read.file ≡ file →
    ((bytes : List ℕ) → HasPassed read.passed (read_lines bytes) → noted ≡ noted_in_file file (notes_of (interfaces_of net n) bytes)) →
    and_then (config_says files file) (λ config. Some (Ok (file_noted files net n file))) ≡ Some (Ok noted)
noted_says files net n file read noted is same noted_on =
    ap (λ said. and_then said (λ config. Some (Ok (file_noted files net n file)))) (sym (ap (λ f. config_says files f) same) ∙ is.says)
    ∙ ap (λ found. Some (Ok (option_map_or (λ bytes. noted_in_file file (notes_of (interfaces_of net n) bytes)) found nothing))) (sym (ap (λ f. get files f) same) ∙ is.there)
    ∙ ap (λ own. Some (Ok own)) (sym (noted_on is.bytes is.passed))

-- a halt at a file is a halt of what comes after it
pub halt_first : {X Y Z : Type 0} (shown : Z → Y) (halt : Halt) (says : Option (Result X (List ℕ))) (next : X → Option (Result Y (List ℕ))) → Loads {X = X} (Err halt) says → LoadsAs shown (Err halt) (and_then says next)
halt_first shown (halts.Refused text) says next refused = ap (λ s. and_then s next) refused
halt_first shown halts.ReadFault says next refused = tt
halt_first shown halts.Memory says next refused = tt

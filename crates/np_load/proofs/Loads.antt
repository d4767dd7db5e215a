-- What loading gives at the exit of a failed call.
use Rattle.std.proofs.Common.{◌≡◌, ℕ, ◌<◌, List, [], ◌∷◌, ◌++◌, append_assoc, length, ltb, Option, Some, None, Result, Ok, Err, refl, sym, ◌∙◌, ap, cond}
use Rattle.std.proofs.lemmas.Bool.{lt-ltb}
use Rattle.std.specs.Prelude.{IsErrOf, IsSomeAnd}
use Rattle.std.specs.Option.{option_map}
use Rattle.std.specs.FinMap.{get}
use Rattle.np_outside.specs.Files.{Files}
use Rattle.np_acl_read.specs.declared.config.Config.{Config}
use Rattle.np_net.specs.declared.filtering.Device.{Device}
use Rattle.np_report.specs.declared.refusals.Refusal.{Refusal}
use Rattle.np_report.specs.declared.refusals.Refusal.TheVariants as refusals
use Rattle.np_report.specs.Refusals.{refusal_text}
use Rattle.np_load.specs.declared.halt.Halt.{Halt}
use Rattle.np_load.specs.declared.halt.Halt.TheVariants as halts
use Rattle.np_load.specs.Limits.{file_limit}
use Rattle.np_load.specs.Loading.{Loads}
use Rattle.np_load.specs.Inputs.{device_says, configs_say}
use Rattle.np_load.specs.Saying.{file_says, or_refused, and_then}

long_says : {X Fault : Type 0} (why : Fault → Refusal) (reading : List ℕ → Result X Fault) (file text : List ℕ) (found : Option (List ℕ)) →
    text ≡ refusal_text file refusals.TooLong → IsSomeAnd found (λ bytes. file_limit < length bytes) →
    option_map (λ bytes. cond (ltb file_limit (length bytes)) (Err (refusal_text file refusals.TooLong)) (or_refused why file (reading bytes))) found ≡ Some (Err text)
long_says why reading file text None is long = absurd long
long_says why reading file text (Some bytes) is long =
    ap (λ b. Some (cond b (Err (refusal_text file refusals.TooLong)) (or_refused why file (reading bytes)))) (lt-ltb _ _ long) ∙ ap (λ t. Some (Err t)) (sym is)

-- a halt before the bytes are read is what the file says, however they would be read
pub bytes_halt : {X Y Fault : Type 0} (why : Fault → Refusal) (reading : List ℕ → Result X Fault) (files : Files) (file : List ℕ) (halt : Halt) →
    ((text : List ℕ) → IsErrOf {T = Y} (Err halt) (halts.Refused text) → (text ≡ refusal_text file refusals.TooLong) × IsSomeAnd (get files file) (λ bytes. file_limit < length bytes)) →
    Loads (Err halt) (file_says why reading files file)
bytes_halt why reading files file (halts.Refused text) refused = let h = refused text refl in long_says why reading file text (get files file) h.0 h.1
bytes_halt why reading files file halts.ReadFault refused = tt
bytes_halt why reading files file halts.Memory refused = tt

-- what is said with these items in front
abbrev pub behind : {X : Type 0} → List X → Option (Result (List X) (List ℕ)) → Option (Result (List X) (List ℕ))
behind front says = and_then says (λ xs. Some (Ok (front ++ xs)))

-- one more configuration that is loaded, and the same is said
pub one_more : (files : Files) (front : List Config) (config : Config) (device : Device) (rest : List Device) → device_says files device ≡ Some (Ok config) →
    behind (front ++ config ∷ []) (configs_say files rest) ≡ behind front (configs_say files (device ∷ rest))
one_more files front config device rest says = by (configs_say files rest) ∙ ap (λ said. behind front (and_then said (λ c. and_then (configs_say files rest) (λ cs. Some (Ok (c ∷ cs)))))) (sym says) where
  by : (said : Option (Result (List Config) (List ℕ))) → behind (front ++ config ∷ []) said ≡ behind front (and_then said (λ cs. Some (Ok (config ∷ cs))))
  by None = refl
  by (Some (Err text)) = refl
  by (Some (Ok cs)) = ap (λ t. Some (Ok t)) (append_assoc front (config ∷ []) cs)

-- Configurations that are shared where a device before has the same file.
use Rattle.std.proofs.Common.{◌≡◌, ℕ, ◌+◌, Bool, true, false, cond, List, [], ◌∷◌, ◌++◌, Option, Some, None, Ok, slice_get, get_or, ◌<◌, length, refl, sym, ◌∙◌, ap}
use Rattle.std.specs.Prelude.{◌||◌, is_some, option_map}
use Rattle.std.specs.List.{list_any, position, position_from}
use Rattle.std.specs.Option.{option_map_or}
use Rattle.std.specs.Str.{bytes_eq}
use Rattle.std.proofs.lemmas.Iterator.Adapters.{position_from-zero}
use Rattle.std.proofs.lemmas.List.{map-append}
use Rattle.std.proofs.lemmas.List.Quantifiers.{position-Some}
use Rattle.std.proofs.lemmas.Option.{same_Some, slice_get-get_or, slice_get-map, slice_get_read}
use Rattle.std.proofs.lemmas.Slice.Eq.{bytes_eq-Decides}
use Rattle.np_outside.specs.Files.{Files}
use Rattle.np_acl_read.specs.declared.config.Config.{Config}
use Rattle.np_net.specs.declared.filtering.Device.{Device}
use Rattle.np_load.specs.Inputs.{device_says, empty}
use Rattle.np_load.specs.Loaded.{AreLoaded, names_file}
use Rattle.np_load.specs.Saying.{config_says}

-- a device whose configuration is in a file has what the file says
named_says : (files : Files) (file : List ℕ) (device : Device) → names_file file device ≡ true → device_says files device ≡ config_says files file
named_says files file device = by device.config where
  by : (own : Option (List ℕ)) → option_map_or (bytes_eq file) own false ≡ true → option_map_or (config_says files) own (Some (Ok empty)) ≡ config_says files file
  by None named = cc
  by (Some own) named = ap (config_says files) (sym ((bytes_eq-Decides file own).0 named))

module _ {X : Type 0} (p : X → Bool) where
  some_from : (i : ℕ) (xs : List X) → is_some (position_from p i xs) ≡ list_any p xs
  some_from i [] = refl
  some_from i (x ∷ xs) = by (p x) (some_from (i + 1) xs) where
    by : (b : Bool) → is_some (position_from p (i + 1) xs) ≡ list_any p xs → is_some (cond b (Some i) (position_from p (i + 1) xs)) ≡ (b || list_any p xs)
    by true rest = refl
    by false rest = rest

  -- there is a place where an element passes exactly if some element does
  pub position_found : (xs : List X) → is_some (position p xs) ≡ list_any p xs
  position_found xs = ap is_some (position_from-zero p xs) ∙ some_from 0 xs

-- the configuration of a device before, whose configuration is in the file, is what the file says
pub loaded_before : (files : Files) (devices : List Device) (configs : List Config) (file : List ℕ) (k : ℕ) (config : Config) → position (names_file file) devices ≡ Some k → k < length configs → config ≡ get_or configs k config → AreLoaded files devices configs → config_says files file ≡ Some (Ok config)
loaded_before files [] configs file k config at within is loaded = cc
loaded_before files (d ∷ ds) configs file k config at within is loaded =
    let device = get_or (d ∷ ds) k d in
    let found = position-Some (names_file file) (d ∷ ds) k d at in
    let has : slice_get configs k ≡ Some config = slice_get_read configs (length configs) k config refl within is in
    let there : slice_get (d ∷ ds) k ≡ Some device = slice_get-get_or (d ∷ ds) k d found.0 in
    let same : option_map (device_says files) (slice_get (d ∷ ds) k) ≡ option_map (λ c. Some (Ok c)) (slice_get configs k) =
    sym (slice_get-map (device_says files) (d ∷ ds) k) ∙ ap (λ l. slice_get l k) loaded.each ∙ slice_get-map (λ c. Some (Ok c)) configs k in
    let says : Some (device_says files device) ≡ Some (Some (Ok config)) =
    sym (ap (option_map (device_says files)) there) ∙ same ∙ ap (option_map (λ c. Some (Ok c))) has in
    sym (named_says files file device found.1) ∙ same_Some (device_says files device) (Some (Ok config)) says

-- one more device that has its configuration
pub loaded_more : (files : Files) (devices : List Device) (configs : List Config) (device : Device) (config : Config) → AreLoaded files devices configs → device_says files device ≡ Some (Ok config) → AreLoaded files (devices ++ device ∷ []) (configs ++ config ∷ [])
loaded_more files devices configs device config loaded says = record {
  each =
      map-append (device_says files) devices (device ∷ []) ∙ (λ i. loaded.each i ++ says i ∷ [])
      ∙ sym (map-append (λ c. Some (Ok c)) configs (config ∷ []));
}

-- What configurations apply: the lists, and what they let cross.
use Rattle.std.proofs.Common.{rules, ◌≡◌, ℕ, ◌+◌, ◌*◌, ◌/◌, ◌<◌, ◌≤◌, Bool, true, false, List, [], ◌∷◌, ◌++◌, length, get_or, set, take, map, Option, Some, None, Result, Ok, Err, IfOk, refl, sym, ◌∙◌, ap, subst, arith, inl, inr}
use Rattle.std.specs.Prelude.{◌||◌, IfSome, IsSome, option_and_then, option_map, unwrap_or}
use Rattle.std.specs.List.{AllByRecursion, range_with_len}
use Rattle.std.specs.Map.{lookup}
use Rattle.std.specs.Option.{option_map_or}
use Rattle.std.specs.Str.{bytes_eq}
use Rattle.std.proofs.Math.ListN.{get_or-map as get_or-map-default}
use Rattle.std.proofs.lemmas.Bool.{cases_lt}
use Rattle.std.proofs.lemmas.List.{get_or-map, get_or_past, length-map}
use Rattle.std.proofs.lemmas.List.FromFn.{get_or-map-range_with_len, length-range_with_len}
use Rattle.np_space.specs.declared.headers.Header.{Header}
use Rattle.np_acl.specs.declared.entries.Entry.{Entry}
use Rattle.np_acl.specs.Entries.{list_permits}
use Rattle.np_acl_read.specs.declared.config.Config.{Config}
use Rattle.np_net.specs.declared.filtering.Interface.{Interface}
use Rattle.np_net.specs.Distinct.{AreDistinct, same_place}
use Rattle.np_net.specs.Network.{IsNetwork}
use Rattle.np_net.specs.Plan.{Plan}
use Rattle.np_net.proofs.RangeLaws.{device_in_range}
use Rattle.np_cut.specs.Applying.{AreThere, applied_of, config_at, key_list, list_there, list_with_entries, named_key, names_of_keys, place_in, some_entries, slot_config, slot_interface, slot_key, slot_keys, slot_lets, slot_name}
use Rattle.np_cut.specs.AppliedLists.{AppliedLists, IsApplied, applied_lets}
use Rattle.np_cut.proofs.KeyLaws.{StandsAt, key_device, key_stands, names_distinct, names_hold, place_within}

-- ---- the lists and where they are applied

pub is_applied : (lists : List (List Entry)) (names set : List (ℕ × List ℕ)) (keys : List (Option (ℕ × List ℕ))) (at : List (Option ℕ)) → length lists ≡ length set → names ≡ set → at ≡ map (place_in set) keys → IsApplied record { lists = lists; names = names; at = at }
is_applied lists names set keys at el en ea =
    record {
      places = λ slot. subst (λ (o : Option ℕ). IfSome o (λ place. place < length lists)) (sym (read slot)) (subst (λ (n : ℕ). IfSome (place_in set (get_or keys slot None)) (λ place. place < n)) (sym el) (place_within set (get_or keys slot None)));
      named = ap length en ∙ sym el;
    }
  where
    read : (slot : ℕ) → get_or at slot None ≡ place_in set (get_or keys slot None)
    read slot = ap (λ l. get_or l slot None) ea ∙ get_or-map-default (place_in set) keys slot None

-- the key of a slot, as the slots are numbered
key_read : (interfaces : List Interface) (configs : List Config) (slot : ℕ) → slot < 2 * length interfaces → get_or (slot_keys interfaces configs) slot None ≡ slot_key interfaces configs slot
key_read interfaces configs slot within = get_or-map-range_with_len (slot_key interfaces configs) 0 (2 * length interfaces) slot slot None within (omega arith)

-- what is permitted by the list at the place of a slot's key
permitted_at : (configs : List Config) (names : List (ℕ × List ℕ)) (k : ℕ × List ℕ) (place : ℕ) (list : List Entry) (h : Header) → StandsAt names k place → key_list configs k ≡ list → option_map_or (λ n. list_permits (get_or (map (key_list configs) names) n []) h) (place_in names (Some k)) true ≡ list_permits list h
permitted_at configs names k place list h s e =
    ap (λ o. option_map_or (λ n. list_permits (get_or (map (key_list configs) names) n []) h) o true) s.is
    ∙ ap (λ l. list_permits l h) (get_or-map (key_list configs) names place (0, []) [] s.within ∙ ap (key_list configs) (s.key (0, [])) ∙ e)

-- what the lists let cross a slot is what the configurations do
pub applied_is : (interfaces : List Interface) (configs : List Config) (slot : ℕ) → slot < 2 * length interfaces → (h : Header) → applied_lets (applied_of interfaces configs) slot h ≡ slot_lets interfaces configs slot h
applied_is interfaces configs slot within h =
    ap (λ o. option_map_or permits o true) (get_or-map-default (place_in names) keys slot None ∙ ap (place_in names) read)
    ∙ by_name (slot_name interfaces configs slot) read
  where
    keys : List (Option (ℕ × List ℕ))
    keys = slot_keys interfaces configs

    names : List (ℕ × List ℕ)
    names = names_of_keys keys

    config : Config
    config = slot_config interfaces configs slot

    device : ℕ
    device = (slot_interface interfaces slot).device

    permits : ℕ → Bool
    permits n = list_permits (get_or (map (key_list configs) names) n []) h

    read : get_or keys slot None ≡ slot_key interfaces configs slot
    read = key_read interfaces configs slot within

    by_list : (name : List ℕ) (found : Option (List Entry)) → lookup (bytes_eq name) config.lists ≡ found → get_or keys slot None ≡ named_key config.lists device name → option_map_or permits (place_in names (named_key config.lists device name)) true ≡ option_map_or (λ list. list_permits list h) (list_with_entries config.lists name) true
    by_list name None e r = rw e refl
    by_list name (Some []) e r = rw e refl
    by_list name (Some (x ∷ xs)) e r =
        let is : get_or keys slot None ≡ Some (device, name) = r ∙ rw e refl in
        rw e (permitted_at configs names (device, name) _ (x ∷ xs) h (key_stands (device, name) keys slot is) (ap (λ o. unwrap_or o []) e))

    by_name : (name : Option (List ℕ)) → get_or keys slot None ≡ option_and_then (named_key config.lists device) name → option_map_or permits (place_in names (option_and_then (named_key config.lists device) name)) true ≡ option_map_or (λ list. list_permits list h) (option_and_then (list_with_entries config.lists) name) true
    by_name None r = refl
    by_name (Some name) r = by_list name (lookup (bytes_eq name) config.lists) refl r

-- past the last slot there is no key
no_key_past : (interfaces : List Interface) (configs : List Config) (slot : ℕ) → 2 * length interfaces ≤ slot → get_or (slot_keys interfaces configs) slot None ≡ None
no_key_past interfaces configs slot past =
    get_or_past (slot_keys interfaces configs) slot None (omega (arith, length-map (range_with_len 0 (2 * length interfaces)) (slot_key interfaces configs), length-range_with_len 0 (2 * length interfaces)))

some_is_none : (k : ℕ × List ℕ) → None ≡ Some k → ⊥
some_is_none k e = cc

-- the devices of the lists are devices of the network
devices_within : (net : Plan) (configs : List Config) → IsNetwork net → AllByRecursion (λ name. name.0 < length net.devices) (names_of_keys (slot_keys net.interfaces configs))
devices_within net configs is = names_hold (λ name. name.0 < length net.devices) (slot_keys net.interfaces configs) of_slot
  where
    of_slot : (slot : ℕ) (k : ℕ × List ℕ) → get_or (slot_keys net.interfaces configs) slot None ≡ Some k → k.0 < length net.devices
    of_slot slot k e =
        elim (cases_lt slot (2 * length net.interfaces)) [
          | inl within ↦
              let config = slot_config net.interfaces configs slot in
              let device : k.0 ≡ (slot_interface net.interfaces slot).device =
              key_device config.lists (slot_interface net.interfaces slot).device (slot_name net.interfaces configs slot) k (sym (key_read net.interfaces configs slot within) ∙ e) in
              subst (λ n. n < length net.devices) (sym device) (device_in_range net is (slot / 2) (omega arith))
          | inr past ↦ absurd (some_is_none k (sym (no_key_past net.interfaces configs slot past) ∙ e))
        ]

-- a key of a device's list is that of a list that is there
key_there : (configs : List Config) (device : ℕ) (name : Option (List ℕ)) (k : ℕ × List ℕ) → option_and_then (named_key (config_at configs device).lists device) name ≡ Some k → IsSome (list_there configs k)
key_there configs device None k e = cc
key_there configs device (Some name) k e = by (lookup (bytes_eq name) (config_at configs device).lists) refl e
  where
    by : (found : Option (List Entry)) → lookup (bytes_eq name) (config_at configs device).lists ≡ found → option_map (λ list. (device, name)) (option_and_then some_entries found) ≡ Some k → IsSome (list_there configs k)
    by None f e = cc
    by (Some []) f e = cc
    by (Some (x ∷ xs)) f e = let same : (device, name) ≡ k = cc in subst (λ j. IsSome (list_there configs j)) same (rw f (search rules))

-- so the lists of the slots' keys are there
pub slots_there : (interfaces : List Interface) (configs : List Config) → AreThere configs (slot_keys interfaces configs)
slots_there interfaces configs slot k e =
    elim (cases_lt slot (2 * length interfaces)) [
      | inl within ↦ key_there configs (slot_interface interfaces slot).device (slot_name interfaces configs slot) k (sym (key_read interfaces configs slot within) ∙ e)
      | inr past ↦ absurd (some_is_none k (sym (no_key_past interfaces configs slot past) ∙ e))
    ]

pub keys_there : (configs : List Config) (keys : List (Option (ℕ × List ℕ))) → AreThere configs keys → AllByRecursion (λ key. IsSome (list_there configs key)) (names_of_keys keys)
keys_there configs keys there = names_hold (λ key. IsSome (list_there configs key)) keys there

module _ {E : Type 0} (interfaces : List Interface) (configs : List Config) where
  pub lets_by_result : (result : Result AppliedLists E) → IfOk result (λ a. a ≡ applied_of interfaces configs) → IfOk result (λ a. (slot : ℕ) → slot < 2 * length interfaces → (h : Header) → applied_lets a slot h ≡ slot_lets interfaces configs slot h)
  lets_by_result (Ok a) e = λ slot within h. ap (λ q. applied_lets q slot h) e ∙ applied_is interfaces configs slot within h
  lets_by_result (Err x) e = e

  pub slots_by_result : (result : Result AppliedLists E) → IfOk result (λ a. a ≡ applied_of interfaces configs) → IfOk result (λ a. length a.at ≡ 2 * length interfaces)
  slots_by_result (Ok a) e =
      let keys = slot_keys interfaces configs in
      ap (λ (q : AppliedLists). length q.at) e
      ∙ length-map keys (place_in (names_of_keys keys))
      ∙ length-map (range_with_len 0 (2 * length interfaces)) (slot_key interfaces configs)
      ∙ length-range_with_len 0 (2 * length interfaces)
  slots_by_result (Err x) e = e

  pub once_by_result : (result : Result AppliedLists E) → IfOk result (λ a. a ≡ applied_of interfaces configs) → IfOk result (λ a. AreDistinct same_place a.names)
  once_by_result (Ok a) e = subst (λ (q : AppliedLists). AreDistinct same_place q.names) (sym e) (names_distinct (slot_keys interfaces configs))
  once_by_result (Err x) e = e

pub devices_by_result : {E : Type 0} (net : Plan) (configs : List Config) → IsNetwork net → (result : Result AppliedLists E) → IfOk result (λ a. a ≡ applied_of net.interfaces configs) → IfOk result (λ a. AllByRecursion (λ name. name.0 < length net.devices) a.names)
devices_by_result net configs is (Ok a) e = subst (λ (q : AppliedLists). AllByRecursion (λ name. name.0 < length net.devices) q.names) (sym e) (devices_within net configs is)
devices_by_result net configs is (Err x) e = e

-- Keys of slots, each once, and their places.
use Rattle.std.proofs.Common.{◌≡◌, ℕ, zero, suc, ◌<◌, Bool, true, false, List, [], ◌∷◌, ◌++◌, length, get_or, take, fold, Option, Some, None, refl, sym, ◌∙◌, ap, subst, eq-eqb, arith, rules, append_assoc}
use Rattle.std.specs.Prelude.{◌&&◌, ◌||◌, ◌==◌, IfSome, option_and_then, option_map, position}
use Rattle.std.specs.List.{AllByRecursion, list_any, position_or_len}
use Rattle.std.specs.Map.{lookup}
use Rattle.std.specs.Str.{bytes_eq}
use Rattle.std.proofs.lemmas.Bool.{eqb-true, lt-ltb}
use Rattle.std.proofs.lemmas.Cmp.{nat_list_eq_equiv}
use Rattle.std.proofs.lemmas.List.Folds.{list_any-append}
use Rattle.std.proofs.lemmas.List.Quantifiers.{position-Some}
use Rattle.std.proofs.lemmas.Slice.Eq.{bytes_eq-Decides}
use Rattle.np_acl.specs.declared.kinds.Way.{Way}
use Rattle.np_acl.specs.declared.kinds.Way.TheVariants.{Inward, Outward}
use Rattle.np_acl.specs.declared.entries.Entry.{Entry}
use Rattle.np_acl_read.specs.Groups.{no_groups}
use Rattle.np_net.specs.Distinct.{AreDistinct, AreNewAfter, same_place}
use Rattle.np_cut.specs.Applying.{key_in, list_with_entries, named_key, names_of_keys, place_in, with_key, with_slot_key}

pub both_true : (a b : Bool) → (a && b) ≡ true → (a ≡ true) × (b ≡ true)
both_true true b e = (refl, e)
both_true false b e = cc

or_true : (a b : Bool) → b ≡ true → (a || b) ≡ true
or_true true b e = refl
or_true false b e = e

true_or : (a b : Bool) → a ≡ true → (a || b) ≡ true
true_or true b e = refl
true_or false b e = cc

abbrev Key : Type 0
Key = ℕ × List ℕ

pub place_equal : (x y : Key) → same_place x y ≡ true → x ≡ y
place_equal x y e =
    let both = both_true (x.0 == y.0) (bytes_eq x.1 y.1) e in
    λ i. (eqb-true x.0 y.0 both.0 i, (bytes_eq-Decides x.1 y.1).0 both.1 i)

place_same : (x : Key) → same_place x x ≡ true
place_same x = rw (eq-eqb x.0 x.0 refl, nat_list_eq_equiv.refl x.1) refl

-- a key that is there stays there
key_stays : (k : Key) (keys : List Key) (x : Option Key) → list_any (same_place k) keys ≡ true → list_any (same_place k) (with_slot_key keys x) ≡ true
key_stays k keys None there = there
key_stays k keys (Some x) there = by (list_any (same_place x) keys) refl
  where
    by : (b : Bool) → list_any (same_place x) keys ≡ b → list_any (same_place k) (with_key keys x) ≡ true
    by true e = rw e there
    by false e = rw e (list_any-append (same_place k) keys (x ∷ []) ∙ true_or (list_any (same_place k) keys) (list_any (same_place k) (x ∷ [])) there)

-- and one that is added is there
key_added : (k : Key) (keys : List Key) → list_any (same_place k) (with_key keys k) ≡ true
key_added k keys = by (list_any (same_place k) keys) refl
  where
    by : (b : Bool) → list_any (same_place k) keys ≡ b → list_any (same_place k) (with_key keys k) ≡ true
    by true e = rw e e
    by false e = rw e (list_any-append (same_place k) keys (k ∷ []) ∙ or_true (list_any (same_place k) keys) (list_any (same_place k) (k ∷ [])) (rw (place_same k) refl))

keys_stay : (k : Key) (keys : List Key) (xs : List (Option Key)) → list_any (same_place k) keys ≡ true → list_any (same_place k) (fold with_slot_key keys xs) ≡ true
keys_stay k keys [] there = there
keys_stay k keys (x ∷ xs) there = keys_stay k (with_slot_key keys x) xs (key_stays k keys x there)

-- the key of each slot is among them
key_among : (k : Key) (keys : List Key) (xs : List (Option Key)) (slot : ℕ) → get_or xs slot None ≡ Some k → list_any (same_place k) (fold with_slot_key keys xs) ≡ true
key_among k keys [] slot e = cc
key_among k keys (x ∷ xs) zero e = keys_stay k (with_slot_key keys x) xs (rw e (key_added k keys))
key_among k keys (x ∷ xs) (suc slot) e = key_among k (with_slot_key keys x) xs slot e

-- the first place that passes is a place, where some item passes
first_within : {X : Type 0} (p : X → Bool) (xs : List X) → list_any p xs ≡ true → position_or_len p xs < length xs
first_within p [] some = cc
first_within p (x ∷ xs) some = by (p x) refl (first_within p xs) some
  where
    by : (b : Bool) → p x ≡ b → (list_any p xs ≡ true → position_or_len p xs < length xs) → list_any p (x ∷ xs) ≡ true → position_or_len p (x ∷ xs) < length (x ∷ xs)
    by true e rest s = rw e (omega arith)
    by false e rest s =
        let within : position_or_len p xs < length xs = rest (rw e at s) in
        rw e (omega arith)

-- a slot's key has a place, and stands there
pub record StandsAt (keys : List Key) (k : Key) (place : ℕ) : Type 0 where
  pub within : place < length keys
  pub is : place_in keys (Some k) ≡ Some place
  pub key : (d : Key) → get_or keys place d ≡ k

pub key_stands : (k : Key) (xs : List (Option Key)) (slot : ℕ) → get_or xs slot None ≡ Some k → StandsAt (names_of_keys xs) k (position_or_len (same_place k) (names_of_keys xs))
key_stands k xs slot e =
    let names = names_of_keys xs in
    let within : position_or_len (same_place k) names < length names = first_within (same_place k) names (key_among k [] xs slot e) in
    let is : position (same_place k) names ≡ Some (position_or_len (same_place k) names) = rw (lt-ltb (position_or_len (same_place k) names) (length names) within) refl in
    record {
      within = within;
      is = is;
      key = λ d. sym (place_equal k (get_or names (position_or_len (same_place k) names) d) (position-Some (same_place k) names (position_or_len (same_place k) names) d is).1);
    }

-- a place is one of the keys'
pub place_within : (keys : List Key) (k : Option Key) → IfSome (place_in keys k) (λ n. n < length keys)
place_within keys None = search rules
place_within keys (Some k) = by (position (same_place k) keys) refl
  where
    by : (o : Option ℕ) → position (same_place k) keys ≡ o → IfSome o (λ n. n < length keys)
    by None e = search rules
    by (Some n) e = (position-Some (same_place k) keys n (0, []) e).0

-- ---- keys without repeats

no_more : {X : Type 0} (xs : List X) → xs ++ [] ≡ xs
no_more [] = refl
no_more (x ∷ xs) = ap (λ l. x ∷ l) (no_more xs)

-- items without repeats with one more, to which none of them is equal
distinct_more : {X : Type 0} (eq : X → X → Bool) (seen xs : List X) (x : X) → AreNewAfter eq seen xs → list_any (eq x) (seen ++ xs) ≡ false → AreNewAfter eq seen (xs ++ x ∷ [])
distinct_more eq seen [] x new none = (ap (λ l. list_any (eq x) l) (sym (no_more seen)) ∙ none, tt)
distinct_more eq seen (y ∷ xs) x new none =
    (new.0, distinct_more eq (seen ++ y ∷ []) xs x new.1 (ap (λ l. list_any (eq x) l) (append_assoc seen (y ∷ []) xs) ∙ none))

-- the keys of slots, each once, are without repeats
keys_distinct : (keys : List Key) (xs : List (Option Key)) → AreDistinct same_place keys → AreDistinct same_place (fold with_slot_key keys xs)
keys_distinct keys [] new = new
keys_distinct keys (None ∷ xs) new = keys_distinct keys xs new
keys_distinct keys (Some x ∷ xs) new = keys_distinct (with_key keys x) xs (by (list_any (same_place x) keys) refl)
  where
    by : (b : Bool) → list_any (same_place x) keys ≡ b → AreDistinct same_place (with_key keys x)
    by true e = rw e new
    by false e = rw e (distinct_more same_place [] keys x new e)

pub names_distinct : (xs : List (Option Key)) → AreDistinct same_place (names_of_keys xs)
names_distinct xs = keys_distinct [] xs tt

-- an item of a list without repeats is equal to none before it
new_at : {X : Type 0} (eq : X → X → Bool) (seen xs : List X) (n : ℕ) (d : X) → AreNewAfter eq seen xs → n < length xs → list_any (eq (get_or xs n d)) (seen ++ take n xs) ≡ false
new_at eq seen [] n d new within = absurd (omega arith)
new_at eq seen (x ∷ xs) zero d new within = ap (λ l. list_any (eq x) l) (no_more seen) ∙ new.0
new_at eq seen (x ∷ xs) (suc n) d new within =
    ap (λ l. list_any (eq (get_or xs n d)) l) (sym (append_assoc seen (x ∷ []) (take n xs)))
    ∙ new_at eq (seen ++ x ∷ []) xs n d new.1 (omega arith)

pub key_is_new : (keys : List Key) (n : ℕ) (d : Key) → AreDistinct same_place keys → n < length keys → list_any (same_place (get_or keys n d)) (take n keys) ≡ false
key_is_new keys n d new within = new_at same_place [] keys n d new within

-- what holds of the key of each slot holds of all keys
keys_hold : (P : Key → Type 0) (keys : List Key) (xs : List (Option Key)) → AllByRecursion P keys → ((slot : ℕ) (k : Key) → get_or xs slot None ≡ Some k → P k) → AllByRecursion P (fold with_slot_key keys xs)
keys_hold P keys [] all each = all
keys_hold P keys (None ∷ xs) all each = keys_hold P keys xs all (λ slot k e. each (suc slot) k e)
keys_hold P keys (Some x ∷ xs) all each = keys_hold P (with_key keys x) xs (by (list_any (same_place x) keys) refl) (λ slot k e. each (suc slot) k e)
  where
    more : (ks : List Key) → AllByRecursion P ks → P x → AllByRecursion P (ks ++ x ∷ [])
    more [] all px = (px, tt)
    more (k ∷ ks) all px = (all.0, more ks all.1 px)

    by : (b : Bool) → list_any (same_place x) keys ≡ b → AllByRecursion P (with_key keys x)
    by true e = rw e all
    by false e = rw e (more keys all (each zero x refl))

pub names_hold : (P : Key → Type 0) (xs : List (Option Key)) → ((slot : ℕ) (k : Key) → get_or xs slot None ≡ Some k → P k) → AllByRecursion P (names_of_keys xs)
names_hold P xs each = keys_hold P [] xs tt each

-- ---- devices

-- a device without a configuration applies nothing
pub no_key : (device : ℕ) (interface : List ℕ) (way : Way) → key_in (record { lists = []; groups = no_groups }) device interface way ≡ None
no_key device interface Inward = refl
no_key device interface Outward = refl

-- a key is of the device that it is asked of
pub key_device : (lists : List (List ℕ × List Entry)) (device : ℕ) (name : Option (List ℕ)) (k : Key) → option_and_then (named_key lists device) name ≡ Some k → k.0 ≡ device
key_device lists device None k e = cc
key_device lists device (Some name) k e = by (list_with_entries lists name) e
  where
    by : (list : Option (List Entry)) → option_map (λ l. (device, name)) list ≡ Some k → k.0 ≡ device
    by None e = cc
    by (Some l) e = cc

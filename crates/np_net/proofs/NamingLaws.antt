-- Names without repeats: the name of a number is found, and its number is that one.
use Rattle.std.proofs.Common.{◌≡◌, ℕ, zero, suc, ◌<◌, Bool, true, false, List, [], ◌∷◌, ◌++◌, length, get_or, Some, sym, refl, ◌∙◌, arith, eq-eqb}
use Rattle.std.specs.List.{list_any, position, position_or_len}
use Rattle.std.specs.Str.{bytes_eq}
use Rattle.std.proofs.lemmas.Bool.{or_parts, lt-ltb}
use Rattle.std.proofs.lemmas.Cmp.{nat_list_eq_equiv}
use Rattle.std.proofs.lemmas.List.Folds.{list_any-append}
use Rattle.std.proofs.lemmas.List.Sums.{position_or_len_is}
use Rattle.std.proofs.Math.ListN.{get_or-map}
use Rattle.std.proofs.lemmas.List.{length-map}
use Rattle.np_net.specs.declared.associations.Sa.{Sa}
use Rattle.np_net.specs.declared.filtering.Area.{Area}
use Rattle.np_net.specs.declared.filtering.Device.{Device}
use Rattle.np_net.specs.declared.filtering.Interface.{Interface}
use Rattle.np_net.specs.Distinct.{AreNewAfter, AreDistinct, same_place}
use Rattle.np_net.specs.Naming.{NamesAreFound, interface_id_named}
use Rattle.np_net.specs.Network.{IsNetwork}
use Rattle.np_net.specs.Path.{interface_at, device_of}
use Rattle.np_net.specs.Plan.{Plan, area_names, device_names, interface_names, sa_names}

module _ {X : Type 0} (eq : X → X → Bool) (d : X) where
  -- an item is equal to none that was seen before the list
  not_seen : (seen xs : List X) (n : ℕ) → AreNewAfter eq seen xs → n < length xs → list_any (eq (get_or xs n d)) seen ≡ false
  not_seen seen [] n h lt = absurd (omega arith)
  not_seen seen (x ∷ xs) zero h lt = h.0
  not_seen seen (x ∷ xs) (suc n) h lt =
      let y = get_or xs n d in
      (or_parts (list_any (eq y) seen) (list_any (eq y) (x ∷ [])) (sym (list_any-append (eq y) seen (x ∷ [])) ∙ not_seen (seen ++ x ∷ []) xs n h.1 (omega arith))).0

  -- nor to the last of them
  last_not : (seen xs : List X) (x : X) (n : ℕ) → AreNewAfter eq (seen ++ x ∷ []) xs → n < length xs → eq (get_or xs n d) x ≡ false
  last_not seen xs x n h lt =
      let y = get_or xs n d in
      let both = or_parts (list_any (eq y) seen) (list_any (eq y) (x ∷ [])) (sym (list_any-append (eq y) seen (x ∷ [])) ∙ not_seen (seen ++ x ∷ []) xs n h lt) in
      (or_parts (eq y x) false both.1).0

  -- and to none before it
  not_before : (seen xs : List X) (n k : ℕ) → AreNewAfter eq seen xs → k < n → n < length xs → eq (get_or xs n d) (get_or xs k d) ≡ false
  not_before seen [] n k h below lt = absurd (omega arith)
  not_before seen (x ∷ xs) zero k h below lt = absurd (omega arith)
  not_before seen (x ∷ xs) (suc n) zero h below lt = last_not seen xs x n h.1 (omega arith)
  not_before seen (x ∷ xs) (suc n) (suc k) h below lt = not_before (seen ++ x ∷ []) xs n k h.1 (omega arith) (omega arith)

  -- each item is found at its place
  pub found_at : ((x : X) → eq x x ≡ true) → (xs : List X) (n : ℕ) → AreDistinct eq xs → n < length xs → position (eq (get_or xs n d)) xs ≡ Some n
  found_at same xs n h lt =
      let at : position_or_len (eq (get_or xs n d)) xs ≡ n = position_or_len_is (eq (get_or xs n d)) xs n d (omega arith) (λ k below. not_before [] xs n k h below lt) (λ _. same (get_or xs n d)) in
      rw (at, lt-ltb n (length xs) lt) refl

-- a name is itself
bytes_same : (xs : List ℕ) → bytes_eq xs xs ≡ true
bytes_same xs = nat_list_eq_equiv.refl xs

-- an interface is itself
place_same : (x : ℕ × List ℕ) → same_place x x ≡ true
place_same x = rw (eq-eqb x.0 x.0 refl, bytes_same x.1) refl

-- a name is found at its place
pub name_found : (names : List (List ℕ)) (n : ℕ) → AreDistinct bytes_eq names → n < length names → position (bytes_eq (get_or names n [])) names ≡ Some n
name_found names n h lt = found_at bytes_eq [] bytes_same names n h lt

-- and an interface at its own
pub place_found : (places : List (ℕ × List ℕ)) (n : ℕ) (d : ℕ × List ℕ) → AreDistinct same_place places → n < length places → position (same_place (get_or places n d)) places ≡ Some n
place_found places n d h lt = found_at same_place d place_same places n h lt

-- an interface by its device and its name
abbrev place_of : Interface → ℕ × List ℕ
place_of interface = (interface.device, interface.name)

-- an interface of a list is found
interface_found : (interfaces : List Interface) (n : ℕ) → AreDistinct same_place (interface_names interfaces) → n < length interfaces → interface_id_named (interface_names interfaces) (device_of interfaces n) (interface_at interfaces n).name ≡ Some n
interface_found interfaces n distinct lt =
    rw (get_or-map place_of interfaces n (record { name = []; device = 0; area = 0 })) at
    (place_found (interface_names interfaces) n (0, []) distinct (omega (arith, length-map {B = ℕ × List ℕ} interfaces place_of)))

-- the names of a network are found
pub names_found : (net : Plan) → IsNetwork net → NamesAreFound net
names_found net is = record {
  areas = λ n lt. name_found (area_names net.areas) n is.names.areas (omega (arith, length-map net.areas (λ (area : Area). area.name)));
  devices = λ n lt. name_found (device_names net.devices) n is.names.devices (omega (arith, length-map net.devices (λ (device : Device). device.name)));
  interfaces = λ n lt. interface_found net.interfaces n is.names.interfaces lt;
  sas = λ n lt. name_found (sa_names net.sas) n is.names.sas (omega (arith, length-map net.sas (λ (sa : Sa). sa.name)));
}

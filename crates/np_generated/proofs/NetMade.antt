-- The network that is meant is one: what holds of every network holds of it.
use Rattle.std.proofs.Common.{◌≡◌, ℕ, zero, suc, ◌+◌, ◌*◌, ◌%◌, ◌<◌, ◌≤◌, Bool, true, false, not, ◌&&◌, List, [], ◌∷◌, ◌++◌, length, map, codes, refl, sym, ap, subst, ◌∙◌, arith}
use Rattle.std.specs.Fmt.{digits}
use Rattle.std.specs.List.{AllByRecursion, flat_map, list_any, range_with_len, sum}
use Rattle.std.specs.Str.{bytes_eq}
use Rattle.std.proofs.lemmas.Bool.{and_parts}
use Rattle.std.proofs.lemmas.List.{map-append}
use Rattle.np_space.specs.Span.{span_from}
use Rattle.np_space.proofs.MadeLemmas.{is_prefix-prefix_pattern}
use Rattle.np_pred.specs.Forms.{IsWellFormed, has_octets, has_prefixes, nesting, nesting_step, octets_step, prefixes_step}
use Rattle.np_pred.specs.declared.predicate.Pred.TheVariants as pred
use Rattle.np_pred.proofs.Induction.{fold-And, fold-DstPort, fold-Proto}
use Rattle.np_net.specs.Distinct.{AreDistinct, AreNewAfter, same_place}
use Rattle.np_net.specs.Limits.{nesting_limit}
use Rattle.np_net.specs.Names.{is_file_name, is_interface_name, is_name}
use Rattle.np_net.specs.Network.{AreTables, IsArea, IsDevice, IsGoal, IsInterface, IsNetwork, IsTable, IsWithinLimits, rule_count}
use Rattle.np_net.specs.Plan.{area_names, device_names, interface_names}
use Rattle.np_net.specs.declared.filtering.Interface.{Interface}
use Rattle.np_net_read.specs.Tables.{no_rules}
use Rattle.np_generate.specs.declared.drawn.DrawnGoal.{DrawnGoal}
use Rattle.np_generate.specs.Drawn.{DrawnNet, near_area}
use Rattle.np_generate.specs.NetLines.{area_name, device_name, interface_name}
use Rattle.np_generated.specs.Configs.{area_address}
use Rattle.np_generated.specs.Network.{HasGeneratedSizes, area_meant, chords_of, device_meant, goal_meant, goals_from, interface_meant, interfaces_meant, network_meant, pred_meant, ring_of}
use Rattle.np_generated.proofs.DrawnLaws.{AllFrom, IsDrawnGoal, IsDrawnNet, same_below}

-- ---- unique names

-- each of the items is equal to none of those seen, and to none before it
are_new_after : {X : Type 0} → (X → X → Bool) → List X → List X → Bool
are_new_after eq seen [] = true
are_new_after eq seen (x ∷ xs) = not (list_any (eq x) seen) && are_new_after eq (seen ++ x ∷ []) xs

new_after : {X : Type 0} (eq : X → X → Bool) (seen xs : List X) → are_new_after eq seen xs ≡ true → AreNewAfter eq seen xs
unfolding are_new_after
new_after eq seen [] are = tt
new_after eq seen (x ∷ xs) are =
    let parts = and_parts (not (list_any (eq x) seen)) (are_new_after eq (seen ++ x ∷ []) xs) are in
    (by (list_any (eq x) seen) parts.0, new_after eq (seen ++ x ∷ []) xs parts.1)
  where
    by : (b : Bool) → not b ≡ true → b ≡ false
    by true is = sym is
    by false is = refl

areas_unique : AreDistinct bytes_eq (area_names (map area_meant (range_with_len 0 16)))
unfolding are_new_after digits
areas_unique = new_after bytes_eq [] (area_names (map area_meant (range_with_len 0 16))) refl

devices_unique : AreDistinct bytes_eq (device_names (map device_meant (range_with_len 0 24)))
unfolding are_new_after digits
devices_unique = new_after bytes_eq [] (device_names (map device_meant (range_with_len 0 24))) refl

-- the places of so many devices across the ring, without their areas
abbrev chord_places : ℕ → ℕ → List (ℕ × List ℕ)
chord_places k zero = []
chord_places k (suc count) = (k, interface_name 0) ∷ (k, interface_name 1) ∷ chord_places (k + 1) count

chords_placed : (k : ℕ) (far_areas : List ℕ) → interface_names (chords_of k far_areas) ≡ chord_places k (length far_areas)
chords_placed k [] = refl
chords_placed k (far ∷ far_areas) = ap (λ places. (k, interface_name 0) ∷ (k, interface_name 1) ∷ places) (chords_placed (k + 1) far_areas)

abbrev all_places : List (ℕ × List ℕ)
all_places = interface_names (flat_map ring_of (range_with_len 0 16)) ++ chord_places 16 8

interfaces_placed : (net : DrawnNet) → IsDrawnNet net → interface_names (interfaces_meant net) ≡ all_places
interfaces_placed net is =
    map-append (λ (interface : Interface). (interface.device, interface.name)) (flat_map ring_of (range_with_len 0 16)) (chords_of 16 net.far_areas)
    ∙ ap (λ places. interface_names (flat_map ring_of (range_with_len 0 16)) ++ places) (chords_placed 16 net.far_areas ∙ ap (chord_places 16) is.far_many)

places_unique : AreDistinct same_place all_places
unfolding are_new_after digits
places_unique = new_after same_place [] all_places refl

-- ---- areas and devices

-- what holds of each number of a range holds of what is made of it
each_made : {X : Type 0} (P : X → Type 0) (made : ℕ → X) (k count : ℕ) → ((n : ℕ) → n < k + count → P (made n)) → AllByRecursion P (map made (range_with_len k count))
each_made P made k zero each = tt
each_made P made k (suc count) each = (each k (omega arith), each_made P made (k + 1) count (λ n below. each n (omega arith)))

area_formed : (k : ℕ) → k < 16 → IsArea (area_meant k)
unfolding digits
area_formed k below = record {
  name = same_below (λ k. is_name (area_name k)) (λ k. true) 16 k true refl below;
  sources = rw (is_prefix-prefix_pattern (area_address k) 16) refl;
}

device_formed : (k : ℕ) → k < 24 → IsDevice (device_meant k)
unfolding digits
device_formed k below = record {
  name = same_below (λ k. is_name (device_name k)) (λ k. true) 24 k true refl below;
  config = same_below (λ k. is_file_name (device_name k ++ codes ".cfg")) (λ k. true) 24 k true refl below;
}

-- ---- interfaces

interface_formed : (k n area : ℕ) → k < 24 → n < 2 → area < 16 → IsInterface 24 16 (interface_meant k n area)
unfolding digits
interface_formed k n area device number within = record {
  name = same_below (λ n. is_interface_name (interface_name n)) (λ n. true) 2 n true refl number;
  device = device;
  area = within;
}

ring_formed : (k count : ℕ) → k + count ≤ 16 → AllByRecursion (IsInterface 24 16) (flat_map ring_of (range_with_len k count))
ring_formed k zero within = tt
ring_formed k (suc count) within =
    (interface_formed k 0 k (omega arith) (omega arith) (omega arith), (interface_formed k 1 ((k + 1) % 16) (omega arith) (omega arith) (omega arith), ring_formed (k + 1) count (omega arith)))

chords_formed : (k : ℕ) (far_areas : List ℕ) → 16 ≤ k → k + length far_areas ≤ 24 → AllByRecursion (λ far. far < 16) far_areas → AllByRecursion (IsInterface 24 16) (chords_of k far_areas)
chords_formed k [] from within each = tt
chords_formed k (far ∷ far_areas) from within each =
    (interface_formed k 0 (near_area k) (omega arith) (omega arith) (omega arith), (interface_formed k 1 far (omega arith) (omega arith) each.0, chords_formed (k + 1) far_areas (omega arith) (omega arith) each.1))

both : {X : Type 0} (P : X → Type 0) (xs ys : List X) → AllByRecursion P xs → AllByRecursion P ys → AllByRecursion P (xs ++ ys)
both P [] ys first second = second
both P (x ∷ xs) ys first second = (first.0, both P xs ys first.1 second)

interfaces_formed : (net : DrawnNet) → IsDrawnNet net → AllByRecursion (IsInterface 24 16) (interfaces_meant net)
interfaces_formed net is =
    both (IsInterface 24 16) (flat_map ring_of (range_with_len 0 16)) (chords_of 16 net.far_areas) (ring_formed 0 16 (omega arith)) (chords_formed 16 net.far_areas (omega arith) (omega (arith, is.far_many)) is.far_areas)

chords_counted : (k : ℕ) (far_areas : List ℕ) → length (chords_of k far_areas) ≡ 2 * length far_areas
chords_counted k [] = refl
chords_counted k (far ∷ far_areas) = let rest = chords_counted (k + 1) far_areas in omega arith

-- there are 48
interfaces_counted : (net : DrawnNet) → IsDrawnNet net → length (interfaces_meant net) ≡ 48
interfaces_counted net is = omega (arith, chords_counted 16 net.far_areas, is.far_many)

-- ---- goals

pred_formed : (port : ℕ) → IsWellFormed nesting_limit (pred_meant port)
pred_formed port = record { prefixes = prefixes; octets = octets; nested = omega (arith, nested) } where
  prefixes : has_prefixes (pred_meant port) ≡ true
  prefixes =
      fold-And Bool prefixes_step (pred.Proto 6) (pred.DstPort (span_from port port))
      ∙ rw (fold-Proto Bool prefixes_step 6, fold-DstPort Bool prefixes_step (span_from port port)) refl

  octets : has_octets (pred_meant port) ≡ true
  octets =
      fold-And Bool octets_step (pred.Proto 6) (pred.DstPort (span_from port port))
      ∙ rw (fold-Proto Bool octets_step 6, fold-DstPort Bool octets_step (span_from port port)) refl

  nested : nesting (pred_meant port) ≡ 2
  nested =
      fold-And ℕ nesting_step (pred.Proto 6) (pred.DstPort (span_from port port))
      ∙ rw (fold-Proto ℕ nesting_step 6, fold-DstPort ℕ nesting_step (span_from port port)) refl

goal_formed : (k : ℕ) (goal : DrawnGoal) → IsDrawnGoal k goal → IsGoal 16 (goal_meant k goal)
goal_formed k goal is = record { from = is.from; to = is.to; apart = is.apart; pred = pred_formed goal.port }

goals_formed : (k : ℕ) (goals : List DrawnGoal) → AllFrom IsDrawnGoal k goals → AllByRecursion (IsGoal 16) (goals_from k goals)
goals_formed k [] each = tt
goals_formed k (goal ∷ goals) each = (goal_formed k goal each.0, goals_formed (k + 1) goals each.1)

goals_counted : (k : ℕ) (goals : List DrawnGoal) → length (goals_from k goals) ≡ length goals
goals_counted k [] = refl
goals_counted k (goal ∷ goals) = ap suc (goals_counted (k + 1) goals)

-- ---- tables

no_table : (device : ℕ) → IsTable [] device no_rules
no_table device = record { pops = tt; once = tt; ins = tt; outs = tt }

tables_formed : (interfaces : List Interface) → AreTables [] interfaces (map (λ interface. no_rules) interfaces)
tables_formed [] = tt
tables_formed (interface ∷ interfaces) = (no_table interface.device, tables_formed interfaces)

none_counted : (interfaces : List Interface) → sum (map rule_count (map (λ interface. no_rules) interfaces)) ≡ 0
none_counted [] = refl
none_counted (interface ∷ interfaces) = none_counted interfaces

free_counted : (interfaces : List Interface) → length (flat_map (λ interface. false ∷ false ∷ []) interfaces) ≡ 2 * length interfaces
free_counted [] = refl
free_counted (interface ∷ interfaces) = let rest = free_counted interfaces in omega arith

-- ---- the whole

within_limits : (net : DrawnNet) → IsDrawnNet net → IsWithinLimits (network_meant net)
within_limits net is = record {
  areas = omega arith;
  devices = omega arith;
  interfaces = omega (arith, interfaces_counted net is);
  goals = omega (arith, goals_counted 0 net.goals, is.goals_many);
  sas = omega arith;
  rules = omega (arith, none_counted (interfaces_meant net));
  ipgoals = omega arith;
}

pub network_made : (net : DrawnNet) → IsDrawnNet net → IsNetwork (network_meant net)
network_made net is = record {
  limits = within_limits net is;
  names = record {
    areas = areas_unique;
    devices = devices_unique;
    interfaces = subst (AreDistinct same_place) (sym (interfaces_placed net is)) places_unique;
    sas = tt;
  };
  areas = each_made IsArea area_meant 0 16 (λ n below. area_formed n below);
  devices = each_made IsDevice device_meant 0 24 (λ n below. device_formed n below);
  interfaces = interfaces_formed net is;
  free = free_counted (interfaces_meant net);
  goals = goals_formed 0 net.goals is.goals;
  sas = tt;
  tables = tables_formed (interfaces_meant net);
  ipgoals = tt;
  shallow = omega arith;
  deep = omega arith;
}

pub sizes_generated : (net : DrawnNet) → IsDrawnNet net → HasGeneratedSizes (network_meant net)
sizes_generated net is = record {
  areas = refl;
  devices = refl;
  interfaces = interfaces_counted net is;
  goals = goals_counted 0 net.goals ∙ is.goals_many;
}

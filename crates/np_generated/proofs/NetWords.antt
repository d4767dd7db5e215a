-- The lines of a generated network's text are the canonical lines of the network that is meant.
use Rattle.std.proofs.Common.{◌≡◌, ℕ, zero, suc, ◌+◌, ◌-◌, ◌%◌, ◌<◌, ◌≤◌, false, List, [], ◌∷◌, ◌++◌, length, map, codes, refl, ap, subst, ◌∙◌, append-nil, append_assoc, arith}
use Rattle.std.specs.Fmt.{decimal, digits}
use Rattle.std.specs.List.{AllByRecursion, flat_map, range_with_len}
use Rattle.std.proofs.lemmas.List.{map-append}
use lib.Count.{ones-ones}
use Rattle.np_text.specs.Addresses.{dotted}
use Rattle.np_space.specs.Patterns.{prefix_pattern, prefix_value}
use Rattle.np_space.specs.Span.{span_from}
use Rattle.np_pred.specs.Bounds.{bounds_text}
use Rattle.np_pred.specs.Canonical.{pred_words, protocol_words, words_step}
use Rattle.np_pred.specs.Patterns.{addresses_text}
use Rattle.np_pred.specs.Ports.{ports_text}
use Rattle.np_pred.specs.declared.predicate.Pred.TheVariants as pred
use Rattle.np_pred.proofs.Induction.{fold-And, fold-DstPort, fold-Proto}
use Rattle.np_net.specs.Naming as naming
use Rattle.np_net.specs.Plan.{Plan}
use Rattle.np_net.specs.declared.filtering.Interface.{Interface}
use Rattle.np_net_text.specs.Canonical as canonical
use Rattle.np_net_read.specs.Tables.{no_rules}
use Rattle.np_generate.specs.declared.drawn.DrawnGoal.{DrawnGoal}
use Rattle.np_generate.specs.Drawn.{DrawnNet, near_area, port_at}
use Rattle.np_generate.specs.NetLines.{area_line, area_name, areas_lines, chord_lines, device_line, device_name, devices_lines, goal_line, goal_lines, interface_line, interface_lines, net_lines, prefix_word, ring_lines, rings_lines}
use Rattle.np_generated.specs.Configs.{area_address}
use Rattle.np_generated.specs.Network.{area_meant, chords_of, device_meant, goal_meant, goals_from, interface_meant, interfaces_meant, interfaces_of, network_meant, pred_meant, ring_of}
use Rattle.np_generated.proofs.DrawnLaws.{AllFrom, IsDrawnGoal, IsDrawnNet, IsDrawnPort, same_below}

-- ---- names

area_named : (net : DrawnNet) (k : ℕ) → k < 16 → naming.area_name (network_meant net) k ≡ area_name k
area_named net k below = same_below (λ k. naming.area_name (network_meant net) k) area_name 16 k [] refl below

device_named : (net : DrawnNet) (k : ℕ) → k < 24 → naming.device_name (network_meant net) k ≡ device_name k
device_named net k below = same_below (λ k. naming.device_name (network_meant net) k) device_name 24 k [] refl below

-- ---- areas and devices

-- a prefix of 16 bits is written with this length
prefix_same : (address : ℕ) → addresses_text (prefix_pattern address 16 ∷ []) ≡ dotted (prefix_value address 16) ++ codes "/16"
unfolding addresses_text prefix_pattern digits
prefix_same address = ap (λ ones. dotted (prefix_value address 16) ++ (47 ∷ decimal (32 - ones))) (ones-ones 16)

address_same : (k : ℕ) → k < 16 → dotted (prefix_value (area_address k) 16) ++ codes "/16" ≡ prefix_word k
unfolding dotted digits
address_same k below = same_below (λ k. dotted (prefix_value (area_address k) 16) ++ codes "/16") prefix_word 16 k [] refl below

area_same : (k : ℕ) → k < 16 → canonical.area_words (area_meant k) ≡ area_line k
unfolding area_line
area_same k below = ap (λ addresses. codes "area" ∷ area_name k ∷ addresses ∷ []) (prefix_same (area_address k) ∙ address_same k below)

some_areas_same : (k count : ℕ) → k + count ≤ 16 → map canonical.area_words (map area_meant (range_with_len k count)) ≡ map area_line (range_with_len k count)
some_areas_same k zero within = refl
some_areas_same k (suc count) within = rw (area_same k (omega arith), some_areas_same (k + 1) count (omega arith)) refl

areas_same : map canonical.area_words (map area_meant (range_with_len 0 16)) ≡ areas_lines
unfolding areas_lines
areas_same = some_areas_same 0 16 (omega arith)

devices_same : map canonical.device_words (map device_meant (range_with_len 0 24)) ≡ devices_lines
unfolding devices_lines device_line
devices_same = refl

-- ---- interfaces

interface_same : (net : DrawnNet) (k n area : ℕ) → k < 24 → area < 16 → canonical.interface_words (network_meant net) (interface_meant k n area) ≡ interface_line k n area
unfolding interface_line
interface_same net k n area device within = rw (device_named net k device, area_named net area within) refl

interfaces_same : (net : DrawnNet) (k one other : ℕ) → k < 24 → one < 16 → other < 16 → map (canonical.interface_words (network_meant net)) (interfaces_of k one other) ≡ interface_lines k one other
interfaces_same net k one other device first second = rw (interface_same net k 0 one device first, interface_same net k 1 other device second) refl

ring_same : (net : DrawnNet) (k count : ℕ) → k + count ≤ 16 → map (canonical.interface_words (network_meant net)) (flat_map ring_of (range_with_len k count)) ≡ flat_map ring_lines (range_with_len k count)
ring_same net k zero within = refl
ring_same net k (suc count) within =
    map-append (canonical.interface_words (network_meant net)) (ring_of k) (flat_map ring_of (range_with_len (k + 1) count))
    ∙ ap (λ lines. lines ++ map (canonical.interface_words (network_meant net)) (flat_map ring_of (range_with_len (k + 1) count))) (interfaces_same net k k ((k + 1) % 16) (omega arith) (omega arith) (omega arith))
    ∙ ap (λ more. ring_lines k ++ more) (ring_same net (k + 1) count (omega arith))

chords_same : (net : DrawnNet) (k : ℕ) (far_areas : List ℕ) → 16 ≤ k → k + length far_areas ≤ 24 → AllByRecursion (λ far. far < 16) far_areas → map (canonical.interface_words (network_meant net)) (chords_of k far_areas) ≡ chord_lines k far_areas
chords_same net k [] from within each = refl
chords_same net k (far ∷ far_areas) from within each =
    map-append (canonical.interface_words (network_meant net)) (interfaces_of k (near_area k) far) (chords_of (k + 1) far_areas)
    ∙ ap (λ lines. lines ++ map (canonical.interface_words (network_meant net)) (chords_of (k + 1) far_areas)) (interfaces_same net k (near_area k) far (omega arith) (omega arith) each.0)
    ∙ ap (λ more. interface_lines k (near_area k) far ++ more) (chords_same net (k + 1) far_areas (omega arith) (omega arith) each.1)

-- no slot is free, and no interface has rules
none_free : (net : Plan) (interfaces : List Interface) → canonical.free_lines net interfaces (flat_map (λ interface. false ∷ false ∷ []) interfaces) ≡ []
none_free net [] = refl
none_free net (interface ∷ interfaces) = none_free net interfaces

no_rule : (net : Plan) (interfaces : List Interface) → canonical.rule_lines net interfaces (map (λ interface. no_rules) interfaces) ≡ []
no_rule net [] = refl
no_rule net (interface ∷ interfaces) = no_rule net interfaces

-- ---- goals

port_word : (port : ℕ) → IsDrawnPort port → ports_text (span_from port port) ≡ decimal port
unfolding bounds_text span_from
port_word port is = subst (λ p. ports_text (span_from p p) ≡ decimal p) is.is (same_below (λ n. ports_text (span_from (port_at n) (port_at n))) (λ n. decimal (port_at n)) 4 is.place [] refl is.few)

pred_same : (port : ℕ) → IsDrawnPort port → pred_words (pred_meant port) ≡ codes "and" ∷ codes "tcp" ∷ codes "dport" ∷ decimal port ∷ []
unfolding protocol_words
pred_same port is =
    fold-And (List (List ℕ)) words_step (pred.Proto 6) (pred.DstPort (span_from port port))
    ∙ rw (fold-Proto (List (List ℕ)) words_step 6, fold-DstPort (List (List ℕ)) words_step (span_from port port), port_word port is) refl

goal_same : (net : DrawnNet) (k : ℕ) (goal : DrawnGoal) → IsDrawnGoal k goal → canonical.goal_words (network_meant net) (goal_meant k goal) ≡ goal_line k goal
unfolding goal_line
goal_same net k goal is = rw (area_named net k is.from, area_named net goal.to is.to, pred_same goal.port is.port) refl

goals_same : (net : DrawnNet) (k : ℕ) (goals : List DrawnGoal) → AllFrom IsDrawnGoal k goals → map (canonical.goal_words (network_meant net)) (goals_from k goals) ≡ goal_lines k goals
goals_same net k [] each = refl
goals_same net k (goal ∷ goals) each = rw (goal_same net k goal each.0, goals_same net (k + 1) goals each.1) refl

-- ---- the whole

whole_same : (d d' : List (List ℕ)) (a a' b b' i r c f g g' s : List (List (List ℕ))) → d ≡ d' → a ≡ a' → b ≡ b' → i ≡ r ++ c → f ≡ [] → g ≡ g' → s ≡ [] →
    (d ∷ (a ++ (b ++ (i ++ (f ++ g))))) ++ ([] ++ (s ++ [])) ≡ d' ∷ (a' ++ (b' ++ (r ++ (c ++ g'))))
whole_same d d' a a' b b' i r c f g g' s is_d is_a is_b is_i is_f is_g is_s = rw (is_d, is_a, is_b, is_i, is_f, is_g, is_s) (append-nil (d' ∷ (a' ++ (b' ++ ((r ++ c) ++ g')))) ∙ ap (λ lines. d' ∷ (a' ++ (b' ++ lines))) (append_assoc r c g'))

depth_same : canonical.depth_words 8 ≡ codes "depth" ∷ codes "8" ∷ []
unfolding digits
depth_same = refl

all_interfaces_same : (net : DrawnNet) → IsDrawnNet net → map (canonical.interface_words (network_meant net)) (interfaces_meant net) ≡ rings_lines ++ chord_lines 16 net.far_areas
unfolding rings_lines
all_interfaces_same net is =
    map-append (canonical.interface_words (network_meant net)) (flat_map ring_of (range_with_len 0 16)) (chords_of 16 net.far_areas)
    ∙ ap (λ lines. lines ++ map (canonical.interface_words (network_meant net)) (chords_of 16 net.far_areas)) (ring_same net 0 16 (omega arith))
    ∙ ap (λ lines. flat_map ring_lines (range_with_len 0 16) ++ lines) (chords_same net 16 net.far_areas (omega arith) (omega (arith, is.far_many)) is.far_areas)

pub lines_same : (net : DrawnNet) → IsDrawnNet net → canonical.net_lines (network_meant net) ≡ net_lines net
unfolding net_lines
lines_same net is =
    whole_same
    (canonical.depth_words 8) (codes "depth" ∷ codes "8" ∷ [])
    (map canonical.area_words (map area_meant (range_with_len 0 16))) areas_lines
    (map canonical.device_words (map device_meant (range_with_len 0 24))) devices_lines
    (map (canonical.interface_words (network_meant net)) (interfaces_meant net)) rings_lines (chord_lines 16 net.far_areas)
    (canonical.free_lines (network_meant net) (interfaces_meant net) (flat_map (λ interface. false ∷ false ∷ []) (interfaces_meant net)))
    (map (canonical.goal_words (network_meant net)) (goals_from 0 net.goals)) (goal_lines 0 net.goals)
    (canonical.rule_lines (network_meant net) (interfaces_meant net) (map (λ interface. no_rules) (interfaces_meant net)))
    depth_same areas_same devices_same (all_interfaces_same net is) (none_free (network_meant net) (interfaces_meant net)) (goals_same net 0 net.goals is.goals) (no_rule (network_meant net) (interfaces_meant net))

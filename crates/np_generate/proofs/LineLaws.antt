-- Texts of lines, and drawings in turn.
use Rattle.std.proofs.Common.{◌≡◌, ℕ, zero, suc, ◌+◌, ◌-◌, ◌<◌, ◌≤◌, false, List, [], ◌∷◌, ◌++◌, map, codes, refl, sym, ap, ◌∙◌, arith}
use Rattle.std.specs.Fmt.{decimal}
use Rattle.std.specs.List.{flat_map, range_with_len}
use Rattle.std.proofs.lemmas.Grind.{flat_map-append}
use Rattle.std.proofs.lemmas.List.{append_assoc, append-nil, map-append}
use Rattle.std.proofs.lemmas.List.FromFn.{map-range_with_len_more}
use Rattle.np_text.proofs.JoinedLaws.{join_with_byte-flat_map}
use Rattle.np_text.specs.Joined.{joined_line, joined_text, text_of_lines}
use Rattle.np_generate.specs.declared.drawn.DrawnEntry.{DrawnEntry}
use Rattle.np_generate.specs.ConfigLines.{action_word, addresses_words, entry_line, entry_lines, port_words, protocol_word}
use Rattle.np_generate.specs.Drawing.{Drawing, in_turn}
use Rattle.np_generate.specs.Drawn.{a_goal, an_entry, far_area, near_area, some_entries, some_far_areas, some_goals}
use Rattle.np_generate.specs.Generated.{config_text}
use Rattle.np_generate.specs.NetLines.{area_line, chord_lines, device_line, goal_line, goal_lines, interface_line, interface_lines, ring_lines}

-- ---- lines

-- the text of lines and more lines
pub text_appended : (lines more : List (List (List ℕ))) → text_of_lines (lines ++ more) ≡ text_of_lines lines ++ text_of_lines more
text_appended lines more =
    ap joined_text (map-append (λ words. (false, words)) lines more)
    ∙ flat_map-append (λ line. joined_line line.0 line.1 ++ 10 ∷ []) (map (λ words. (false, words)) lines) (map (λ words. (false, words)) more)

-- what is appended so far, and one piece more
pub grown : (old mid new before piece after : List ℕ) → mid ≡ old ++ before → new ≡ mid ++ piece → after ≡ before ++ piece → new ≡ old ++ after
grown old mid new before piece after so_far more whole = rw (more, so_far, whole) (append_assoc old before piece)

-- the same by what is left
pub moved : {X : Type 0} (mid new left piece rest whole : List X) → mid ++ left ≡ whole → new ≡ mid ++ piece → left ≡ piece ++ rest → new ++ rest ≡ whole
moved mid new left piece rest whole so_far more next = rw more (append_assoc mid piece rest ∙ ap (λ text. mid ++ text) (sym next) ∙ so_far)

-- one line more for the numbers below k
one_more : (line : ℕ → List (List ℕ)) (k : ℕ) → text_of_lines (map line (range_with_len 0 (k + 1))) ≡ text_of_lines (map line (range_with_len 0 k)) ++ text_of_lines (line k ∷ [])
one_more line k = let below : 0 + k ≡ k = omega arith in ap text_of_lines (map-range_with_len_more line 0 k k below) ∙ text_appended (map line (range_with_len 0 k)) (line k ∷ [])

pub area_next : (k : ℕ) → text_of_lines (map area_line (range_with_len 0 (k + 1))) ≡ text_of_lines (map area_line (range_with_len 0 k)) ++ text_of_lines (area_line k ∷ [])
area_next k = one_more area_line k

pub device_next : (k : ℕ) → text_of_lines (map device_line (range_with_len 0 (k + 1))) ≡ text_of_lines (map device_line (range_with_len 0 k)) ++ text_of_lines (device_line k ∷ [])
device_next k = one_more device_line k

-- the numbers below k, and k
numbers_next : (from k : ℕ) → range_with_len from (k + 1) ≡ range_with_len from k ++ (from + k) ∷ []
numbers_next from zero = let e : from ≡ from + 0 = omega arith in ap (λ n. n ∷ []) e
numbers_next from (suc k) =
    let e : (from + 1) + k ≡ from + suc k = omega arith in
    let one : suc k + 1 ≡ suc (k + 1) = omega arith in
    ap (λ n. range_with_len from n) one ∙ ap (λ more. from ∷ more) (numbers_next (from + 1) k ∙ ap (λ n. range_with_len (from + 1) k ++ n ∷ []) e)

pub ring_next : (k : ℕ) → text_of_lines (flat_map ring_lines (range_with_len 0 (k + 1))) ≡ text_of_lines (flat_map ring_lines (range_with_len 0 k)) ++ text_of_lines (ring_lines k)
ring_next k =
    let zero_more : 0 + k ≡ k = omega arith in
    ap (λ numbers. text_of_lines (flat_map ring_lines numbers)) (numbers_next 0 k ∙ ap (λ n. range_with_len 0 k ++ n ∷ []) zero_more)
    ∙ ap text_of_lines (flat_map-append ring_lines (range_with_len 0 k) (k ∷ []))
    ∙ text_appended (flat_map ring_lines (range_with_len 0 k)) (ring_lines k)

-- the line of an interface, as it is appended
pub interface_text : (k n area : ℕ) → text_of_lines (interface_line k n area ∷ []) ≡ (codes "interface d" ++ decimal k) ++ ((codes " e" ++ decimal n) ++ ((codes " a" ++ decimal area) ++ 10 ∷ []))
unfolding interface_line
interface_text k n area = flat (decimal k) (decimal n) (decimal area) where
  flat : (x y z : List ℕ) → codes "interface d" ++ (((x ++ (codes " e" ++ (y ++ (codes " a" ++ z)))) ++ 10 ∷ []) ++ []) ≡ (codes "interface d" ++ x) ++ ((codes " e" ++ y) ++ ((codes " a" ++ z) ++ 10 ∷ []))
  flat x y z = simp (append_assoc, append-nil)

-- the line of an entry, as it is appended
pub entry_text : (entry : DrawnEntry) →
    joined_text ((false, entry_line entry) ∷ []) ≡
    codes "access-list 100 " ++ (action_word entry.permit ++ (32 ∷ (protocol_word entry.protocol ++ (
    flat_map (λ word. 32 ∷ word) (addresses_words entry.source) ++ (flat_map (λ word. 32 ∷ word) (addresses_words entry.destination) ++ (flat_map (λ word. 32 ∷ word) (port_words entry.port) ++ 10 ∷ []))))))
unfolding entry_line
entry_text entry =
    rw (
      join_with_byte-flat_map 32 (protocol_word entry.protocol) (addresses_words entry.source ++ (addresses_words entry.destination ++ port_words entry.port)),
      flat_map-append (λ word. 32 ∷ word) (addresses_words entry.source) (addresses_words entry.destination ++ port_words entry.port),
      flat_map-append (λ word. 32 ∷ word) (addresses_words entry.destination) (port_words entry.port),
    ) (
    flat
    (action_word entry.permit)
    (protocol_word entry.protocol)
    (flat_map (λ word. 32 ∷ word) (addresses_words entry.source))
    (flat_map (λ word. 32 ∷ word) (addresses_words entry.destination))
    (flat_map (λ word. 32 ∷ word) (port_words entry.port))
    )
  where
    flat : (a p s d q : List ℕ) →
        codes "access-list 100 " ++ (((a ++ (32 ∷ (p ++ (s ++ (d ++ q))))) ++ 10 ∷ []) ++ []) ≡
        codes "access-list 100 " ++ (a ++ (32 ∷ (p ++ (s ++ (d ++ (q ++ 10 ∷ []))))))
    flat a p s d q = simp (append_assoc, append-nil)

-- ---- drawings in turn

-- the next drawing of those that are left
in_turn_next : {X : Type 0} (drawing : ℕ → Drawing X) (k end x : ℕ) → k < end →
    in_turn drawing k (end - k) x ≡ ((drawing k x).0 ∷ (in_turn drawing (k + 1) (end - (k + 1)) (drawing k x).1).0, (in_turn drawing (k + 1) (end - (k + 1)) (drawing k x).1).1)
unfolding in_turn
in_turn_next drawing k end x below = let e : end - k ≡ suc (end - (k + 1)) = omega arith in rw e refl

-- at the end none is left
in_turn_ended : {X : Type 0} (drawing : ℕ → Drawing X) (k end x : ℕ) → end ≤ k → in_turn drawing k (end - k) x ≡ ([], x)
unfolding in_turn
in_turn_ended drawing k end x past = let e : end - k ≡ 0 = omega arith in rw e refl

-- ---- entries

pub entries_begin : (x : ℕ) → in_turn (λ n. an_entry) 0 40 x ≡ some_entries x
unfolding some_entries
entries_begin x = refl

pub entry_next : (k x : ℕ) → k < 40 →
    joined_text (entry_lines (in_turn (λ n. an_entry) k (40 - k) x).0) ≡ joined_text ((false, entry_line (an_entry x).0) ∷ []) ++ joined_text (entry_lines (in_turn (λ n. an_entry) (k + 1) (40 - (k + 1)) (an_entry x).1).0)
entry_next k x below =
    ap (λ drawn. joined_text (entry_lines drawn.0)) (in_turn_next (λ n. an_entry) k 40 x below)
    ∙ flat_map-append (λ line. joined_line line.0 line.1 ++ 10 ∷ []) ((false, entry_line (an_entry x).0) ∷ []) (entry_lines (in_turn (λ n. an_entry) (k + 1) (40 - (k + 1)) (an_entry x).1).0)

pub entry_state : (k x : ℕ) → k < 40 → (in_turn (λ n. an_entry) k (40 - k) x).1 ≡ (in_turn (λ n. an_entry) (k + 1) (40 - (k + 1)) (an_entry x).1).1
entry_state k x below = ap (λ drawn. drawn.1) (in_turn_next (λ n. an_entry) k 40 x below)

pub entries_end : (k x : ℕ) → 40 ≤ k → in_turn (λ n. an_entry) k (40 - k) x ≡ ([], x)
entries_end k x past = in_turn_ended (λ n. an_entry) k 40 x past

-- ---- configurations

pub config_next : (k x : ℕ) → k < 24 →
    map config_text (in_turn (λ n. some_entries) k (24 - k) x).0 ≡ config_text (some_entries x).0 ∷ map config_text (in_turn (λ n. some_entries) (k + 1) (24 - (k + 1)) (some_entries x).1).0
config_next k x below = ap (λ drawn. map config_text drawn.0) (in_turn_next (λ n. some_entries) k 24 x below)

pub configs_end : (k x : ℕ) → 24 ≤ k → in_turn (λ n. some_entries) k (24 - k) x ≡ ([], x)
configs_end k x past = in_turn_ended (λ n. some_entries) k 24 x past

-- ---- devices across the ring

pub chords_begin : (x : ℕ) → in_turn far_area 16 8 x ≡ some_far_areas x
unfolding some_far_areas
chords_begin x = refl

pub chord_next : (k x : ℕ) → k < 24 →
    text_of_lines (chord_lines k (in_turn far_area k (24 - k) x).0) ≡ text_of_lines (interface_lines k (near_area k) (far_area k x).0) ++ text_of_lines (chord_lines (k + 1) (in_turn far_area (k + 1) (24 - (k + 1)) (far_area k x).1).0)
chord_next k x below =
    ap (λ drawn. text_of_lines (chord_lines k drawn.0)) (in_turn_next far_area k 24 x below)
    ∙ text_appended (interface_lines k (near_area k) (far_area k x).0) (chord_lines (k + 1) (in_turn far_area (k + 1) (24 - (k + 1)) (far_area k x).1).0)

pub chord_state : (k x : ℕ) → k < 24 → (in_turn far_area k (24 - k) x).1 ≡ (in_turn far_area (k + 1) (24 - (k + 1)) (far_area k x).1).1
chord_state k x below = ap (λ drawn. drawn.1) (in_turn_next far_area k 24 x below)

pub chords_end : (k x : ℕ) → 24 ≤ k → in_turn far_area k (24 - k) x ≡ ([], x)
chords_end k x past = in_turn_ended far_area k 24 x past

-- ---- goals

pub goals_begin : (x : ℕ) → in_turn a_goal 0 16 x ≡ some_goals x
unfolding some_goals
goals_begin x = refl

pub goal_next : (k x : ℕ) → k < 16 →
    text_of_lines (goal_lines k (in_turn a_goal k (16 - k) x).0) ≡ text_of_lines (goal_line k (a_goal k x).0 ∷ []) ++ text_of_lines (goal_lines (k + 1) (in_turn a_goal (k + 1) (16 - (k + 1)) (a_goal k x).1).0)
goal_next k x below =
    ap (λ drawn. text_of_lines (goal_lines k drawn.0)) (in_turn_next a_goal k 16 x below)
    ∙ text_appended (goal_line k (a_goal k x).0 ∷ []) (goal_lines (k + 1) (in_turn a_goal (k + 1) (16 - (k + 1)) (a_goal k x).1).0)

pub goal_state : (k x : ℕ) → k < 16 → (in_turn a_goal k (16 - k) x).1 ≡ (in_turn a_goal (k + 1) (16 - (k + 1)) (a_goal k x).1).1
goal_state k x below = ap (λ drawn. drawn.1) (in_turn_next a_goal k 16 x below)

pub goals_end : (k x : ℕ) → 16 ≤ k → in_turn a_goal k (16 - k) x ≡ ([], x)
goals_end k x past = in_turn_ended a_goal k 16 x past

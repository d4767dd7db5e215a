-- The last lines for each interface and way, from the last line on.
use Rattle.std.proofs.Common.{◌≡◌, Bool, true, false, List, [], ◌∷◌, ◌++◌, reverse, refl, sym, ap, ◌∙◌, append-nil, append_assoc}
use Rattle.std.specs.Prelude.{◌||◌, ◌&&◌, if◌then◌else◌}
use Rattle.std.specs.List.{list_any}
use Rattle.std.specs.Str.{bytes_eq}
use Rattle.std.proofs.lemmas.List.{reverse-append}
use Rattle.std.proofs.lemmas.List.Folds.{list_any-append}
use Rattle.np_acl.specs.declared.kinds.Way.{Way}
use Rattle.np_acl.specs.declared.kinds.Way.TheVariants.{Inward, Outward}
use Rattle.np_acl_read.specs.Declaring.{is_same_way}
use Rattle.np_notes.specs.declared.group_line.GroupLine.{GroupLine}
use Rattle.np_notes.specs.declared.group_notes.Places.{Places}
use Rattle.np_notes.specs.NameNotes.{are_at_same_place, last_groups}
use Rattle.np_notes.specs.Places.{has_place, names_in, with_name_in, with_place}
use Rattle.np_notes.proofs.NameLaws.{any_with_name}

-- of these lines the last one for each interface and way, without those that pass the test
abbrev pub last_but : (GroupLine → Bool) → List GroupLine → List GroupLine
last_but test [] = []
last_but test (group ∷ groups) = if list_any (are_at_same_place group) groups || test group then last_but test groups else group ∷ last_but test groups

-- tests that answer alike leave the same lines
alike : (one other : GroupLine → Bool) → ((group : GroupLine) → one group ≡ other group) → (groups : List GroupLine) → last_but one groups ≡ last_but other groups
alike one other same [] = refl
alike one other same (group ∷ groups) =
    (λ i. if list_any (are_at_same_place group) groups || same group i then alike one other same groups i else group ∷ alike one other same groups i)

or_none : (b : Bool) → (b || false) ≡ b
or_none true = refl
or_none false = refl

or_assoc : (a b c : Bool) → ((a || b) || c) ≡ (a || (b || c))
or_assoc true b c = refl
or_assoc false b c = refl

-- with one more line at the end
but_more : (test : GroupLine → Bool) (groups : List GroupLine) (last : GroupLine) → last_but test (groups ++ last ∷ []) ≡ last_but (λ g. are_at_same_place g last || test g) groups ++ (if test last then [] else last ∷ [])
but_more test [] last = refl
but_more test (group ∷ groups) last =
    (λ i. if any i then but_more test groups last i else group ∷ but_more test groups last i)
    ∙ by (list_any (are_at_same_place group) groups || (are_at_same_place group last || test group))
  where
    any : (list_any (are_at_same_place group) (groups ++ last ∷ []) || test group) ≡ (list_any (are_at_same_place group) groups || (are_at_same_place group last || test group))
    any =
        ap (λ b. b || test group) (list_any-append (are_at_same_place group) groups (last ∷ []) ∙ ap (λ b. list_any (are_at_same_place group) groups || b) (or_none (are_at_same_place group last)))
        ∙ or_assoc (list_any (are_at_same_place group) groups) (are_at_same_place group last) (test group)

    by : (b : Bool) → (if b then last_but (λ g. are_at_same_place g last || test g) groups ++ (if test last then [] else last ∷ []) else group ∷ (last_but (λ g. are_at_same_place g last || test g) groups ++ (if test last then [] else last ∷ [])))
        ≡ (if b then last_but (λ g. are_at_same_place g last || test g) groups else group ∷ last_but (λ g. are_at_same_place g last || test g) groups) ++ (if test last then [] else last ∷ [])
    by true = refl
    by false = refl

or_turned : (a b : Bool) → (a || b) ≡ (b || a)
or_turned true true = refl
or_turned true false = refl
or_turned false true = refl
or_turned false false = refl

and_false : (b : Bool) → (b && false) ≡ false
and_false true = refl
and_false false = refl

and_true : (b : Bool) → (b && true) ≡ b
and_true true = refl
and_true false = refl

-- a place is there with that of one more line
there_more : (places : Places) (last group : GroupLine) → has_place (with_place places last) group ≡ (are_at_same_place group last || has_place places group)
there_more places last group = by group.way last.way where
  by : (its way : Way) → list_any (bytes_eq group.interface) (names_in (with_name_in places way last.interface) its) ≡ ((bytes_eq group.interface last.interface && is_same_way its way) || list_any (bytes_eq group.interface) (names_in places its))
  by Inward Inward = any_with_name group.interface places.inward last.interface ∙ or_turned (list_any (bytes_eq group.interface) places.inward) (bytes_eq group.interface last.interface) ∙ ap (λ b. b || list_any (bytes_eq group.interface) places.inward) (sym (and_true (bytes_eq group.interface last.interface)))
  by Inward Outward = ap (λ b. b || list_any (bytes_eq group.interface) places.inward) (sym (and_false (bytes_eq group.interface last.interface)))
  by Outward Inward = ap (λ b. b || list_any (bytes_eq group.interface) places.outward) (sym (and_false (bytes_eq group.interface last.interface)))
  by Outward Outward = any_with_name group.interface places.outward last.interface ∙ or_turned (list_any (bytes_eq group.interface) places.outward) (bytes_eq group.interface last.interface) ∙ ap (λ b. b || list_any (bytes_eq group.interface) places.outward) (sym (and_true (bytes_eq group.interface last.interface)))

-- where no place is seen yet the last lines are those of all
but_none : (places : Places) → places.inward ≡ [] → places.outward ≡ [] → (groups : List GroupLine) → last_but (has_place places) groups ≡ last_groups groups
but_none places inward outward [] = refl
but_none places inward outward (group ∷ groups) =
    (λ i. if unseen i then but_none places inward outward groups i else group ∷ but_none places inward outward groups i)
  where
    none : (way : Way) → list_any (bytes_eq group.interface) (names_in places way) ≡ false
    none Inward = ap (λ names. list_any (bytes_eq group.interface) names) inward
    none Outward = ap (λ names. list_any (bytes_eq group.interface) names) outward

    unseen : (list_any (are_at_same_place group) groups || has_place places group) ≡ list_any (are_at_same_place group) groups
    unseen = ap (λ b. list_any (are_at_same_place group) groups || b) (none group.way) ∙ or_none (list_any (are_at_same_place group) groups)

pub last_start : (places : Places) (groups kept : List GroupLine) → places.inward ≡ [] → places.outward ≡ [] → kept ≡ [] → last_but (has_place places) groups ++ reverse kept ≡ last_groups groups
last_start places groups kept inward outward none = ap (λ k. last_but (has_place places) groups ++ reverse k) none ∙ append-nil (last_but (has_place places) groups) ∙ but_none places inward outward groups

-- one line more is looked at
pub last_one : (seen next : Places) (groups left kept more all : List GroupLine) (group : GroupLine) →
    groups ≡ left ++ group ∷ [] → next ≡ with_place seen group → more ≡ kept ++ (if has_place seen group then [] else group ∷ []) →
    last_but (has_place seen) groups ++ reverse kept ≡ all → last_but (has_place next) left ++ reverse more ≡ all
last_one seen next groups left kept more all group split is grown whole =
    (λ i. last_but (has_place (is i)) left ++ reverse (grown i))
    ∙ ap (λ l. l ++ reverse (kept ++ (if has_place seen group then [] else group ∷ []))) (alike (has_place (with_place seen group)) (λ g. are_at_same_place g group || has_place seen g) (there_more seen group) left)
    ∙ ap (λ l. last_but (λ g. are_at_same_place g group || has_place seen g) left ++ l) (reverse-append kept (if has_place seen group then [] else group ∷ []) ∙ ap (λ l. l ++ reverse kept) (turned (has_place seen group)))
    ∙ sym (append_assoc (last_but (λ g. are_at_same_place g group || has_place seen g) left) (if has_place seen group then [] else group ∷ []) (reverse kept))
    ∙ ap (λ l. l ++ reverse kept) (sym (but_more (has_place seen) left group))
    ∙ ap (λ g. last_but (has_place seen) g ++ reverse kept) (sym split)
    ∙ whole
  where
    turned : (b : Bool) → reverse (if b then [] else group ∷ []) ≡ (if b then [] else group ∷ [])
    turned true = refl
    turned false = refl

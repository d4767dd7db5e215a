-- What it means that a configuration has no note of names.
use Rattle.std.proofs.Common.{◌≡◌, ℕ, Bool, true, false, nat_eq, List, [], ◌∷◌, ◌++◌, map, Option, Some, None, refl, sym, ap, subst, ◌∙◌}
use Rattle.std.specs.Prelude.{◌&&◌, ◌||◌, Ok, if◌then◌else◌}
use Rattle.std.specs.List.{AllByRecursion, cons_option, filter_map, list_any}
use Rattle.std.specs.Map.{lookup}
use Rattle.std.specs.Str.{bytes_eq}
use Rattle.std.proofs.lemmas.Bool.{eqb-true}
use Rattle.std.proofs.lemmas.Cmp.{nat_eq_equiv}
use Rattle.std.proofs.lemmas.List.Elements.{filter_map-append}
use Rattle.std.proofs.lemmas.Slice.Eq.{bytes_eq-Decides}
use Rattle.np_acl.specs.declared.entries.Entry.{Entry}
use Rattle.np_acl.specs.declared.kinds.Way.{Way}
use Rattle.np_acl.specs.declared.kinds.Way.TheVariants.{Inward, Outward}
use Rattle.np_acl_read.specs.declared.config.Config.{Config}
use Rattle.np_acl_read.specs.declared.statement.Statement.{Statement}
use Rattle.np_acl_read.specs.declared.statement.Statement.TheVariants as statement
use Rattle.np_acl_read.specs.Declaring.{is_same_way, lists_of, plain_lists}
use Rattle.np_acl_read.specs.Reading.{config_of}
use Rattle.np_net.specs.Plan.{Plan}
use Rattle.np_net.specs.declared.filtering.Interface.{Interface}
use Rattle.np_notes.specs.declared.group_line.GroupLine.{GroupLine}
use Rattle.np_notes.specs.declared.note.Note.TheVariants as notes
use Rattle.np_notes.specs.Clean.{AppliesNone, HasEntries, HasInterface, IsAmong, IsNamed, IsOpened}
use Rattle.np_notes.specs.NameNotes.{are_at_same_place, group_in, group_note, group_notes, groups_of, interface_in, interfaces_named, interfaces_of, last_groups, list_note, missing_note, missing_notes, name_at_device}
use Rattle.np_notes.specs.Notes.{name_notes}
use Rattle.np_notes.specs.ReadLines.{ReadLine, read_lines, statements_of}
use Rattle.np_notes.proofs.AmongLaws.{plain_found}
use Rattle.np_notes.proofs.NameLaws.{lists_declared}
use Rattle.np_notes.proofs.ReadLaws.{config_read}

-- ---- lists without elements

both_none : {X : Type 0} (xs ys : List X) → xs ++ ys ≡ [] → (xs ≡ []) × (ys ≡ [])
both_none [] ys none = (refl, none)
both_none (x ∷ xs) ys none = absurd (cc)

-- where nothing is given of any, nothing is given of one among them
none_given : {X Y : Type 0} (h : X → Option Y) (front back : List X) (x : X) → filter_map h (front ++ x ∷ back) ≡ [] → h x ≡ None
none_given {Y = Y} h front back x none = by (h x) (both_none (filter_map h front) (cons_option (h x) (filter_map h back)) (sym (filter_map-append h front (x ∷ back)) ∙ none)).1 where
  by : (o : Option Y) → cons_option o (filter_map h back) ≡ [] → o ≡ None
  by None is = refl
  by (Some y) is = absurd (cc)

one_more : {X : Type 0} (x first : X) (xs : List X) → IsAmong x xs → IsAmong x (first ∷ xs)
one_more x first xs among = record { front = first ∷ among.front; back = among.back; split = ap (λ l. first ∷ l) among.split }

-- ---- interfaces

-- where a name is among those whose sections lines open, one of them opens it
opened_by : (lines : List ReadLine) (name : List ℕ) → list_any (bytes_eq name) (interfaces_named lines) ≡ true → IsOpened lines name
opened_by [] name there = absurd (cc)
opened_by (line ∷ lines) name there = by line.said refl (opened_by lines name) there where
  later : IsOpened lines name → IsOpened (line ∷ lines) name
  later opened = record { line = opened.line; among = one_more opened.line line lines opened.among; opens = opened.opens }

  here : (b : Bool) (other : List ℕ) → bytes_eq name other ≡ b → line.said ≡ Some (statement.Interface other) → (list_any (bytes_eq name) (interfaces_named lines) ≡ true → IsOpened lines name) → (b || list_any (bytes_eq name) (interfaces_named lines)) ≡ true → IsOpened (line ∷ lines) name
  here true other same is rest there = record {
    line = line;
    among = record { front = []; back = lines; split = refl };
    opens = is ∙ ap (λ n. Some (statement.Interface n)) (sym ((bytes_eq-Decides name other).0 same));
  }
  here false other same is rest there = later (rest there)

  by : (said : Option Statement) → line.said ≡ said → (list_any (bytes_eq name) (interfaces_named lines) ≡ true → IsOpened lines name)
      → list_any (bytes_eq name) (cons_option (interface_in said) (interfaces_named lines)) ≡ true → IsOpened (line ∷ lines) name
  by None is rest there = later (rest there)
  by (Some (statement.Interface other)) is rest there = here (bytes_eq name other) other refl is rest there
  by (Some (statement.Section list kind)) is rest there = later (rest there)
  by (Some (statement.Remark list)) is rest there = later (rest there)
  by (Some (statement.ListEntry entry)) is rest there = later (rest there)
  by (Some (statement.SectionEntry entry)) is rest there = later (rest there)
  by (Some (statement.Group interface way list)) is rest there = later (rest there)
  by (Some statement.Other) is rest there = later (rest there)

-- an interface without a note is one whose section lines open
known_unless : (named : List (List ℕ)) (name : List ℕ) → missing_note named name ≡ None → list_any (bytes_eq name) named ≡ true
known_unless named name none = by (list_any (bytes_eq name) named) none where
  by : (b : Bool) → (if b then None else Some (notes.NoInterface name)) ≡ None → b ≡ true
  by true is = refl
  by false is = absurd (cc)

-- the names of a device's interfaces, around that of one of them
names_around : (front back : List Interface) (interface : Interface) (device : ℕ) → interface.device ≡ device
    → filter_map (name_at_device device) (front ++ interface ∷ back) ≡ filter_map (name_at_device device) front ++ interface.name ∷ filter_map (name_at_device device) back
names_around front back interface device is =
    filter_map-append (name_at_device device) front (interface ∷ back)
    ∙ ap (λ (b : Bool). filter_map (name_at_device device) front ++ cons_option (if b then Some interface.name else None) (filter_map (name_at_device device) back)) own
  where
    own : nat_eq interface.device device ≡ true
    own = subst (λ d. nat_eq interface.device d ≡ true) is (nat_eq_equiv.refl interface.device)

interfaces_clean : (net : Plan) (device : ℕ) (lines : List ReadLine) → missing_notes (interfaces_of net device) (interfaces_named lines) ≡ []
    → (interface : Interface) → IsAmong interface net.interfaces → interface.device ≡ device → IsOpened lines interface.name
interfaces_clean net device lines none interface among its =
    opened_by lines interface.name
    (known_unless (interfaces_named lines) interface.name
    (none_given (missing_note (interfaces_named lines)) (filter_map (name_at_device device) among.front) (filter_map (name_at_device device) among.back) interface.name
    (subst (λ names. missing_notes names (interfaces_named lines) ≡ []) (ap (λ all. filter_map (name_at_device device) all) among.split ∙ names_around among.front among.back interface device its) none)))

-- ---- lists that are applied

same_way : (one other : Way) → is_same_way one other ≡ true → one ≡ other
same_way Inward Inward is = refl
same_way Inward Outward is = absurd (cc)
same_way Outward Inward is = absurd (cc)
same_way Outward Outward is = refl

-- where lines apply no list at a place, none of their groups is at it
no_later : (after : List ReadLine) (group : GroupLine) → AllByRecursion (AppliesNone group.interface group.way) after → list_any (are_at_same_place group) (groups_of after) ≡ false
no_later [] group none = refl
no_later (line ∷ after) group none = by line.said refl (no_later after group none.1) where
  apart : (name : List ℕ) (way : Way) (list : List ℕ) → line.said ≡ Some (statement.Group name way list) → (a b : Bool) → bytes_eq group.interface name ≡ a → is_same_way group.way way ≡ b → (a && b) ≡ false
  apart name way list is true true same its =
      absurd (none.0 list (is ∙ (λ i. Some (statement.Group (sym ((bytes_eq-Decides group.interface name).0 same) i) (sym (same_way group.way way its) i) list))))
  apart name way list is true false same its = refl
  apart name way list is false b same its = refl

  by : (said : Option Statement) → line.said ≡ said → list_any (are_at_same_place group) (groups_of after) ≡ false → list_any (are_at_same_place group) (cons_option (group_in line.number said) (groups_of after)) ≡ false
  by None is rest = rest
  by (Some (statement.Interface other)) is rest = rest
  by (Some (statement.Section list kind)) is rest = rest
  by (Some (statement.Remark list)) is rest = rest
  by (Some (statement.ListEntry entry)) is rest = rest
  by (Some (statement.SectionEntry entry)) is rest = rest
  by (Some (statement.Group name way list)) is rest =
      ap (λ b. b || list_any (are_at_same_place group) (groups_of after)) (apart name way list is (bytes_eq group.interface name) (is_same_way group.way way) refl refl) ∙ rest
  by (Some statement.Other) is rest = rest

-- a line after which none is at its place is among the last ones
last_among : (front back : List GroupLine) (group : GroupLine) → list_any (are_at_same_place group) back ≡ false → IsAmong group (last_groups (front ++ group ∷ back))
last_among [] back group none = record { front = []; back = last_groups back; split = ap (λ (b : Bool). if b then last_groups back else group ∷ last_groups back) none }
last_among (first ∷ front) back group none = by (list_any (are_at_same_place first) (front ++ group ∷ back)) (last_among front back group none) where
  by : (b : Bool) → IsAmong group (last_groups (front ++ group ∷ back)) → IsAmong group (if b then last_groups (front ++ group ∷ back) else first ∷ last_groups (front ++ group ∷ back))
  by true among = among
  by false among = one_more group first (last_groups (front ++ group ∷ back)) among

-- a device with such a name has an interface of it
interface_named : (net : Plan) (device : ℕ) (name : List ℕ) → list_any (bytes_eq name) (interfaces_of net device) ≡ true → HasInterface net device name
interface_named net device name there = let found = among net.interfaces there in record { interface = found.0; among = found.1; its_device = found.2; its_name = found.3 } where
  Found : List Interface → Type 0
  Found interfaces = (interface : Interface) × IsAmong interface interfaces × (interface.device ≡ device) × (interface.name ≡ name)

  among : (interfaces : List Interface) → list_any (bytes_eq name) (filter_map (name_at_device device) interfaces) ≡ true → Found interfaces
  among [] there = absurd (cc)
  among (first ∷ interfaces) there = by (nat_eq first.device device) refl (among interfaces) there where
    later : Found interfaces → Found (first ∷ interfaces)
    later found = (found.0, one_more found.0 first interfaces found.1, found.2, found.3)

    here : (b : Bool) → bytes_eq name first.name ≡ b → nat_eq first.device device ≡ true → (list_any (bytes_eq name) (filter_map (name_at_device device) interfaces) ≡ true → Found interfaces)
        → (b || list_any (bytes_eq name) (filter_map (name_at_device device) interfaces)) ≡ true → Found (first ∷ interfaces)
    here true same its rest there = (first, record { front = []; back = interfaces; split = refl }, eqb-true first.device device its, sym ((bytes_eq-Decides name first.name).0 same))
    here false same its rest there = later (rest there)

    by : (b : Bool) → nat_eq first.device device ≡ b → (list_any (bytes_eq name) (filter_map (name_at_device device) interfaces) ≡ true → Found interfaces)
        → list_any (bytes_eq name) (cons_option (if b then Some first.name else None) (filter_map (name_at_device device) interfaces)) ≡ true → Found (first ∷ interfaces)
    by true its rest there = here (bytes_eq name first.name) refl its rest there
    by false its rest there = later (rest there)

-- a line without a note names an interface of the device, and a list with an entry
good_group : (interfaces : List (List ℕ)) (lists : List (List ℕ × List (ℕ × Entry))) (group : GroupLine) → group_note interfaces lists group ≡ None
    → (list_any (bytes_eq group.interface) interfaces ≡ true) × (first : ℕ × Entry) × (others : List (ℕ × Entry)) × (lookup (bytes_eq group.list) lists ≡ Some (first ∷ others))
good_group interfaces lists group none = by (list_any (bytes_eq group.interface) interfaces) (lookup (bytes_eq group.list) lists) refl none where
  by : (b : Bool) (list : Option (List (ℕ × Entry))) → lookup (bytes_eq group.list) lists ≡ list → (if b then list_note group list else Some (notes.UnknownInterface group.line group.interface)) ≡ None
      → (b ≡ true) × (first : ℕ × Entry) × (others : List (ℕ × Entry)) × (lookup (bytes_eq group.list) lists ≡ Some (first ∷ others))
  by true None is none = absurd (cc)
  by true (Some []) is none = absurd (cc)
  by true (Some (first ∷ others)) is none = (refl, first, others, is)
  by false list is none = absurd (cc)

applied_clean : (text : List ℕ) (config : Config) (net : Plan) (device : ℕ) → config_of text ≡ Ok config → group_notes (interfaces_of net device) (lists_of (statements_of (read_lines text))) (groups_of (read_lines text)) ≡ []
    → (before after : List ReadLine) (line : ReadLine) (interface list : List ℕ) (way : Way) → read_lines text ≡ before ++ line ∷ after
    → line.said ≡ Some (statement.Group interface way list) → AllByRecursion (AppliesNone interface way) after → HasInterface net device interface × HasEntries config list
applied_clean text config net device is none before after line interface list way split says later = (
  interface_named net device interface good.0,
  record { first = good.1.1; others = map (λ entry. entry.1) good.2; there = there },
)
  where
    lists : List (List ℕ × List (ℕ × Entry))
    lists = lists_of (statements_of (read_lines text))

    group : GroupLine
    group = record { line = line.number; interface = interface; way = way; list = list }

    around : groups_of (read_lines text) ≡ groups_of before ++ group ∷ groups_of after
    around =
        ap groups_of split
        ∙ filter_map-append (λ l. group_in l.number l.said) before (line ∷ after)
        ∙ ap (λ said. groups_of before ++ cons_option (group_in line.number said) (groups_of after)) says

    among : IsAmong group (last_groups (groups_of (read_lines text)))
    among = subst (λ groups. IsAmong group (last_groups groups)) (sym around) (last_among (groups_of before) (groups_of after) group (no_later after group later))

    good : (list_any (bytes_eq interface) (interfaces_of net device) ≡ true) × (first : ℕ × Entry) × (others : List (ℕ × Entry)) × (lookup (bytes_eq list) lists ≡ Some (first ∷ others))
    good = good_group (interfaces_of net device) lists group
        (none_given (group_note (interfaces_of net device) lists) among.front among.back group (ap (λ groups. filter_map (group_note (interfaces_of net device) lists) groups) (sym among.split) ∙ none))

    there : lookup (bytes_eq list) config.lists ≡ Some (good.1.1 ∷ map (λ entry. entry.1) good.2)
    there =
        ap (λ c. lookup (bytes_eq list) c.lists) (sym (config_read text config is))
        ∙ ap (λ l. lookup (bytes_eq list) (plain_lists l)) (lists_declared (statements_of (read_lines text)))
        ∙ plain_found (bytes_eq list) lists (good.1 ∷ good.2) good.3

-- ---- the whole

pub named_is : (text : List ℕ) (config : Config) (net : Plan) (device : ℕ) → config_of text ≡ Ok config → name_notes (interfaces_of net device) (read_lines text) ≡ [] → IsNamed net device config (read_lines text)
named_is text config net device is none = record {
  interfaces = interfaces_clean net device (read_lines text) parts.0;
  applied = applied_clean text config net device is parts.1;
}
  where
    parts : (missing_notes (interfaces_of net device) (interfaces_named (read_lines text)) ≡ []) × (group_notes (interfaces_of net device) (lists_of (statements_of (read_lines text))) (groups_of (read_lines text)) ≡ [])
    parts =
        both_none (missing_notes (interfaces_of net device) (interfaces_named (read_lines text)))
        (group_notes (interfaces_of net device) (lists_of (statements_of (read_lines text))) (groups_of (read_lines text))) none

-- Notes of names, one after another.
use Rattle.std.proofs.Common.{◌≡◌, ℕ, Bool, true, false, List, [], ◌∷◌, ◌++◌, length, Option, Some, None, refl, sym, ap, ◌∙◌, append_assoc}
use Rattle.std.specs.Prelude.{zero, suc, ◌||◌, option_map, if◌then◌else◌}
use Rattle.std.specs.List.{cons_option, filter_map, list_any}
use Rattle.std.specs.Map.{lookup}
use Rattle.std.specs.Option.{option_to_list}
use Rattle.std.specs.Str.{bytes_eq}
use Rattle.std.proofs.lemmas.Cmp.{nat_list_eq_equiv}
use Rattle.std.proofs.lemmas.List.Elements.{filter_map-append}
use Rattle.std.proofs.lemmas.List.Folds.{list_any-append}
use Rattle.std.proofs.lemmas.Map.Steps.{list_any_congr}
use Rattle.np_acl.specs.declared.entries.Entry.{Entry}
use Rattle.np_acl_read.specs.declared.statement.Statement.{Statement}
use Rattle.np_acl_read.specs.Declaring.{declared_by_config, lists_of, with_name}
use Rattle.np_notes.specs.declared.group_line.GroupLine.{GroupLine}
use Rattle.np_notes.specs.declared.note.Note.{Note}
use Rattle.np_notes.specs.declared.note.Note.TheVariants as notes
use Rattle.np_notes.specs.declared.passed.Passed.{Passed}
use Rattle.np_notes.specs.NameNotes.{group_note, group_notes, groups_of, interfaces_named, list_note, missing_note, missing_notes}
use Rattle.np_notes.specs.Naming.{with_each}
use Rattle.np_notes.specs.Notes.{name_notes}
use Rattle.np_notes.specs.ReadLines.{ReadLine, statements_of}
use Rattle.np_notes.specs.Walked.{HasPassed}

-- ---- a list of notes that grows

-- what is given of an item that may be there, and of the others
given_left : {X Y : Type 0} (h : X → Option Y) (o : Option X) (rest : List X) → filter_map h (option_to_list o) ++ filter_map h rest ≡ filter_map h (cons_option o rest)
given_left h None rest = refl
given_left h (Some x) rest = sym (filter_map-append h (x ∷ []) rest)

pub missing_left : (before after all : List Note) (named : List (List ℕ)) (o : Option (List ℕ)) (rest : List (List ℕ)) → after ≡ before ++ missing_notes (option_to_list o) named → before ++ missing_notes (cons_option o rest) named ≡ all → after ++ missing_notes rest named ≡ all
missing_left before after all named o rest more whole =
    ap (λ l. l ++ missing_notes rest named) more
    ∙ append_assoc before (missing_notes (option_to_list o) named) (missing_notes rest named)
    ∙ ap (λ l. before ++ l) (given_left (missing_note named) o rest)
    ∙ whole

-- ---- names without repeats

or_none : (b : Bool) → (b || false) ≡ b
or_none true = refl
or_none false = refl

or_same : (b e : Bool) → (e ≡ true → b ≡ true) → (b || e) ≡ b
or_same true e since = refl
or_same false true since = sym (since refl)
or_same false false since = refl

or_assoc : (a b c : Bool) → ((a || b) || c) ≡ (a || (b || c))
or_assoc true b c = refl
or_assoc false b c = refl

-- a name is among names with one more where it is among them, or is that one
pub any_with_name : (name : List ℕ) (names : List (List ℕ)) (one : List ℕ) → list_any (bytes_eq name) (with_name names one) ≡ (list_any (bytes_eq name) names || bytes_eq name one)
any_with_name name names one = by (list_any (bytes_eq one) names) refl where
  by : (b : Bool) → list_any (bytes_eq one) names ≡ b → list_any (bytes_eq name) (with_name names one) ≡ (list_any (bytes_eq name) names || bytes_eq name one)
  by true there = rw there (sym (or_same (list_any (bytes_eq name) names) (bytes_eq name one) (λ is. list_any_congr nat_list_eq_equiv name one names is ∙ there)))
  by false away = rw away (list_any-append (bytes_eq name) names (one ∷ []) ∙ ap (λ b. list_any (bytes_eq name) names || b) (or_none (bytes_eq name one)))

any_after : (name : List ℕ) (names more : List (List ℕ)) → list_any (bytes_eq name) (with_each names more) ≡ (list_any (bytes_eq name) names || list_any (bytes_eq name) more)
any_after name names [] = sym (or_none (list_any (bytes_eq name) names))
any_after name names (one ∷ more) =
    any_after name (with_name names one) more
    ∙ ap (λ b. b || list_any (bytes_eq name) more) (any_with_name name names one)
    ∙ or_assoc (list_any (bytes_eq name) names) (bytes_eq name one) (list_any (bytes_eq name) more)

-- the same names are there without the repeats
pub any_once : (name : List ℕ) (names : List (List ℕ)) → list_any (bytes_eq name) (with_each [] names) ≡ list_any (bytes_eq name) names
any_once name names = any_after name [] names

missing_once : (interfaces named : List (List ℕ)) → missing_notes interfaces (with_each [] named) ≡ missing_notes interfaces named
missing_once [] named = refl
missing_once (name ∷ interfaces) named =
    (λ i. cons_option (if any_once name named i then None else Some (notes.NoInterface name)) (missing_once interfaces named i))

pub groups_once : (interfaces : List (List ℕ)) (lists : List (List ℕ × List (ℕ × Entry))) (groups : List GroupLine) → filter_map (group_note (with_each [] interfaces) lists) groups ≡ filter_map (group_note interfaces lists) groups
groups_once interfaces lists [] = refl
groups_once interfaces lists (group ∷ groups) =
    (λ i. cons_option (if any_once group.interface interfaces i then list_note group (lookup (bytes_eq group.list) lists) else Some (notes.UnknownInterface group.line group.interface)) (groups_once interfaces lists groups i))

-- ---- lists

-- the note of a list with so many entries
abbrev by_count : GroupLine → Option ℕ → Option Note
by_count group None = Some (notes.Undefined group.line group.list)
by_count group (Some zero) = Some (notes.Empty group.line group.list)
by_count group (Some (suc n)) = None

-- the note of a list by how many entries it has
pub list_note_by_count : (group : GroupLine) (list : Option (List (ℕ × Entry))) → list_note group list ≡ by_count group (option_map length list)
list_note_by_count group None = refl
list_note_by_count group (Some []) = refl
list_note_by_count group (Some (entry ∷ entries)) = refl

pub lists_declared : (statements : List Statement) → (declared_by_config statements).lists ≡ lists_of statements
unfolding declared_by_config
lists_declared statements = refl

-- ---- the whole

-- the notes of names, with each name once
pub names_noted : (before missed after : List Note) (interfaces : List (List ℕ)) (passed : Passed) → before ≡ [] → missed ≡ before ++ missing_notes interfaces passed.named → after ≡ missed ++ filter_map (group_note interfaces passed.declared.lists) passed.groups.items →
    (lines : List ReadLine) → HasPassed passed lines → after ≡ name_notes interfaces lines
names_noted before missed after interfaces passed none missing grouped lines had =
    grouped
    ∙ (λ i. missed ++ filter_map (group_note interfaces (had.declared i).lists) (had.groups i))
    ∙ ap (λ l. missed ++ group_notes interfaces l (groups_of lines)) (lists_declared (statements_of lines))
    ∙ ap (λ l. l ++ group_notes interfaces (lists_of (statements_of lines)) (groups_of lines))
    (missing ∙ (λ i. none i ++ missing_notes interfaces (had.named i)) ∙ missing_once interfaces (interfaces_named lines))

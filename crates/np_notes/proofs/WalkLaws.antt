-- What is known after one more line.
use Rattle.std.proofs.Common.{◌≡◌, ℕ, Bool, true, false, List, [], ◌∷◌, ◌++◌, reverse, Option, Some, None, refl, sym, ap, subst, ◌∙◌, append-nil, append_assoc}
use Rattle.std.specs.Prelude.{not, ◌&&◌, ◌||◌, fold, Ok, if◌then◌else◌}
use Rattle.std.specs.List.{cons_option, filter_map, list_any, take_while}
use Rattle.std.specs.Option.{option_to_list}
use Rattle.std.proofs.lemmas.List.{reverse-append}
use Rattle.std.proofs.lemmas.List.Elements.{filter_map-append}
use Rattle.std.proofs.lemmas.List.Sums.{take_while-cons}
use Rattle.np_text.specs.Lines.{numbered_lines}
use Rattle.np_text.specs.Words.{words_of}
use Rattle.np_lines.specs.Declaring.{added_if, lines_give}
use Rattle.np_lines.specs.Skipping.{is_skipped}
use Rattle.np_acl_read.specs.declared.declared.Declared.{Declared}
use Rattle.np_acl_read.specs.declared.declared.Section.{Section}
use Rattle.np_acl_read.specs.declared.statement.Statement.{Statement}
use Rattle.np_acl_read.specs.Adding.{added}
use Rattle.np_acl_read.specs.Declaring.{config_with, declared_by_config, with_name}
use Rattle.np_acl_read.specs.Reading.{config_of}
use Rattle.np_acl_read.proofs.DeclarationLaws.{declared_one_more}
use Rattle.np_acl_read.proofs.LineReading.{config_of_numbered}
use Rattle.np_notes.specs.declared.kinds.Kind.TheVariants as kinds
use Rattle.np_notes.specs.declared.note.Note.{Note}
use Rattle.np_notes.specs.declared.passed.Passed.{Passed}
use Rattle.np_notes.specs.declared.walk.Findings.{Findings}
use Rattle.np_notes.specs.declared.walk.Walk.{Walk}
use Rattle.np_notes.specs.Foreign.{begins_foreign_list, goes_on, is_foreign_open, is_outer}
use Rattle.np_notes.specs.Kinds.{is_interface_kind, is_skipped_kind, kind_of}
use Rattle.np_notes.specs.LineNotes.{has_strayed, line_notes, line_notes_after, note_of_line, note_of_shape}
use Rattle.np_notes.specs.NameNotes.{group_in, interface_in, interfaces_named, last_groups}
use Rattle.np_notes.specs.Naming.{with_each}
use Rattle.np_acl_read.specs.Judging.{line_says}
use Rattle.np_notes.specs.ReadLines.{ReadLine, Shape, line_kind, lines_from, read_after, read_lines, shape_of, statements_of, unless_faulty}
use Rattle.np_notes.specs.Shaping.{foreign_after, strayed_after}
use Rattle.np_notes.specs.Walked.{HasFound, HasPassed, HasWalked, LeavesOf}

-- ---- one more at the end

-- the lines with one more, the last one first
reverse_more : (before : List ReadLine) (line : ReadLine) → reverse (before ++ line ∷ []) ≡ line ∷ reverse before
reverse_more before line = reverse-append before (line ∷ [])

one_of : {Y : Type 0} (o : Option Y) → cons_option o [] ≡ option_to_list o
one_of None = refl
one_of (Some y) = refl

-- what a function gives of one more
pub gives_more : {X Y : Type 0} (h : X → Option Y) (xs : List X) (x : X) → filter_map h (xs ++ x ∷ []) ≡ filter_map h xs ++ option_to_list (h x)
gives_more h xs x = filter_map-append h xs (x ∷ []) ∙ ap (λ more. filter_map h xs ++ more) (one_of (h x))

fold_append : {A B : Type 0} (f : B → A → B) (b : B) (xs ys : List A) → fold f b (xs ++ ys) ≡ fold f (fold f b xs) ys
fold_append f b [] ys = refl
fold_append f b (x ∷ xs) ys = fold_append f (f b x) xs ys

-- ---- the context

pub foreign_more : (earlier : List ReadLine) (line : ReadLine) → is_foreign_open (line ∷ earlier) ≡ foreign_after (shape_of line) (is_foreign_open earlier)
foreign_more earlier line = by (goes_on (shape_of line)) refl where
  by : (b : Bool) → goes_on (shape_of line) ≡ b → is_foreign_open (line ∷ earlier) ≡ (if b then is_foreign_open earlier else begins_foreign_list (shape_of line))
  by true on = rw on refl
  by false off = rw off refl

pub strayed_more : (earlier : List ReadLine) (line : ReadLine) → has_strayed (line ∷ earlier) ≡ strayed_after (shape_of line) (has_strayed earlier)
strayed_more earlier line =
    ap (λ lines. list_any (λ l. is_outer (shape_of l)) lines) (take_while-cons (λ l. not (is_interface_kind (line_kind l))) line earlier)
    ∙ by (is_interface_kind (line_kind line))
  where
    by : (b : Bool) → list_any (λ l. is_outer (shape_of l)) (if not b then line ∷ take_while (λ l. not (is_interface_kind (line_kind l))) earlier else []) ≡ (if b then false else is_outer (shape_of line) || has_strayed earlier)
    by true = refl
    by false = refl

-- ---- the notes

notes_more : (earlier before : List ReadLine) (line : ReadLine) → line_notes_after earlier (before ++ line ∷ []) ≡ line_notes_after earlier before ++ option_to_list (note_of_line (reverse before ++ earlier) line)
notes_more earlier [] line = append-nil (option_to_list (note_of_line earlier line))
notes_more earlier (first ∷ before) line =
    ap (λ more. option_to_list (note_of_line earlier first) ++ more) (notes_more (first ∷ earlier) before line ∙ ap (λ l. line_notes_after (first ∷ earlier) before ++ option_to_list (note_of_line l line)) (sym turned))
    ∙ sym (append_assoc (option_to_list (note_of_line earlier first)) (line_notes_after (first ∷ earlier) before) (option_to_list (note_of_line (reverse (first ∷ before) ++ earlier) line)))
  where
    turned : reverse (first ∷ before) ++ earlier ≡ reverse before ++ (first ∷ earlier)
    turned = ap (λ l. l ++ earlier) (reverse-append (first ∷ []) before) ∙ append_assoc (reverse before) (first ∷ []) earlier

-- ---- the whole

pub found_none : (found : Findings) → found.context.foreign ≡ false → found.context.strayed ≡ false → found.notes.items ≡ [] → found.named ≡ [] → found.groups.items ≡ [] → HasFound found []
found_none found foreign strayed notes named groups = record {
  context = record { foreign = foreign; strayed = strayed };
  notes = notes;
  named = named;
  groups = groups;
}

-- one more line, by what is added for it
pub found_more : (old new : Findings) (shape : Shape) (its_note : Option Note) (line : ReadLine) →
    shape ≡ shape_of line → its_note ≡ note_of_shape shape line.section old.context.foreign old.context.strayed →
    new.notes.items ≡ old.notes.items ++ option_to_list its_note →
    new.named ≡ with_each old.named (option_to_list (interface_in line.said)) →
    new.groups.items ≡ old.groups.items ++ option_to_list (group_in line.number line.said) →
    new.context.foreign ≡ foreign_after shape old.context.foreign → new.context.strayed ≡ strayed_after shape old.context.strayed →
    (before : List ReadLine) → HasFound old before → HasFound new (before ++ line ∷ [])
found_more old new shape its_note line is noted notes named groups foreign strayed before had = record {
  context = record {
    foreign = foreign ∙ (λ i. foreign_after (is i) (had.context.foreign i)) ∙ sym (foreign_more (reverse before) line) ∙ sym (ap is_foreign_open (reverse_more before line));
    strayed = strayed ∙ (λ i. strayed_after (is i) (had.context.strayed i)) ∙ sym (strayed_more (reverse before) line) ∙ sym (ap has_strayed (reverse_more before line));
  };
  notes =
      notes
      ∙ (λ i. had.notes i ++ option_to_list (noted i))
      ∙ (λ i. line_notes before ++ option_to_list (note_of_shape (is i) line.section (had.context.foreign i) (had.context.strayed i)))
      ∙ ap (λ l. line_notes before ++ option_to_list (note_of_line l line)) (sym (append-nil (reverse before)))
      ∙ sym (notes_more [] before line);
  named =
      named
      ∙ ap (λ names. with_each names (option_to_list (interface_in line.said))) had.named
      ∙ sym (fold_append with_name [] (interfaces_named before) (option_to_list (interface_in line.said)))
      ∙ ap (λ names. with_each [] names) (sym (gives_more (λ l. interface_in l.said) before line));
  groups =
      groups
      ∙ ap (λ g. g ++ option_to_list (group_in line.number line.said)) had.groups
      ∙ sym (gives_more (λ l. group_in l.number l.said) before line);
}

-- a line that declares nothing of its own has no note, and ends a list of another kind where it is a remark
pub found_silence : (old new : Findings) (number : ℕ) (bytes : List ℕ) (section : Section) →
    new.notes.items ≡ old.notes.items → new.named ≡ old.named → new.groups.items ≡ old.groups.items →
    new.context.foreign ≡ (old.context.foreign && is_skipped_kind (kind_of bytes None)) → new.context.strayed ≡ old.context.strayed →
    (before : List ReadLine) → HasFound old before → HasFound new (before ++ record { number = number; bytes = bytes; section = section; said = None } ∷ [])
found_silence old new number bytes section notes named groups foreign strayed before had =
    found_more old new (shape_of line) None line refl (none (is_skipped 33 (words_of bytes)))
    (notes ∙ sym (append-nil old.notes.items)) named (groups ∙ sym (append-nil old.groups.items))
    (foreign ∙ sym (open_after (is_skipped 33 (words_of bytes)) old.context.foreign))
    (strayed ∙ sym (strays (is_skipped 33 (words_of bytes)))) before had
  where
    line : ReadLine
    line = record { number = number; bytes = bytes; section = section; said = None }

    -- its shape, where it is skipped, and where it is a remark
    shape : Bool → Shape
    shape skipped = record (shape_of line) { kind = if skipped then kinds.Skipped else kinds.ListLine }

    none : (skipped : Bool) → None ≡ note_of_shape (shape skipped) section old.context.foreign old.context.strayed
    none true = refl
    none false = refl

    open_after : (skipped was : Bool) → foreign_after (shape skipped) was ≡ (was && is_skipped_kind (shape skipped).kind)
    open_after true true = refl
    open_after true false = refl
    open_after false true = refl
    open_after false false = refl

    strays : (skipped : Bool) → strayed_after (shape skipped) old.context.strayed ≡ old.context.strayed
    strays true = refl
    strays false = refl

declared_more : (before : List Statement) (said : Option Statement) → added_if added (declared_by_config before) said ≡ declared_by_config (before ++ option_to_list said)
declared_more before None = ap declared_by_config (sym (append-nil before))
declared_more before (Some s) = sym (declared_one_more before s)

pub walked_more : (walk next : Walk) (number : ℕ) (bytes : List ℕ) (said : Option Statement) →
    next.declared ≡ added_if added walk.declared said →
    ((before : List ReadLine) → HasFound walk.found before → HasFound next.found (before ++ read_after walk.declared number bytes said ∷ [])) →
    (before : List ReadLine) → HasWalked walk before → HasWalked next (before ++ read_after walk.declared number bytes said ∷ [])
walked_more walk next number bytes said declared found before had = record {
  declared =
      declared
      ∙ ap (λ d. added_if added d said) had.declared
      ∙ declared_more (statements_of before) said
      ∙ ap declared_by_config (sym (gives_more (λ l. l.said) before (read_after walk.declared number bytes said)));
  found = found before had.found;
}

-- a line that declares nothing of its own changes nothing of what is declared
pub walked_silence : (walk next : Walk) (bytes : List ℕ) →
    next.declared ≡ walk.declared →
    ((before : List ReadLine) (number : ℕ) (section : Section) → HasFound walk.found before → HasFound next.found (before ++ record { number = number; bytes = bytes; section = section; said = None } ∷ [])) →
    (before : List ReadLine) (number : ℕ) → HasWalked walk before → HasWalked next (before ++ read_after walk.declared number bytes None ∷ [])
walked_silence walk next bytes declared found before number had =
    walked_more walk next number bytes None declared (λ lines. found lines number walk.declared.section) before had

-- ---- the lines that are left

-- one line is read, and the others are left
pub lines_left : (before : List ReadLine) (declared : Declared) (left : List (ℕ × List ℕ)) (line : ℕ × List ℕ) (rest : List (ℕ × List ℕ)) (next : Declared) (said : Option Statement) (all : List ReadLine) →
    left ≡ line ∷ rest → line_says declared line.1 ≡ Ok said → next ≡ added_if added declared said → before ++ lines_from declared left ≡ all →
    (before ++ read_after declared line.0 line.1 said ∷ []) ++ lines_from next rest ≡ all
lines_left before declared left line rest next said all split says is whole =
    append_assoc before (read_after declared line.0 line.1 said ∷ []) (lines_from next rest)
    ∙ ap (λ d. before ++ read_after declared line.0 line.1 said ∷ lines_from d rest) is
    ∙ ap (λ j. before ++ unless_faulty j (λ s. read_after declared line.0 line.1 s ∷ lines_from (added_if added declared s) rest)) (sym says)
    ∙ ap (λ l. before ++ lines_from declared l) (sym split)
    ∙ whole

-- so what is known after one line more leaves one line less
pub leaves_more : (walk next : Walk) (number : ℕ) (bytes : List ℕ) (said : Option Statement) →
    line_says walk.declared bytes ≡ Ok said → next.declared ≡ added_if added walk.declared said →
    ((before : List ReadLine) → HasWalked walk before → HasWalked next (before ++ read_after walk.declared number bytes said ∷ [])) →
    (left : List (ℕ × List ℕ)) (all : List ReadLine) → LeavesOf walk ((number, bytes) ∷ left) all → LeavesOf next left all
leaves_more walk next number bytes said says is more left all had = (
  had.0 ++ read_after walk.declared number bytes said ∷ [],
  more had.0 had.1,
  lines_left had.0 walk.declared ((number, bytes) ∷ left) (number, bytes) left next.declared said all refl says is had.2,
)

-- where the line declares nothing of its own
pub leaves_silence : (walk next : Walk) (number : ℕ) (bytes : List ℕ) →
    line_says walk.declared bytes ≡ Ok None → next.declared ≡ walk.declared →
    ((before : List ReadLine) (at : ℕ) → HasWalked walk before → HasWalked next (before ++ read_after walk.declared at bytes None ∷ [])) →
    (left : List (ℕ × List ℕ)) (all : List ReadLine) → LeavesOf walk ((number, bytes) ∷ left) all → LeavesOf next left all
leaves_silence walk next number bytes says is more left all had =
    leaves_more walk next number bytes None says is (λ before. more before number) left all had

-- and where it declares this
pub leaves_said : (walk next : Walk) (number : ℕ) (bytes : List ℕ) (said : Statement) →
    line_says walk.declared bytes ≡ Ok (Some said) → next.declared ≡ added walk.declared said →
    ((before : List ReadLine) → HasWalked walk before → HasWalked next (before ++ read_after walk.declared number bytes (Some said) ∷ [])) →
    (left : List (ℕ × List ℕ)) (all : List ReadLine) → LeavesOf walk ((number, bytes) ∷ left) all → LeavesOf next left all
leaves_said walk next number bytes said says is more left all had = leaves_more walk next number bytes (Some said) says is more left all had

-- before any line all lines of the text are left
pub leaves_all : (walk : Walk) (lines : List (ℕ × List ℕ)) (text : List ℕ) → HasWalked walk [] → lines ≡ numbered_lines text → LeavesOf walk lines (read_lines text)
leaves_all walk lines text none all = ([], none, (λ i. lines_from (none.declared i) (all i)))

-- and where no line is left they are those of the text
pub leaves_none : (walk : Walk) (all : List ReadLine) → LeavesOf walk [] all → HasWalked walk all
leaves_none walk all had = subst (HasWalked walk) (sym (append-nil had.0) ∙ had.2) had.1

-- before any line the lines give what the text gives
pub config_begins : (d : Declared) (lines : List (ℕ × List ℕ)) (text : List ℕ) → d ≡ declared_by_config [] → lines ≡ numbered_lines text → lines_give line_says added config_with d lines ≡ config_of text
config_begins d lines text none all = config_of_numbered d lines text none all

-- ---- after all lines

pub passed_is : (walk : Walk) (passed : Passed) → passed.notes.items ≡ walk.found.notes.items → passed.named ≡ walk.found.named → passed.declared ≡ walk.declared → passed.groups.items ≡ last_groups walk.found.groups.items →
    (lines : List ReadLine) → HasWalked walk lines → HasPassed passed lines
passed_is walk passed notes named declared groups lines had = record {
  notes = notes ∙ had.found.notes;
  named = named ∙ had.found.named;
  declared = declared ∙ had.declared;
  groups = groups ∙ ap last_groups had.found.groups;
}

-- What it means that a configuration has no note of lines.
use Rattle.std.proofs.Common.{◌≡◌, ◌⊎◌, inl, inr, ℕ, Bool, true, false, List, [], ◌∷◌, ◌++◌, map, Option, Some, None, refl, sym, ap, subst, ◌∙◌, append_assoc}
use Rattle.std.specs.Prelude.{◌&&◌, ◌||◌, not, Ok, option_map, if◌then◌else◌}
use Rattle.std.specs.List.{AllByRecursion, cons_option}
use Rattle.std.specs.Map.{lookup}
use Rattle.std.specs.Option.{option_or, option_to_list}
use Rattle.std.specs.Str.{bytes_eq}
use Rattle.std.proofs.lemmas.List.Elements.{filter_map-append}
use Rattle.np_text.specs.Lines.{numbered_lines}
use Rattle.np_text.specs.Words.{words_of}
use Rattle.np_lines.specs.Declaring.{added_if}
use Rattle.np_lines.specs.Skipping.{is_skipped}
use Rattle.np_acl.specs.declared.kinds.ListKind.{ListKind}
use Rattle.np_acl.specs.declared.kinds.Way.{Way}
use Rattle.np_acl_read.specs.declared.config.Config.{Config}
use Rattle.np_acl_read.specs.declared.declared.Declared.{Declared}
use Rattle.np_acl_read.specs.declared.declared.Section.{Section}
use Rattle.np_acl_read.specs.declared.declared.Section.TheVariants as sections
use Rattle.np_acl_read.specs.declared.statement.NumberedEntry.{NumberedEntry}
use Rattle.np_acl_read.specs.declared.statement.Statement.{Statement}
use Rattle.np_acl_read.specs.declared.statement.Statement.TheVariants as statement
use Rattle.np_acl_read.specs.Adding.{added}
use Rattle.np_acl_read.specs.Declaring.{closed_list, declared_by_config, entries_of, lists_of, plain_lists}
use Rattle.np_acl_read.specs.Judging.{in_list}
use Rattle.np_acl_read.specs.Reading.{config_of}
use Rattle.np_notes.specs.declared.kinds.Kind.{Kind}
use Rattle.np_notes.specs.declared.kinds.Kind.TheVariants as kinds
use Rattle.np_notes.specs.declared.note.Note.TheVariants as notes
use Rattle.np_notes.specs.Clean.{BeginsForeignList, GoesOn, IsAmong, IsClean, IsEntryOf, IsIndented, LooksLikeEntry, MayStandAtInterface, MayStandInList, SaysEntry, StandsInForeignList, StandsInSection}
use Rattle.np_notes.specs.Foreign.{begins_foreign_list, goes_on, is_foreign_open, is_outer}
use Rattle.np_notes.specs.Kinds.{is_other_kind, is_skipped_kind, kind_of}
use Rattle.np_notes.specs.LineNotes.{closed_list_name, has_strayed, is_not_modelled, is_stray_entry, line_notes, line_notes_after, note_of_line, note_of_shape, strayed_from}
use Rattle.np_notes.specs.ReadLines.{ReadLine, Shape, line_kind, read_lines, shape_of, statements_of}
use Rattle.np_notes.specs.Shape.{are_heading, is_indented}
use Rattle.np_notes.specs.Shaping.{foreign_after, strayed_after}
use Rattle.np_notes.proofs.AmongLaws.{entry_among}
use Rattle.np_notes.proofs.NameLaws.{lists_declared}
use Rattle.np_notes.proofs.FactLaws.{IsLookingIn, IsSaidIn, looking_in, said_in}
use Rattle.np_notes.proofs.ReadLaws.{IsReading, config_read, declared_after, reading_is, reading_rest, statements_read}
use Rattle.np_notes.proofs.WalkLaws.{foreign_more, strayed_more}

-- ---- no note

-- the lines before a place, the last one first
abbrev onto : List ReadLine → List ReadLine → List ReadLine
onto [] earlier = earlier
onto (line ∷ before) earlier = onto before (line ∷ earlier)

none_of : {X : Type 0} (o : Option X) (rest : List X) → option_to_list o ++ rest ≡ [] → (o ≡ None) × (rest ≡ [])
none_of None rest is = (refl, is)
none_of (Some x) rest is = absurd (cc)

-- where lines have no note the lines after some have none
clean_rest : (earlier before rest : List ReadLine) → line_notes_after earlier (before ++ rest) ≡ [] → line_notes_after (onto before earlier) rest ≡ []
clean_rest earlier [] rest clean = clean
clean_rest earlier (line ∷ before) rest clean =
    clean_rest (line ∷ earlier) before rest (none_of (note_of_line earlier line) (line_notes_after (line ∷ earlier) (before ++ rest)) clean).1

-- a line without a note looks like no stray entry, and applies no list after a line at the margin
without : (shape : Shape) (section : Section) (foreign strayed : Bool) → note_of_shape shape section foreign strayed ≡ None → (is_stray_entry shape foreign ≡ false) × (strayed_from shape section strayed ≡ None)
without shape section foreign strayed none = entry (is_stray_entry shape foreign) none where
  group : (o : Option (List ℕ)) → option_map (λ interface. notes.StrayGroup shape.number interface) o ≡ None → o ≡ None
  group None is = refl
  group (Some x) is = absurd (cc)

  other : (b : Bool) (o : Option (List ℕ)) → (if b then Some (notes.NotModelled shape.number) else option_map (λ interface. notes.StrayGroup shape.number interface) o) ≡ None → o ≡ None
  other true o is = absurd (cc)
  other false o is = group o is

  closing : (closed : Option (List ℕ)) (b : Bool) (o : Option (List ℕ)) → option_or (option_map (λ list. notes.Closes shape.number list) closed) (if b then Some (notes.NotModelled shape.number) else option_map (λ interface. notes.StrayGroup shape.number interface) o) ≡ None → o ≡ None
  closing None b o is = other b o is
  closing (Some x) b o is = absurd (cc)

  entry : (b : Bool) → (if b then Some (notes.StrayEntry shape.number) else option_or (option_map (λ list. notes.Closes shape.number list) (closed_list_name shape section)) (if is_not_modelled shape section then Some (notes.NotModelled shape.number) else option_map (λ interface. notes.StrayGroup shape.number interface) (strayed_from shape section strayed))) ≡ None
      → (b ≡ false) × (strayed_from shape section strayed ≡ None)
  entry true is = absurd (cc)
  entry false is = (refl, closing (closed_list_name shape section) (is_not_modelled shape section) (strayed_from shape section strayed) is)

-- ---- tests and what they mean

or_either : (a b : Bool) → (a || b) ≡ true → (a ≡ true) ⊎ (b ≡ true)
or_either true b is = inl refl
or_either false b is = inr is

or_neither : (a b : Bool) → (a || b) ≡ false → (a ≡ false) × (b ≡ false)
or_neither true b is = absurd (cc)
or_neither false b is = (refl, is)

and_both : (a b : Bool) → (a && b) ≡ true → (a ≡ true) × (b ≡ true)
and_both true b is = (refl, is)
and_both false b is = absurd (cc)

not_true : (b : Bool) → not b ≡ true → b ≡ false
not_true true is = absurd (cc)
not_true false is = refl

skipped_is : (kind : Kind) → is_skipped_kind kind ≡ true → kind ≡ kinds.Skipped
skipped_is kinds.Skipped is = refl
skipped_is kinds.Interface is = absurd (cc)
skipped_is kinds.NumberedList is = absurd (cc)
skipped_is kinds.ListSection is = absurd (cc)
skipped_is kinds.Group is = absurd (cc)
skipped_is kinds.ListLine is = absurd (cc)
skipped_is kinds.Other is = absurd (cc)

other_is : (kind : Kind) → is_other_kind kind ≡ true → kind ≡ kinds.Other
other_is kinds.Skipped is = absurd (cc)
other_is kinds.Interface is = absurd (cc)
other_is kinds.NumberedList is = absurd (cc)
other_is kinds.ListSection is = absurd (cc)
other_is kinds.Group is = absurd (cc)
other_is kinds.ListLine is = absurd (cc)
other_is kinds.Other is = refl

going_on : (line : ReadLine) → goes_on (shape_of line) ≡ true → GoesOn line
going_on line is =
    elim (or_either (is_skipped_kind (line_kind line)) (is_other_kind (line_kind line) && is_indented line.bytes) is) [
      | inl skipped ↦ inl (skipped_is (line_kind line) skipped)
      | inr other ↦ let both = and_both (is_other_kind (line_kind line)) (is_indented line.bytes) other in inr (both.1, other_is (line_kind line) both.0)
    ]

begins_list : (line : ReadLine) → begins_foreign_list (shape_of line) ≡ true → BeginsForeignList line
begins_list line is =
    let parts = and_both (is_outer (shape_of line)) (are_heading (words_of line.bytes)) is in
    let outer = and_both (is_other_kind (line_kind line)) (not (is_indented line.bytes)) parts.0 in
    record { kind = other_is (line_kind line) outer.0; margin = not_true (is_indented line.bytes) outer.1; heading = parts.1 }

-- ---- lists of other kinds

-- where one is open after lines, one of them begins it and those after it go on; or all go on, and it was open before
foreign_since : (before earlier : List ReadLine) → is_foreign_open (onto before earlier) ≡ true
    → ((front : List ReadLine) × (opener : ReadLine) × (between : List ReadLine) × (before ≡ front ++ opener ∷ between) × BeginsForeignList opener × AllByRecursion GoesOn between)
    ⊎ (AllByRecursion GoesOn before × (is_foreign_open earlier ≡ true))
foreign_since [] earlier is = inr (tt, is)
foreign_since (line ∷ before) earlier is =
    elim (foreign_since before (line ∷ earlier) is) [
      | inl found ↦ inl (line ∷ found.0, found.1, found.2, ap (λ l. line ∷ l) found.3, found.4, found.5)
      | inr past ↦ by (goes_on (shape_of line)) refl past.0 (sym (foreign_more earlier line) ∙ past.1)
    ]
  where
    by : (b : Bool) → goes_on (shape_of line) ≡ b → AllByRecursion GoesOn before → (if b then is_foreign_open earlier else begins_foreign_list (shape_of line)) ≡ true
        → ((front : List ReadLine) × (opener : ReadLine) × (between : List ReadLine) × (line ∷ before ≡ front ++ opener ∷ between) × BeginsForeignList opener × AllByRecursion GoesOn between)
        ⊎ (AllByRecursion GoesOn (line ∷ before) × (is_foreign_open earlier ≡ true))
    by true on all open_before = inr ((going_on line on, all), open_before)
    by false off all begins = inl ([], line, before, refl, begins_list line begins, all)

-- a line that goes on where such a list is open stands in it
stands_in : (before : List ReadLine) (line : ReadLine) → (goes_on (shape_of line) && is_foreign_open (onto before [])) ≡ true → StandsInForeignList before line
stands_in before line is =
    let both = and_both (goes_on (shape_of line)) (is_foreign_open (onto before [])) is in
    elim (foreign_since before [] both.1) [
      | inl found ↦ record { front = found.0; opener = found.1; between = found.2; split = found.3; begins = found.4; goes_on = found.5; stands = going_on line both.0 }
      | inr past ↦ absurd (let e : false ≡ true = past.1 in cc)
    ]

-- ---- entries

-- what is known of a line that is an entry of the list whose section is open
record IsOpenEntry (line : ReadLine) (entry : NumberedEntry) (kind : ListKind) : Type 0 where
  stands : line.section ≡ sections.List entry.list kind
  said : line.said ≡ Some (statement.SectionEntry entry)
  says : SaysEntry kind (words_of line.bytes) entry.entry

-- a line that looks like an entry is one, or declares nothing where no list's section is open
looking : (declared : Declared) (line : ReadLine) (after : List ReadLine) → IsReading declared (line ∷ after) → LooksLikeEntry line
    → ((entry : NumberedEntry) × (kind : ListKind) × IsOpenEntry line entry kind) ⊎ ((line.said ≡ Some statement.Other) × (in_list declared.section ≡ false))
looking declared line after reads looks = by line.said refl (looking_in declared line.bytes line.said reads.1 looks) (said_in declared line.bytes line.said reads.1) where
  by : (said : Option Statement) → line.said ≡ said → IsLookingIn declared.section said → IsSaidIn declared.section (words_of line.bytes) said
      → ((entry : NumberedEntry) × (kind : ListKind) × IsOpenEntry line entry kind) ⊎ ((line.said ≡ Some statement.Other) × (in_list declared.section ≡ false))
  by None is looks fact = absurd looks
  by (Some (statement.Interface name)) is looks fact = absurd looks
  by (Some (statement.Section list kind)) is looks fact = absurd looks
  by (Some (statement.Remark list)) is looks fact = absurd looks
  by (Some (statement.ListEntry entry)) is looks fact = absurd looks
  by (Some (statement.SectionEntry entry)) is looks fact = inl (entry, fact.0, record { stands = reads.0 ∙ fact.1; said = is; says = fact.2 })
  by (Some (statement.Group interface way list)) is looks fact = absurd looks
  by (Some statement.Other) is looks fact = inr (is, looks)

-- such a line without a note stands in a list of another kind
noted_unless : (line : ReadLine) (foreign : Bool) → line.said ≡ Some statement.Other → LooksLikeEntry line → is_stray_entry (shape_of line) foreign ≡ false → (goes_on (shape_of line) && foreign) ≡ true
noted_unless line foreign said looks none = by (goes_on (shape_of line) && foreign) refl where
  other : is_other_kind (line_kind line) ≡ true
  other = ap (λ s. is_other_kind (kind_of line.bytes s)) said

  by : (b : Bool) → (goes_on (shape_of line) && foreign) ≡ b → b ≡ true
  by true is = refl
  by false is =
      let stray : is_stray_entry (shape_of line) foreign ≡ true = (λ i. (other i && looks i) && not (is i)) in
      let e : false ≡ true = sym none ∙ stray in
      absurd (cc)

-- the entry of a line is among those of its list
entry_is : (text : List ℕ) (config : Config) (before after : List ReadLine) (line : ReadLine) (entry : NumberedEntry) (kind : ListKind) → config_of text ≡ Ok config → read_lines text ≡ before ++ line ∷ after → IsOpenEntry line entry kind → IsEntryOf config entry.list line
entry_is text config before after line entry kind is split found = record {
  kind = kind;
  entry = entry.entry;
  entries = map (λ e. e.1) (entries_of (statements_of (read_lines text)) entry.list);
  stands = found.stands;
  is_list_line = ap (λ s. kind_of line.bytes s) found.said;
  says = found.says;
  there = ap (λ c. lookup (bytes_eq entry.list) c.lists) (sym (config_read text config is)) ∙ ap (λ l. lookup (bytes_eq entry.list) (plain_lists l)) (lists_declared (statements_of (read_lines text))) ∙ among.0;
  among = among.1;
}
  where
    around : statements_of (read_lines text) ≡ statements_of before ++ statement.SectionEntry entry ∷ statements_of after
    around =
        ap statements_of split
        ∙ filter_map-append (λ l. l.said) before (line ∷ after)
        ∙ ap (λ said. statements_of before ++ cons_option said (statements_of after)) found.said

    among : (lookup (bytes_eq entry.list) (plain_lists (lists_of (statements_of (read_lines text)))) ≡ Some (map (λ e. e.1) (entries_of (statements_of (read_lines text)) entry.list))) × IsAmong entry.entry (map (λ e. e.1) (entries_of (statements_of (read_lines text)) entry.list))
    among = entry_among text (statements_of (read_lines text)) (statements_of before) (statements_of after) entry (statements_read text config is) around

-- each line that looks like an entry is one, but in lists of other kinds
entries_clean : (text : List ℕ) (config : Config) → config_of text ≡ Ok config → line_notes (read_lines text) ≡ []
    → (before after : List ReadLine) (line : ReadLine) → read_lines text ≡ before ++ line ∷ after → LooksLikeEntry line → (StandsInForeignList before line → ⊥) → (list : List ℕ) × IsEntryOf config list line
entries_clean text config is clean before after line split looks outside =
    elim (looking (declared_after (declared_by_config []) before) line after here looks) [
      | inl found ↦ (found.0.list, entry_is text config before after line found.0 found.1 is split found.2)
      | inr stray ↦ absurd (outside (stands_in before line (noted_unless line (is_foreign_open (onto before [])) stray.0 looks (without (shape_of line) line.section (is_foreign_open (onto before [])) (has_strayed (onto before [])) none).0)))
    ]
  where
    here : IsReading (declared_after (declared_by_config []) before) (line ∷ after)
    here = reading_rest (declared_by_config []) before (line ∷ after) (subst (IsReading (declared_by_config [])) split (reading_is (declared_by_config []) (numbered_lines text)))

    none : note_of_line (onto before []) line ≡ None
    none = (none_of (note_of_line (onto before []) line) (line_notes_after (line ∷ onto before []) after) (clean_rest [] before (line ∷ after) (subst (λ l. line_notes l ≡ []) split clean))).0

-- ---- sections of lists

-- in the section of this list, or in none
abbrev IsOpenOrClosed : Section → List ℕ → ListKind → Type 0
IsOpenOrClosed section list kind = (section ≡ sections.List list kind) ⊎ (section ≡ sections.Closed)

-- a line that says this in place of what it says
abbrev saying : ReadLine → Option Statement → ReadLine
saying line said = record { number = line.number; bytes = line.bytes; section = line.section; said = said }

-- what a skipped line and a line of a list leave of a list of another kind
skipped_shut : (earlier : List ReadLine) (line : ReadLine) → is_foreign_open earlier ≡ false → is_foreign_open (saying line None ∷ earlier) ≡ false
skipped_shut earlier line none = foreign_more earlier (saying line None) ∙ by (is_skipped 33 (words_of line.bytes)) where
  by : (b : Bool) → foreign_after (record (shape_of (saying line None)) { kind = if b then kinds.Skipped else kinds.ListLine }) (is_foreign_open earlier) ≡ false
  by true = none
  by false = refl

-- an indented line that declares nothing leaves one as it was
indented_shut : (earlier : List ReadLine) (line : ReadLine) → IsIndented line → is_foreign_open earlier ≡ false → is_foreign_open (saying line (Some statement.Other) ∷ earlier) ≡ false
indented_shut earlier line indented none =
    foreign_more earlier (saying line (Some statement.Other))
    ∙ ap (λ b. foreign_after (record (shape_of (saying line (Some statement.Other))) { indented = b }) (is_foreign_open earlier)) indented
    ∙ none

closed_after : (section : Section) (list : List ℕ) (kind : ListKind) → IsOpenOrClosed section list kind → IsOpenOrClosed (closed_list section) list kind
closed_after section list kind (inl is) = inr (ap closed_list is)
closed_after section list kind (inr is) = inr (ap closed_list is)

indented_other : (line : ReadLine) → MayStandInList (saying line (Some statement.Other)) → IsIndented line
indented_other line (inl is) = absurd (cc)
indented_other line (inr is) = is.0

-- a line of another kind may not stand there
never_there : {kind : Kind} {P : Type 0} → (kind ≡ kinds.Skipped → ⊥) → (kind ≡ kinds.ListLine → ⊥) → (kind ≡ kinds.Other → ⊥) → (kind ≡ kinds.Skipped) ⊎ (P × ((kind ≡ kinds.ListLine) ⊎ (kind ≡ kinds.Other))) → ⊥
never_there skipped lists other (inl is) = skipped is
never_there skipped lists other (inr is) = elim is.1 [ inl one ↦ lists one | inr one ↦ other one ]

-- a line that may stand in a list leaves its section open or closes it, and begins no list of another kind
kept_open : (declared : Declared) (earlier : List ReadLine) (line : ReadLine) (list : List ℕ) (kind : ListKind) → MayStandInList line → is_foreign_open earlier ≡ false → IsOpenOrClosed declared.section list kind
    → IsOpenOrClosed (added_if added declared line.said).section list kind × (is_foreign_open (line ∷ earlier) ≡ false)
kept_open declared earlier line list kind may none section = of line.said may where
  of : (said : Option Statement) → MayStandInList (saying line said) → IsOpenOrClosed (added_if added declared said).section list kind × (is_foreign_open (saying line said ∷ earlier) ≡ false)
  of None may = (section, skipped_shut earlier line none)
  of (Some (statement.SectionEntry entry)) may = (section, foreign_more earlier (saying line (Some (statement.SectionEntry entry))))
  of (Some statement.Other) may = (closed_after declared.section list kind section, indented_shut earlier line (indented_other line may) none)
  of (Some (statement.Interface name)) may = absurd (never_there (λ e. cc) (λ e. cc) (λ e. cc) may)
  of (Some (statement.Section name lists)) may = absurd (never_there (λ e. cc) (λ e. cc) (λ e. cc) may)
  of (Some (statement.Remark name)) may = absurd (never_there (λ e. cc) (λ e. cc) (λ e. cc) may)
  of (Some (statement.ListEntry entry)) may = absurd (never_there (λ e. cc) (λ e. cc) (λ e. cc) may)
  of (Some (statement.Group interface way name)) may = absurd (never_there (λ e. cc) (λ e. cc) (λ e. cc) may)

-- after such lines an indented line that looks like an entry is one of this list
in_section : (declared : Declared) (earlier between after : List ReadLine) (line : ReadLine) (list : List ℕ) (kind : ListKind) → IsReading declared (between ++ line ∷ after) → line_notes_after earlier (between ++ line ∷ after) ≡ [] → is_foreign_open earlier ≡ false → IsOpenOrClosed declared.section list kind
    → AllByRecursion MayStandInList between → LooksLikeEntry line → (entry : NumberedEntry) × (its : ListKind) × IsOpenEntry line entry its × (entry.list ≡ list)
in_section declared earlier [] after line list kind reads clean none section all looks =
    elim (looking declared line after reads looks) [
      | inl found ↦ (found.0, found.1, found.2, own found.0 found.1 (sym reads.0 ∙ found.2.stands) section)
      | inr stray ↦ absurd (shut (noted_unless line (is_foreign_open earlier) stray.0 looks (without (shape_of line) line.section (is_foreign_open earlier) (has_strayed earlier) (none_of (note_of_line earlier line) (line_notes_after (line ∷ earlier) after) clean).0).0))
    ]
  where
    own : (entry : NumberedEntry) (its : ListKind) → declared.section ≡ sections.List entry.list its → IsOpenOrClosed declared.section list kind → entry.list ≡ list
    own entry its stands (inl is) = let both : sections.List entry.list its ≡ sections.List list kind = sym stands ∙ is in cc
    own entry its stands (inr is) = let both : sections.List entry.list its ≡ sections.Closed = sym stands ∙ is in absurd (cc)

    shut : (goes_on (shape_of line) && is_foreign_open earlier) ≡ true → ⊥
    shut is = let e : false ≡ true = sym none ∙ (and_both (goes_on (shape_of line)) (is_foreign_open earlier) is).1 in cc
in_section declared earlier (first ∷ between) after line list kind reads clean none section all looks =
    let kept = kept_open declared earlier first list kind all.0 none section in
    in_section (added_if added declared first.said) (first ∷ earlier) between after line list kind reads.2
    (none_of (note_of_line earlier first) (line_notes_after (first ∷ earlier) (between ++ line ∷ after)) clean).1 kept.1 kept.0 all.1 looks

sections_clean : (text : List ℕ) (config : Config) → config_of text ≡ Ok config → line_notes (read_lines text) ≡ []
    → (before between after : List ReadLine) (opener line : ReadLine) (list : List ℕ) (kind : ListKind) → read_lines text ≡ before ++ opener ∷ (between ++ line ∷ after)
    → opener.said ≡ Some (statement.Section list kind) → AllByRecursion MayStandInList between → IsIndented line → LooksLikeEntry line → IsEntryOf config list line
sections_clean text config is clean before between after opener line list kind split opens all indented looks =
    subst (λ l. IsEntryOf config l line) found.3 (entry_is text config (before ++ opener ∷ between) after line found.0 found.1 is (split ∙ sym (append_assoc before (opener ∷ between) (line ∷ after))) found.2)
  where
    start : Declared
    start = declared_after (declared_by_config []) before

    here : IsReading start (opener ∷ (between ++ line ∷ after))
    here = reading_rest (declared_by_config []) before (opener ∷ (between ++ line ∷ after)) (subst (IsReading (declared_by_config [])) split (reading_is (declared_by_config []) (numbered_lines text)))

    quiet : line_notes_after (onto before []) (opener ∷ (between ++ line ∷ after)) ≡ []
    quiet = clean_rest [] before (opener ∷ (between ++ line ∷ after)) (subst (λ l. line_notes l ≡ []) split clean)

    shut : is_foreign_open (opener ∷ onto before []) ≡ false
    shut = foreign_more (onto before []) opener ∙ ap (λ s. foreign_after (record (shape_of opener) { kind = kind_of opener.bytes s }) (is_foreign_open (onto before []))) opens

    open_now : IsOpenOrClosed (added_if added start opener.said).section list kind
    open_now = inl (ap (λ s. (added_if added start s).section) opens)

    found : (entry : NumberedEntry) × (its : ListKind) × IsOpenEntry line entry its × (entry.list ≡ list)
    found =
        in_section (added_if added start opener.said) (opener ∷ onto before []) between after line list kind here.2
        (none_of (note_of_line (onto before []) opener) (line_notes_after (opener ∷ onto before []) (between ++ line ∷ after)) quiet).1 shut open_now all looks

-- ---- sections of interfaces

-- one of these lines opens this section, and after it stand only lines that may stand there
abbrev IsOpenedAmong : List ReadLine → List ℕ → Type 0
IsOpenedAmong before interface = (front : List ReadLine) × (opener : ReadLine) × (between : List ReadLine) × (before ≡ front ++ opener ∷ between) × (opener.said ≡ Some (statement.Interface interface)) × AllByRecursion MayStandAtInterface between

-- all of these may stand there, in a section that was open before them, and no line at the margin strayed before
abbrev IsOpenedBefore : Declared → List ReadLine → List ReadLine → List ℕ → Type 0
IsOpenedBefore declared earlier before interface = (declared.section ≡ sections.Interface interface) × (has_strayed earlier ≡ false) × AllByRecursion MayStandAtInterface before

closed_interface : (section : Section) (interface : List ℕ) → closed_list section ≡ sections.Interface interface → section ≡ sections.Interface interface
closed_interface sections.Closed interface is = is
closed_interface (sections.Interface name) interface is = is
closed_interface (sections.List name kind) interface is = absurd (cc)

no_list_open : (section : Section) (interface : List ℕ) → section ≡ sections.Interface interface → in_list section ≡ true → ⊥
no_list_open section interface is open_list = let e : false ≡ true = sym (ap in_list is) ∙ open_list in cc

-- a line before a place where an interface's section is open opens it, or it was open before
opened_at : (declared : Declared) (earlier before rest : List ReadLine) (line : ReadLine) (interface : List ℕ) → IsReading declared (line ∷ rest) → (added_if added declared line.said).section ≡ sections.Interface interface → has_strayed (line ∷ earlier) ≡ false → AllByRecursion MayStandAtInterface before
    → IsOpenedAmong (line ∷ before) interface ⊎ IsOpenedBefore declared earlier (line ∷ before) interface
opened_at declared earlier before rest line interface reads section strayed all = of line.said (said_in declared line.bytes line.said reads.1) section (sym (strayed_more earlier line) ∙ strayed) where
  skipped : is_skipped 33 (words_of line.bytes) ≡ true → line_kind (saying line None) ≡ kinds.Skipped
  skipped is = ap (λ (b : Bool). if b then kinds.Skipped else kinds.ListLine) is

  not_strayed : strayed_after (shape_of (saying line None)) (has_strayed earlier) ≡ false → has_strayed earlier ≡ false
  not_strayed is = by (is_skipped 33 (words_of line.bytes)) is where
    by : (b : Bool) → strayed_after (record (shape_of (saying line None)) { kind = if b then kinds.Skipped else kinds.ListLine }) (has_strayed earlier) ≡ false → has_strayed earlier ≡ false
    by true is = is
    by false is = is

  indented : (b : Bool) → (not b || has_strayed earlier) ≡ false → (b ≡ true) × (has_strayed earlier ≡ false)
  indented true is = (refl, is)
  indented false is = absurd (cc)

  of : (said : Option Statement) → IsSaidIn declared.section (words_of line.bytes) said → (added_if added declared said).section ≡ sections.Interface interface → strayed_after (shape_of (saying line said)) (has_strayed earlier) ≡ false
      → IsOpenedAmong (saying line said ∷ before) interface ⊎ IsOpenedBefore declared earlier (saying line said ∷ before) interface
  of None fact section strayed =
      elim fact [
        | inl skip ↦ inr (section, not_strayed strayed, (inl (skipped skip), all))
        | inr remark ↦ absurd (no_list_open declared.section interface section remark.0)
      ]
  of (Some (statement.Interface name)) fact section strayed =
      let same : name ≡ interface = cc in
      inl ([], saying line (Some (statement.Interface name)), before, refl, ap (λ n. Some (statement.Interface n)) same, all)
  of (Some (statement.Section name kind)) fact section strayed = absurd (cc)
  of (Some (statement.Remark name)) fact section strayed = absurd (cc)
  of (Some (statement.ListEntry entry)) fact section strayed = absurd (cc)
  of (Some (statement.SectionEntry entry)) fact section strayed = let e : sections.List entry.list fact.0 ≡ sections.Interface interface = sym fact.1 ∙ section in absurd (cc)
  of (Some (statement.Group at way name)) fact section strayed = inr (section, strayed, (inr (inl refl), all))
  of (Some statement.Other) fact section strayed =
      let both = indented (is_indented line.bytes) strayed in
      inr (closed_interface declared.section interface section, both.1, (inr (inr (both.0, refl)), all))

-- the same of all lines before it
opened_since : (declared : Declared) (earlier before rest : List ReadLine) (interface : List ℕ) → IsReading declared (before ++ rest) → (declared_after declared before).section ≡ sections.Interface interface → has_strayed (onto before earlier) ≡ false
    → IsOpenedAmong before interface ⊎ IsOpenedBefore declared earlier before interface
opened_since declared earlier [] rest interface reads section strayed = inr (section, strayed, tt)
opened_since declared earlier (line ∷ before) rest interface reads section strayed =
    elim (opened_since (added_if added declared line.said) (line ∷ earlier) before rest interface reads.2 section strayed) [
      | inl found ↦ inl (line ∷ found.0, found.1, found.2, ap (λ l. line ∷ l) found.3, found.4, found.5)
      | inr past ↦ opened_at declared earlier before (before ++ rest) line interface reads past.0 past.1 past.2
    ]

closed_first : (declared_by_config []).section ≡ sections.Closed
unfolding declared_by_config
closed_first = refl

groups_clean : (text : List ℕ) → line_notes (read_lines text) ≡ []
    → (before after : List ReadLine) (line : ReadLine) (interface list : List ℕ) (way : Way) → read_lines text ≡ before ++ line ∷ after → line.said ≡ Some (statement.Group interface way list) → StandsInSection before interface line
groups_clean text clean before after line interface list way split says =
    elim (opened_since (declared_by_config []) [] before (line ∷ after) interface all_read stands none) [
      | inl found ↦ record { front = found.0; opener = found.1; between = found.2; split = found.3; opens = found.4; near = found.5; stands = here.0 ∙ stands }
      | inr past ↦ absurd (let e : sections.Closed ≡ sections.Interface interface = sym closed_first ∙ past.0 in cc)
    ]
  where
    all_read : IsReading (declared_by_config []) (before ++ line ∷ after)
    all_read = subst (IsReading (declared_by_config [])) split (reading_is (declared_by_config []) (numbered_lines text))

    start : Declared
    start = declared_after (declared_by_config []) before

    here : IsReading start (line ∷ after)
    here = reading_rest (declared_by_config []) before (line ∷ after) all_read

    stands : start.section ≡ sections.Interface interface
    stands = said_in start line.bytes (Some (statement.Group interface way list)) (here.1 ∙ ap (λ s. Ok s) says)

    noted : note_of_line (onto before []) line ≡ None
    noted = (none_of (note_of_line (onto before []) line) (line_notes_after (line ∷ onto before []) after) (clean_rest [] before (line ∷ after) (subst (λ l. line_notes l ≡ []) split clean))).0

    -- a group after a line that strayed has a note
    unless : (b : Bool) → strayed_from (shape_of (saying line (Some (statement.Group interface way list)))) (sections.Interface interface) b ≡ None → b ≡ false
    unless true is = absurd (cc)
    unless false is = refl

    none : has_strayed (onto before []) ≡ false
    none = unless (has_strayed (onto before []))
        (sym (λ i. strayed_from (shape_of (saying line (says i))) ((here.0 ∙ stands) i) (has_strayed (onto before [])))
        ∙ (without (shape_of line) line.section (is_foreign_open (onto before [])) (has_strayed (onto before [])) noted).1)

-- ---- the whole

pub clean_is : (text : List ℕ) (config : Config) → config_of text ≡ Ok config → line_notes (read_lines text) ≡ [] → IsClean config (read_lines text)
clean_is text config is clean = record {
  entries = entries_clean text config is clean;
  sections = sections_clean text config is clean;
  groups = groups_clean text clean;
}

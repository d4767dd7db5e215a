-- What it means that a configuration has no note of lines.
use Rattle.std.specs.Prelude.{◌≡◌, ◌⊎◌, ℕ, Bool, false, List, ◌∷◌, ◌++◌, map, Some, Ok, IsTrue}
use Rattle.std.specs.List.{AllByRecursion}
use Rattle.std.specs.Map.{lookup}
use Rattle.std.specs.Str.{bytes_eq}
use Rattle.np_text.specs.Lines.{numbered_lines}
use Rattle.np_text.specs.Numbers.{is_numeral}
use Rattle.np_text.specs.Words.{words_of}
use Rattle.np_lines.specs.Reading.{text_says}
use Rattle.np_acl.specs.declared.entries.Entry.{Entry}
use Rattle.np_acl.specs.declared.kinds.ListKind.{ListKind}
use Rattle.np_acl.specs.declared.kinds.Way.{Way}
use Rattle.np_entry_read.specs.Entries.{entry_of}
use Rattle.np_acl_read.specs.declared.config.Config.{Config}
use Rattle.np_acl_read.specs.declared.declared.Section.TheVariants as sections
use Rattle.np_acl_read.specs.declared.statement.Statement.TheVariants as statement
use Rattle.np_acl_read.specs.Declaring.{declared_by_config, section_of}
use Rattle.np_acl_read.specs.Judging.{line_says}
use Rattle.np_acl_read.specs.Words.{action_word}
use Rattle.np_net.specs.Plan.{Plan}
use Rattle.np_net.specs.declared.filtering.Interface.{Interface}
use Rattle.np_notes.specs.declared.kinds.Kind.TheVariants as kinds
use Rattle.np_notes.specs.ReadLines.{ReadLine, line_kind, statements_of}
use Rattle.np_notes.specs.Shape.{are_heading, is_indented, looks_like_entry, word_at}

-- one stands among these
pub record IsAmong {X : Type 0} (one : X) (all : List X) : Type 0 where
  pub front : List X
  pub back : List X
  pub split : all ≡ front ++ one ∷ back

-- ---- the lines of a configuration

-- a line as it is read after these lines
pub record IsReadAfter (before : List ReadLine) (line : ReadLine) : Type 0 where
  pub section : line.section ≡ section_of (statements_of before)
  pub said : line_says (declared_by_config (statements_of before)) line.bytes ≡ Ok line.said

-- these are the lines of an accepted text, each as it is read after the others
pub record AreItsLines (text : List ℕ) (lines : List ReadLine) : Type 0 where
  pub all : map (λ line. (line.number, line.bytes)) lines ≡ numbered_lines text
  pub statements : text_says (λ before. line_says (declared_by_config before)) text ≡ Ok (statements_of lines)
  pub each : (before after : List ReadLine) (line : ReadLine) → lines ≡ before ++ line ∷ after → IsReadAfter before line

-- ---- single lines

-- a line's first byte, those of 13 at its front apart, is a space or a tab
abbrev pub IsIndented : ReadLine → Type 0
IsIndented line = IsTrue (is_indented line.bytes)

-- a line's first word, or its second one where the first is all digits, is `permit`, `deny`, `dynamic` or `evaluate`
abbrev pub LooksLikeEntry : ReadLine → Type 0
LooksLikeEntry line = IsTrue (looks_like_entry (word_at (words_of line.bytes) 0) (word_at (words_of line.bytes) 1))

-- a line is skipped, or declares nothing and is indented
abbrev pub GoesOn : ReadLine → Type 0
GoesOn line = (line_kind line ≡ kinds.Skipped) ⊎ (IsIndented line × (line_kind line ≡ kinds.Other))

-- a line declares nothing, stands at the margin, and begins a list of another kind
pub record BeginsForeignList (line : ReadLine) : Type 0 where
  pub kind : line_kind line ≡ kinds.Other
  pub margin : is_indented line.bytes ≡ false
  pub heading : IsTrue (are_heading (words_of line.bytes))

-- a line after these stands in a list of another kind: one of them begins it, and those after that one go on, this line too
pub record StandsInForeignList (before : List ReadLine) (line : ReadLine) : Type 0 where
  pub front : List ReadLine
  pub opener : ReadLine
  pub between : List ReadLine
  pub split : before ≡ front ++ opener ∷ between
  pub begins : BeginsForeignList opener
  pub goes_on : AllByRecursion GoesOn between
  pub stands : GoesOn line

-- a line that may stand between the one that opens the section of a list and an entry of it: it is skipped, or is indented and a line of the list or one that declares nothing
abbrev pub MayStandInList : ReadLine → Type 0
MayStandInList line =
    (line_kind line ≡ kinds.Skipped) ⊎ (IsIndented line × ((line_kind line ≡ kinds.ListLine) ⊎ (line_kind line ≡ kinds.Other)))

-- a line that may stand between the one that opens the section of an interface and one that applies a list there: it is skipped, applies a list, or is indented and declares nothing
abbrev pub MayStandAtInterface : ReadLine → Type 0
MayStandAtInterface line =
    (line_kind line ≡ kinds.Skipped) ⊎ ((line_kind line ≡ kinds.Group) ⊎ (IsIndented line × (line_kind line ≡ kinds.Other)))

-- ---- entries

-- these words say this entry of a list of this kind: there may be a number first; then comes its action, and what follows says the rest
pub record SaysEntry (kind : ListKind) (words : List (List ℕ)) (entry : Entry) : Type 0 where
  pub permit : Bool
  pub rest : List (List ℕ)
  pub split : (words ≡ action_word permit ∷ rest) ⊎ ((number : List ℕ) × IsTrue (is_numeral number) × (words ≡ number ∷ action_word permit ∷ rest))
  pub means : entry_of kind permit rest ≡ Ok entry

-- a line is an entry of this list of the configuration: it stands in the list's section, its words say an entry, and that is among the entries of the list
pub record IsEntryOf (config : Config) (list : List ℕ) (line : ReadLine) : Type 0 where
  pub kind : ListKind
  pub entry : Entry
  pub entries : List Entry
  pub stands : line.section ≡ sections.List list kind
  pub is_list_line : line_kind line ≡ kinds.ListLine
  pub says : SaysEntry kind (words_of line.bytes) entry
  pub there : lookup (bytes_eq list) config.lists ≡ Some entries
  pub among : IsAmong entry entries

-- ---- the whole

-- a line that applies a list stands in its interface's section, and only such lines between the one that opened the section and it
pub record StandsInSection (before : List ReadLine) (interface : List ℕ) (line : ReadLine) : Type 0 where
  pub front : List ReadLine
  pub opener : ReadLine
  pub between : List ReadLine
  pub split : before ≡ front ++ opener ∷ between
  pub opens : opener.said ≡ Some (statement.Interface interface)
  pub near : AllByRecursion MayStandAtInterface between
  pub stands : line.section ≡ sections.Interface interface

-- What it means that an accepted configuration with these lines has no note of lines: each line that looks like an entry and stands in no list of another kind is an entry of a list; after the line that opens a list's section, with only lines that may stand in a list between the two, an indented line that looks like an entry is an entry of that list; and each line that applies a list stands in its interface's section.
pub record IsClean (config : Config) (lines : List ReadLine) : Type 0 where
  pub entries : (before after : List ReadLine) (line : ReadLine) → lines ≡ before ++ line ∷ after →
      LooksLikeEntry line → (StandsInForeignList before line → ⊥) → (list : List ℕ) × IsEntryOf config list line
  pub sections : (before between after : List ReadLine) (opener line : ReadLine) (list : List ℕ) (kind : ListKind) → lines ≡ before ++ opener ∷ (between ++ line ∷ after) →
      opener.said ≡ Some (statement.Section list kind) → AllByRecursion MayStandInList between → IsIndented line → LooksLikeEntry line → IsEntryOf config list line
  pub groups : (before after : List ReadLine) (line : ReadLine) (interface list : List ℕ) (way : Way) → lines ≡ before ++ line ∷ after →
      line.said ≡ Some (statement.Group interface way list) → StandsInSection before interface line

-- ---- names

-- a line opens the section of an interface of this name
pub record IsOpened (lines : List ReadLine) (name : List ℕ) : Type 0 where
  pub line : ReadLine
  pub among : IsAmong line lines
  pub opens : line.said ≡ Some (statement.Interface name)

-- the device has an interface of this name in the network
pub record HasInterface (net : Plan) (device : ℕ) (name : List ℕ) : Type 0 where
  pub interface : Interface
  pub among : IsAmong interface net.interfaces
  pub its_device : interface.device ≡ device
  pub its_name : interface.name ≡ name

-- the configuration has a list of this name, and that has an entry
pub record HasEntries (config : Config) (list : List ℕ) : Type 0 where
  pub first : Entry
  pub others : List Entry
  pub there : lookup (bytes_eq list) config.lists ≡ Some (first ∷ others)

-- a line applies no list at this interface in this way
abbrev pub AppliesNone : List ℕ → Way → ReadLine → Type 0
AppliesNone interface way line = (list : List ℕ) → line.said ≡ Some (statement.Group interface way list) → ⊥

-- What it means that an accepted configuration with these lines, as that of this device, has no note of names: the lines open the section of each of the device's interfaces, and the last line that applies a list at an interface in a way names an interface of the device, and a list that is there and has entries.
pub record IsNamed (net : Plan) (device : ℕ) (config : Config) (lines : List ReadLine) : Type 0 where
  pub interfaces : (interface : Interface) → IsAmong interface net.interfaces → interface.device ≡ device → IsOpened lines interface.name
  pub applied : (before after : List ReadLine) (line : ReadLine) (interface list : List ℕ) (way : Way) → lines ≡ before ++ line ∷ after →
      line.said ≡ Some (statement.Group interface way list) → AllByRecursion (AppliesNone interface way) after → HasInterface net device interface × HasEntries config list

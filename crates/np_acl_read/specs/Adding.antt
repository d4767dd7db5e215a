-- What is declared with one more statement.
use Rattle.std.specs.Prelude.{ℕ, ◌+◌, ◌<◌, List, [], ◌∷◌, ◌++◌, map, unwrap_or, if◌then◌else◌}
use Rattle.std.specs.List.{list_any}
use Rattle.std.specs.Map.{lookup}
use Rattle.std.specs.Str.{bytes_eq}
use Rattle.indexmap.specs.IndexMap.{insert_entry as put}
use Rattle.np_acl.specs.declared.entries.Entry.{Entry}
use Rattle.np_acl_read.specs.declared.declared.Declared.{Declared}
use Rattle.np_acl_read.specs.declared.limits.TheConstants.{ENTRY_LIMIT}
use Rattle.np_acl_read.specs.declared.statement.NumberedEntry.{NumberedEntry}
use Rattle.np_acl_read.specs.declared.statement.Statement.{Statement}
use Rattle.np_acl_read.specs.declared.statement.Statement.TheVariants as statement
use Rattle.np_acl_read.specs.Declaring.{section_after, with_entry}
use Rattle.np_acl_read.specs.Groups.{with_group}

-- lists by their names, with the entries of each
abbrev pub Numbered : Type 0
Numbered = List (List ℕ × List (ℕ × Entry))

-- lists with one of this name
abbrev pub with_list : Numbered → List ℕ → Numbered
with_list lists name = if list_any (bytes_eq name) (map (λ list. list.0) lists) then lists else lists ++ (name, []) ∷ []

-- the entries of the list of this name
abbrev pub entries_named : Numbered → List ℕ → List (ℕ × Entry)
entries_named lists name = unwrap_or (lookup (bytes_eq name) lists) []

-- lists with one more entry in the one of this name, which is made after the others where it isn't there
abbrev pub with_entry_at : Numbered → List ℕ → ℕ × Entry → Numbered
with_entry_at lists name entry = put bytes_eq lists name (with_entry (entries_named lists name) entry)

-- what is declared with one more entry, and with this section open
abbrev pub with_numbered : Declared → NumberedEntry → Declared
with_numbered declared entry =
    record declared { lists = with_entry_at declared.lists entry.list (entry.number, entry.entry); entries = declared.entries + 1 }

-- the lists, groups and entries with what a statement declares of them
abbrev pub told : Declared → Statement → Declared
told declared (statement.Interface name) = declared
told declared (statement.Section list kind) = record declared { lists = with_list declared.lists list }
told declared (statement.Remark list) = record declared { lists = with_list declared.lists list }
told declared (statement.ListEntry entry) = with_numbered declared entry
told declared (statement.SectionEntry entry) = with_numbered declared entry
told declared (statement.Group interface way list) = record declared { groups = with_group declared.groups way interface list }
told declared statement.Other = declared

-- what is declared with one more statement
abbrev pub added : Declared → Statement → Declared
added declared said = record (told declared said) { section = section_after declared.section said }

-- the entries of one configuration, at most
abbrev pub entry_limit : ℕ
entry_limit = ENTRY_LIMIT

-- a statement that may stand after what is declared: there is room for its entry
abbrev pub Fits : Declared → Statement → Type 0
Fits declared (statement.Interface name) = Unit {0}
Fits declared (statement.Section list kind) = Unit {0}
Fits declared (statement.Remark list) = Unit {0}
Fits declared (statement.ListEntry entry) = declared.entries < entry_limit
Fits declared (statement.SectionEntry entry) = declared.entries < entry_limit
Fits declared (statement.Group interface way list) = Unit {0}
Fits declared statement.Other = Unit {0}

-- a statement that needs no room
abbrev pub NeedsNoRoom : Statement → Type 0
NeedsNoRoom (statement.Interface name) = Unit {0}
NeedsNoRoom (statement.Section list kind) = Unit {0}
NeedsNoRoom (statement.Remark list) = Unit {0}
NeedsNoRoom (statement.ListEntry entry) = ⊥
NeedsNoRoom (statement.SectionEntry entry) = ⊥
NeedsNoRoom (statement.Group interface way list) = Unit {0}
NeedsNoRoom statement.Other = Unit {0}

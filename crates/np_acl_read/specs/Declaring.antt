-- What the statements of a configuration declare.
use Rattle.std.specs.Prelude.{ℕ, Bool, true, false, List, [], ◌∷◌, ◌++◌, length, map, fold, Option, Some, None, if◌then◌else◌}
use Rattle.std.specs.List.{filter_map, list_any}
use Rattle.std.specs.BTreeMap.{insert_entry}
use Rattle.indexmap.specs.IndexMap.{insert_entry as put}
use Rattle.std.specs.Ordering.{nat_cmp}
use Rattle.std.specs.Str.{bytes_eq}
use Rattle.np_acl.specs.declared.entries.Entry.{Entry}
use Rattle.np_acl_read.specs.declared.config.Config.{Config}
use Rattle.np_acl_read.specs.Applied.{Applied}
use Rattle.np_acl.specs.declared.kinds.Way.{Way}
use Rattle.np_acl.specs.declared.kinds.Way.TheVariants.{Inward, Outward}
use Rattle.np_acl_read.specs.declared.declared.Declared.{Declared}
use Rattle.np_acl_read.specs.declared.declared.Section.{Section}
use Rattle.np_acl_read.specs.declared.declared.Section.TheVariants as sections
use Rattle.np_acl_read.specs.declared.statement.Statement.{Statement}
use Rattle.np_acl_read.specs.declared.statement.Statement.TheVariants as statement
use Rattle.np_acl_read.specs.declared.statement.NumberedEntry.{NumberedEntry}

-- ---- sections

-- another line closes a list's section, and leaves an interface's open
abbrev pub closed_list : Section → Section
closed_list sections.Closed = sections.Closed
closed_list (sections.Interface name) = sections.Interface name
closed_list (sections.List name kind) = sections.Closed

-- the section that is open after a statement
abbrev pub section_after : Section → Statement → Section
section_after before (statement.Interface name) = sections.Interface name
section_after before (statement.Section list kind) = sections.List list kind
section_after before (statement.Remark list) = sections.Closed
section_after before (statement.ListEntry entry) = sections.Closed
section_after before (statement.SectionEntry entry) = before
section_after before (statement.Group interface way list) = before
section_after before statement.Other = closed_list before

-- the section that statements leave open
abbrev pub section_of : List Statement → Section
section_of statements = fold section_after sections.Closed statements

-- ---- lists

-- the list that a statement names, which is there from then on
abbrev pub list_in : Statement → Option (List ℕ)
list_in (statement.Interface name) = None
list_in (statement.Section list kind) = Some list
list_in (statement.Remark list) = Some list
list_in (statement.ListEntry entry) = Some entry.list
list_in (statement.SectionEntry entry) = Some entry.list
list_in (statement.Group interface way list) = None
list_in statement.Other = None

-- names with one more, after the others, where it isn't there
abbrev pub with_name : List (List ℕ) → List ℕ → List (List ℕ)
with_name names name = if list_any (bytes_eq name) names then names else names ++ name ∷ []

-- the names of the lists, in the order in which they first appear
abbrev pub names_of : List Statement → List (List ℕ)
names_of statements = fold with_name [] (filter_map list_in statements)

-- the entry that a statement declares
abbrev pub entry_in : Statement → Option NumberedEntry
entry_in (statement.Interface name) = None
entry_in (statement.Section list kind) = None
entry_in (statement.Remark list) = None
entry_in (statement.ListEntry entry) = Some entry
entry_in (statement.SectionEntry entry) = Some entry
entry_in (statement.Group interface way list) = None
entry_in statement.Other = None

-- an entry with its number, where it is one of this list
abbrev pub entry_of_list : List ℕ → NumberedEntry → Option (ℕ × Entry)
entry_of_list name entry = if bytes_eq name entry.list then Some (entry.number, entry.entry) else None

-- entries by their numbers, with one more at its place
abbrev pub with_entry : List (ℕ × Entry) → ℕ × Entry → List (ℕ × Entry)
with_entry entries entry = insert_entry nat_cmp entries entry.0 entry.1

-- entries in the order of their numbers
abbrev pub in_order : List (ℕ × Entry) → List (ℕ × Entry)
in_order entries = fold with_entry [] entries

-- the entries of a list, as statements declare them, with their numbers
abbrev pub declared_in : List Statement → List ℕ → List (ℕ × Entry)
declared_in statements name = filter_map (entry_of_list name) (filter_map entry_in statements)

-- the entries of a list, in the order of their numbers
abbrev pub entries_of : List Statement → List ℕ → List (ℕ × Entry)
entries_of statements name = in_order (declared_in statements name)

-- the lists, each with its entries
abbrev pub lists_of : List Statement → List (List ℕ × List (ℕ × Entry))
lists_of statements = map (λ name. (name, entries_of statements name)) (names_of statements)

-- ---- groups

-- the same way
abbrev pub is_same_way : Way → Way → Bool
is_same_way Inward Inward = true
is_same_way Inward Outward = false
is_same_way Outward Inward = false
is_same_way Outward Outward = true

-- the interface at which a statement applies a list in this way, and the list
abbrev pub group_in : Way → Statement → Option (List ℕ × List ℕ)
group_in way (statement.Interface name) = None
group_in way (statement.Section list kind) = None
group_in way (statement.Remark list) = None
group_in way (statement.ListEntry entry) = None
group_in way (statement.SectionEntry entry) = None
group_in way (statement.Group interface other list) = if is_same_way way other then Some (interface, list) else None
group_in way statement.Other = None

-- the lists at their interfaces, with one more: it counts at its interface, whatever was applied there before
abbrev pub with_list_at : List (List ℕ × List ℕ) → List ℕ × List ℕ → List (List ℕ × List ℕ)
with_list_at lists group = put bytes_eq lists group.0 group.1

-- the interfaces at which statements apply lists in this way, each with the list
abbrev pub groups_in : List Statement → Way → List (List ℕ × List ℕ)
groups_in statements way = filter_map (group_in way) statements

-- the lists that statements apply in this way: at each interface the one that is applied last, in the order in which the interfaces first appear
abbrev pub applied_by : List Statement → Way → List (List ℕ × List ℕ)
applied_by statements way = fold with_list_at [] (groups_in statements way)

-- the lists that statements apply
abbrev pub groups_of : List Statement → Applied
groups_of statements = record { inward = applied_by statements Inward; outward = applied_by statements Outward }

-- ---- the whole

-- what the statements of a configuration declare
unfoldable pub declared_by_config : List Statement → Declared
declared_by_config statements = record {
  section = section_of statements;
  lists = lists_of statements;
  groups = groups_of statements;
  entries = length (filter_map entry_in statements);
}

-- lists of entries without their numbers
abbrev pub plain_lists : List (List ℕ × List (ℕ × Entry)) → List (List ℕ × List Entry)
plain_lists lists = map (λ list. (list.0, map (λ entry. entry.1) list.1)) lists

-- the configuration of what is declared
abbrev pub config_with : Declared → Config
config_with declared = record { lists = plain_lists declared.lists; groups = declared.groups }

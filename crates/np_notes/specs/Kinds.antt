-- The kind of a line.
use Rattle.std.specs.Prelude.{ℕ, Bool, true, false, List, Option, Some, None, if◌then◌else◌}
use Rattle.np_text.specs.Words.{words_of}
use Rattle.np_lines.specs.Skipping.{is_skipped}
use Rattle.np_acl_read.specs.declared.statement.Statement.{Statement}
use Rattle.np_acl_read.specs.declared.statement.Statement.TheVariants as statement
use Rattle.np_notes.specs.declared.kinds.Kind.{Kind}
use Rattle.np_notes.specs.declared.kinds.Kind.TheVariants as kinds

-- the kind of a line that declares this: nothing where it is skipped, or is a remark in the section of a list
abbrev pub kind_of : List ℕ → Option Statement → Kind
kind_of line None = if is_skipped 33 (words_of line) then kinds.Skipped else kinds.ListLine
kind_of line (Some (statement.Interface name)) = kinds.Interface
kind_of line (Some (statement.Section list kind)) = kinds.ListSection
kind_of line (Some (statement.Remark list)) = kinds.NumberedList
kind_of line (Some (statement.ListEntry entry)) = kinds.NumberedList
kind_of line (Some (statement.SectionEntry entry)) = kinds.ListLine
kind_of line (Some (statement.Group interface way list)) = kinds.Group
kind_of line (Some statement.Other) = kinds.Other

-- a line that is skipped
abbrev pub is_skipped_kind : Kind → Bool
is_skipped_kind kinds.Skipped = true
is_skipped_kind kinds.Interface = false
is_skipped_kind kinds.NumberedList = false
is_skipped_kind kinds.ListSection = false
is_skipped_kind kinds.Group = false
is_skipped_kind kinds.ListLine = false
is_skipped_kind kinds.Other = false

-- a line that opens the section of an interface
abbrev pub is_interface_kind : Kind → Bool
is_interface_kind kinds.Skipped = false
is_interface_kind kinds.Interface = true
is_interface_kind kinds.NumberedList = false
is_interface_kind kinds.ListSection = false
is_interface_kind kinds.Group = false
is_interface_kind kinds.ListLine = false
is_interface_kind kinds.Other = false

-- a line that applies a list at an interface
abbrev pub is_group_kind : Kind → Bool
is_group_kind kinds.Skipped = false
is_group_kind kinds.Interface = false
is_group_kind kinds.NumberedList = false
is_group_kind kinds.ListSection = false
is_group_kind kinds.Group = true
is_group_kind kinds.ListLine = false
is_group_kind kinds.Other = false

-- a line that declares nothing, and isn't skipped
abbrev pub is_other_kind : Kind → Bool
is_other_kind kinds.Skipped = false
is_other_kind kinds.Interface = false
is_other_kind kinds.NumberedList = false
is_other_kind kinds.ListSection = false
is_other_kind kinds.Group = false
is_other_kind kinds.ListLine = false
is_other_kind kinds.Other = true

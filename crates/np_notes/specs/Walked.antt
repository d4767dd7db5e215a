-- What is known after some lines of a configuration.
use Rattle.std.specs.Prelude.{◌≡◌, ℕ, List, [], ◌++◌, reverse}
use Rattle.np_acl_read.specs.Declaring.{declared_by_config}
use Rattle.np_notes.specs.declared.context.Context.{Context}
use Rattle.np_notes.specs.declared.passed.Passed.{Passed}
use Rattle.np_notes.specs.declared.walk.Findings.{Findings}
use Rattle.np_notes.specs.declared.walk.Walk.{Walk}
use Rattle.np_notes.specs.Foreign.{is_foreign_open}
use Rattle.np_notes.specs.LineNotes.{has_strayed, line_notes}
use Rattle.np_notes.specs.NameNotes.{groups_of, interfaces_named, last_groups}
use Rattle.np_notes.specs.Naming.{with_each}
use Rattle.np_notes.specs.ReadLines.{ReadLine, lines_from, statements_of}

-- the context after these lines, of which the last stands first
pub record IsContext (context : Context) (earlier : List ReadLine) : Type 0 where
  pub foreign : context.foreign ≡ is_foreign_open earlier
  pub strayed : context.strayed ≡ has_strayed earlier

-- what these lines have
pub record HasFound (found : Findings) (before : List ReadLine) : Type 0 where
  pub context : IsContext found.context (reverse before)
  pub notes : found.notes.items ≡ line_notes before
  pub named : found.named ≡ with_each [] (interfaces_named before)
  pub groups : found.groups.items ≡ groups_of before

-- what is known after these lines
pub record HasWalked (walk : Walk) (before : List ReadLine) : Type 0 where
  pub declared : walk.declared ≡ declared_by_config (statements_of before)
  pub found : HasFound walk.found before

-- with numbered lines that are left, the lines after which this is known are all
abbrev pub LeavesOf : Walk → List (ℕ × List ℕ) → List ReadLine → Type 0
LeavesOf walk left all = (before : List ReadLine) × HasWalked walk before × (before ++ lines_from walk.declared left ≡ all)

-- what the reading of these lines passed over
pub record HasPassed (passed : Passed) (lines : List ReadLine) : Type 0 where
  pub notes : passed.notes.items ≡ line_notes lines
  pub named : passed.named ≡ with_each [] (interfaces_named lines)
  pub declared : passed.declared ≡ declared_by_config (statements_of lines)
  pub groups : passed.groups.items ≡ last_groups (groups_of lines)

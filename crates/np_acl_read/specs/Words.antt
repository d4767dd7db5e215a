-- Single words of a configuration.
use Rattle.std.specs.Prelude.{ℕ, Bool, true, false, ◌||◌, nat_le, ◌&&◌, List, Option, Some, None, Ok, Err, codes, if◌then◌else◌}
use Rattle.std.specs.Str.{bytes_eq}
use Rattle.np_acl.specs.declared.kinds.ListKind.{ListKind}
use Rattle.np_acl.specs.declared.kinds.ListKind.TheVariants.{Extended, Standard}
use Rattle.np_acl.specs.declared.kinds.Way.{Way}
use Rattle.np_acl.specs.declared.kinds.Way.TheVariants.{Inward, Outward}
use Rattle.np_lines.specs.Judging.{Judged}
use Rattle.np_entry_read.specs.declared.fault.ConfigWhy.{ConfigWhy}
use Rattle.np_entry_read.specs.declared.fault.ConfigWhy.TheVariants as why

-- the way of `in` or `out`
abbrev pub way_of : List ℕ → Judged ConfigWhy Way
way_of word =
    if bytes_eq word (codes "in") then Ok Inward else
    (if bytes_eq word (codes "out") then Ok Outward else Err why.BadEntry)

-- `permit` or `deny`: whether an entry permits
abbrev pub action_of : List ℕ → Option Bool
action_of word =
    if bytes_eq word (codes "permit") then Some true else
    (if bytes_eq word (codes "deny") then Some false else None)

-- the word of an entry that permits, or of one that denies
abbrev pub action_word : Bool → List ℕ
action_word permit = if permit then codes "permit" else codes "deny"

-- a number between two others, both of them meant
abbrev pub is_between : ℕ → ℕ → ℕ → Bool
is_between low high n = nat_le low n && nat_le n high

-- the kind of the list of a number: 100 to 199 and 2000 to 2699 are extended, 1 to 99 and 1300 to 1999 are standard, and other numbers are no list's
abbrev pub kind_of_number : ℕ → Option ListKind
kind_of_number n =
    if is_between 100 199 n || is_between 2000 2699 n then Some Extended else
    (if is_between 1 99 n || is_between 1300 1999 n then Some Standard else None)

-- What a shelf in memory shows.
use Rattle.std.specs.Prelude.{ℕ, min, Bool, ◌&&◌, ◌||◌, List, [], Option, None, length, drop, is_some, is_none, if◌then◌else◌, unwrap_or}
use Rattle.std.specs.Option.{option_map}
use Rattle.std.specs.FinMap.{get}
use Rattle.np_outside.specs.Calls.{raised, is_next_named, at_step}
use Rattle.np_outside.specs.Files.{Files}
use Rattle.np_outside.specs.MemFiles.{files_of, rest_of}
use Rattle.np_outside.specs.declared.mem_shelf.MemShelf.{MemShelf}

-- the files, the rest of the begun file, how many bytes a read gives at most, how many calls there were, the
-- numbers of those that are to fail, in the order in which they were named, how many failed, and how many of
-- these its user could not have brought about
pub record ShelfState : Type 0 where
  pub files : Files
  pub rest : Option (List ℕ)
  pub most : Option ℕ
  pub made : ℕ
  pub named : List ℕ
  pub faults : ℕ
  pub breaks : ℕ

-- the state of a shelf
abbrev pub state : MemShelf → ShelfState
state s = record {
  files = files_of s.files.items;
  rest = rest_of s.files.items s.begun;
  most = s.most;
  made = s.plan.made;
  named = s.plan.named.items;
  faults = s.faults;
  breaks = s.breaks;
}

-- a begin fails if it is a named call, and if the name is not there
abbrev pub begin_fails : ShelfState → List ℕ → Bool
begin_fails s name = is_next_named s.made s.named || is_none (get s.files name)

-- what the begin of a name leaves: only a named call breaks where the name is there
abbrev pub after_begin : ShelfState → List ℕ → ShelfState
after_begin s name = record s {
  rest = (if is_next_named s.made s.named then None else get s.files name);
  made = raised s.made;
  faults = (if begin_fails s name then raised s.faults else s.faults);
  breaks = (if is_next_named s.made s.named && is_some (get s.files name) then raised s.breaks else s.breaks);
}

-- a read fails if it is a named call, and if no file is begun
abbrev pub read_fails : ShelfState → Bool
read_fails s = is_next_named s.made s.named || is_none s.rest

-- how many bytes a read that succeeds gives into so much room
abbrev pub count_given : ShelfState → ℕ → ℕ
count_given s room = at_step s.most (min room (length (unwrap_or s.rest [])))

-- what a read into so much room leaves: only a named call breaks where a file is begun
abbrev pub after_read : ShelfState → ℕ → ShelfState
after_read s room = record s {
  rest = (if read_fails s then s.rest else option_map (drop (count_given s room)) s.rest);
  made = raised s.made;
  faults = (if read_fails s then raised s.faults else s.faults);
  breaks = (if is_next_named s.made s.named && is_some s.rest then raised s.breaks else s.breaks);
}

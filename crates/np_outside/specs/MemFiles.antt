-- The files that a shelf in memory keeps.
use Rattle.std.specs.Prelude.{ℕ, List, [], map, reverse, drop, unwrap_or, slice_get, Option}
use Rattle.std.specs.Option.{option_map}
use Rattle.std.specs.FinMap.{from_entries}
use Rattle.np_outside.specs.Files.{Files}
use Rattle.np_outside.specs.declared.mem_shelf.NamedFile.{NamedFile}
use Rattle.np_outside.specs.declared.mem_shelf.Place.{Place}

-- a file, as its name and its bytes
abbrev pub entry : NamedFile → List ℕ × List ℕ
entry f = (f.name.items, f.bytes.items)

-- the files by their names: the newest file of a name, which is the last in the list, counts
unfoldable pub files_of : List NamedFile → Files
files_of fs = from_entries (reverse (map entry fs))

-- the bytes of the file at this index
unfoldable pub bytes_at : List NamedFile → ℕ → List ℕ
bytes_at fs i = unwrap_or (option_map (λ f. f.bytes.items) (slice_get fs i)) []

-- what is left of the begun file
abbrev pub rest_of : List NamedFile → Option Place → Option (List ℕ)
rest_of fs begun = option_map (λ p. drop p.at (bytes_at fs p.file)) begun

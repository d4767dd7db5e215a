-- The limit of a file.
use Rattle.std.specs.Prelude.{ℕ}

-- the bytes of a file
abbrev pub file_limit : ℕ
file_limit = 16777216

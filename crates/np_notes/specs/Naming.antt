-- Names that are gathered without repeats.
use Rattle.std.specs.Prelude.{ℕ, List, fold}
use Rattle.np_acl_read.specs.Declaring.{with_name}

-- names with each of these that isn't there, after the others
abbrev pub with_each : List (List ℕ) → List (List ℕ) → List (List ℕ)
with_each names more = fold with_name names more

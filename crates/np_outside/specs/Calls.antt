-- Which calls of an object in memory are to fail, and how much a call moves.
use Rattle.std.specs.Prelude.{ℕ, ◌+◌, ◌-◌, ◌^◌, min, Bool, ◌&&◌, List, [], ◌∷◌, Option, if◌then◌else◌, nat_lt, nat_le, ◌==◌}
use Rattle.std.specs.Option.{option_map_or}
use Rattle.std.specs.List.{list_any}

-- a count after one more, which stands still at the last value of its type
abbrev pub raised : ℕ → ℕ
raised n = min (n + 1) (2 ^ 64 - 1)

-- whether the next call is a named one: calls are counted from 1, and one that comes after 2 ^ 64 - 1
-- counted calls has no number
abbrev pub is_next_named : ℕ → List ℕ → Bool
is_next_named made named = nat_lt made (2 ^ 64 - 1) && list_any (λ k. k == made + 1) named

-- how many of the named calls have a number up to that of the last call made
unfoldable pub count_passed : ℕ → List ℕ → ℕ
count_passed made [] = 0
count_passed made (k ∷ named) = (if nat_le k made then 1 else 0) + count_passed made named

-- n, but at most what one call moves, where that is set
abbrev pub at_step : Option ℕ → ℕ → ℕ
at_step most n = option_map_or (λ m. min n m) most n

-- Which of several things that are declared under one key counts.
use Rattle.std.specs.Prelude.{List, [], ◌∷◌, Bool, Option, Some, None, if◌then◌else◌}
use Rattle.std.specs.Option.{option_or}

-- the value of the last pair whose key passes, if there is one
abbrev pub last_with : {K V : Type 0} → (K → Bool) → List (K × V) → Option V
last_with test [] = None
last_with test (pair ∷ pairs) = option_or (last_with test pairs) (if test pair.0 then Some pair.1 else None)

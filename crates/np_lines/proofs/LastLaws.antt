-- The last of several.
use Rattle.std.proofs.Common.{◌≡◌, List, [], ◌∷◌, ◌++◌, Option, Some, refl}
use Rattle.np_lines.specs.Declaring.{last_or}

-- one more is the last
pub last_more : {X : Type 0} (before : Option X) (xs : List X) (x : X) → last_or before (xs ++ x ∷ []) ≡ Some x
last_more before [] x = refl
last_more before (first ∷ xs) x = last_more (Some first) xs x

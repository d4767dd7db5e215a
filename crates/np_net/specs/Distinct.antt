-- Lists without repeats.
use Rattle.std.specs.Prelude.{◌≡◌, ℕ, Bool, false, ◌&&◌, ◌==◌, List, [], ◌∷◌, ◌++◌}
use Rattle.std.specs.List.{list_any}
use Rattle.std.specs.Str.{bytes_eq}

-- each of these items is equal to none of those seen, and to none before it
abbrev pub AreNewAfter : {X : Type 0} → (X → X → Bool) → List X → List X → Type 0
AreNewAfter eq seen [] = Unit {0}
AreNewAfter eq seen (x ∷ xs) = (list_any (eq x) seen ≡ false) × AreNewAfter eq (seen ++ x ∷ []) xs

-- no item is equal to one before it
abbrev pub AreDistinct : {X : Type 0} → (X → X → Bool) → List X → Type 0
AreDistinct eq xs = AreNewAfter eq [] xs

-- the same device and the same name
abbrev pub same_place : ℕ × List ℕ → ℕ × List ℕ → Bool
same_place x y = x.0 == y.0 && bytes_eq x.1 y.1

-- A stack as the list of its items, the top last.
use Rattle.std.specs.Prelude.{List, [], ◌∷◌, Option, Some, None}

-- the last item, if there is one
abbrev pub top_of : {X : Type 0} → List X → Option X
top_of [] = None
top_of (x ∷ []) = Some x
top_of (_ ∷ y ∷ ys) = top_of (y ∷ ys)

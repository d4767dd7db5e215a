-- The top of a stack.
use Rattle.std.proofs.Common.{◌≡◌, ◌-◌, suc, List, [], ◌∷◌, ◌++◌, Some, None, length, slice_get, refl, arith}
use Rattle.np_stack.specs.HeaderStack.{top_of}

-- the top is the item at the last place
pub top_of-last : {X : Type 0} → (xs : List X) → top_of xs ≡ slice_get xs (length xs - 1)
top_of-last [] = refl
top_of-last (x ∷ []) = refl
top_of-last (x ∷ y ∷ ys) =
    let outer : suc (suc (length ys)) - 1 ≡ suc (length ys) = omega arith in
    let inner : suc (length ys) - 1 ≡ length ys = omega arith in
    let below = rw inner at (top_of-last (y ∷ ys)) in
    rw outer below

-- the item that was pushed last is on top
pub top_of-push : {X : Type 0} → (xs : List X) (x : X) → top_of (xs ++ x ∷ []) ≡ Some x
top_of-push [] x = refl
top_of-push (y ∷ []) x = refl
top_of-push (y ∷ z ∷ zs) x = top_of-push (z ∷ zs) x

-- only an empty stack has no top
pub top_of-none : {X : Type 0} → (xs : List X) → top_of xs ≡ None → xs ≡ []
top_of-none [] none = refl
top_of-none (x ∷ []) none = cc
top_of-none (x ∷ y ∷ ys) none =
    let nil : y ∷ ys ≡ [] = top_of-none (y ∷ ys) none in
    cc

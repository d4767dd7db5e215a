-- Lists with one more item.
use Rattle.std.proofs.Common.{◌≡◌, ◌+◌, Bool, false, List, [], ◌∷◌, ◌++◌, length, refl, ap, arith}
use Rattle.std.specs.List.{AllByRecursion, list_any}
use Rattle.std.proofs.lemmas.List.{append_assoc}
use Rattle.np_net.specs.Distinct.{AreNewAfter}

-- what holds of each item and of one more holds of all of them
pub all_more : {X : Type 0} (P : X → Type 0) (xs : List X) (x : X) → AllByRecursion P xs → P x → AllByRecursion P (xs ++ x ∷ [])
all_more P [] x all one = (one, tt)
all_more P (y ∷ xs) x all one = (all.0, all_more P xs x all.1 one)

-- what follows from what holds of each item holds of each
pub all_weaker : {X : Type 0} (P Q : X → Type 0) (xs : List X) → ((x : X) → P x → Q x) → AllByRecursion P xs → AllByRecursion Q xs
all_weaker P Q [] weaker all = tt
all_weaker P Q (x ∷ xs) weaker all = (weaker x all.0, all_weaker P Q xs weaker all.1)

-- an item that is new after all others goes after them
pub new_more : {X : Type 0} (eq : X → X → Bool) (seen xs : List X) (x : X) → AreNewAfter eq seen xs → list_any (eq x) (seen ++ xs) ≡ false → AreNewAfter eq seen (xs ++ x ∷ [])
new_more eq seen [] x new none = (rw (seen_alone seen) none, tt) where
  seen_alone : {X : Type 0} (seen : List X) → seen ≡ seen ++ []
  seen_alone [] = refl
  seen_alone (y ∷ seen) = ap (λ ys. y ∷ ys) (seen_alone seen)
new_more eq seen (y ∷ xs) x new none = (new.0, new_more eq (seen ++ y ∷ []) xs x new.1 (rw (append_assoc seen (y ∷ []) xs) none))

-- one more is one longer
pub length_more : {X : Type 0} (xs : List X) (x : X) → length (xs ++ x ∷ []) ≡ length xs + 1
length_more [] x = refl
length_more (y ∷ xs) x = let h = length_more xs x in omega arith

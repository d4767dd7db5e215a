-- Items of lists, by their places.
use Rattle.std.proofs.Common.{◌≡◌, ℕ, zero, suc, ◌+◌, ◌<◌, Bool, true, false, ◌||◌, cond, List, [], ◌∷◌, ◌++◌, length, map, take, get_or, Option, Some, None, sym, refl, ap, subst, arith, add-one, append-nil, append_assoc}
use Rattle.std.specs.List.{AllByRecursion, list_any}
use Rattle.std.specs.Map.{lookup}
use Rattle.np_net.specs.Distinct.{AreNewAfter}

-- what holds of each item holds of the one at a place
pub all_at : {X : Type 0} (P : X → Type 0) (xs : List X) (n : ℕ) (x : X) → n < length xs → x ≡ get_or xs n x → AllByRecursion P xs → P x
all_at P [] n x lt is all = absurd (omega arith)
all_at P (y ∷ ys) zero x lt is all = let same : y ≡ x = sym is in subst P same all.0
all_at P (y ∷ ys) (suc n) x lt is all = all_at P ys n x (omega arith) is all.1

-- the same, whatever stands past the end
pub all_index : {X : Type 0} (P : X → Type 0) (xs : List X) (n : ℕ) (d : X) → n < length xs → AllByRecursion P xs → P (get_or xs n d)
all_index P [] n d lt all = absurd (omega arith)
all_index P (y ∷ ys) zero d lt all = all.0
all_index P (y ∷ ys) (suc n) d lt all = all_index P ys n d (omega arith) all.1

module _ {X K : Type 0} (eq : K → K → Bool) (key : X → K) where
  -- of keys without repeats, the one at a place is equal to none before it
  pub new_at : (seen : List K) (xs : List X) (n : ℕ) (x : X) → n < length xs → x ≡ get_or xs n x → AreNewAfter eq seen (map key xs) → list_any (eq (key x)) (seen ++ map key (take n xs)) ≡ false
  new_at seen [] n x lt is new = absurd (omega arith)
  new_at seen (y ∷ ys) zero x lt is new = let same : x ≡ y = is in rw (append-nil seen, same) new.0
  new_at seen (y ∷ ys) (suc n) x lt is new = rw (← append_assoc seen (key y ∷ []) (map key (take n ys))) (new_at (seen ++ key y ∷ []) ys n x (omega arith) is new.1)

-- what one more item gives
pub map_next : {X Y : Type 0} (f : X → Y) (xs : List X) (n : ℕ) (x : X) → n < length xs → x ≡ get_or xs n x → map f (take (n + 1) xs) ≡ map f (take n xs) ++ f x ∷ []
map_next f [] n x lt is = absurd (omega arith)
map_next f (y ∷ ys) zero x lt is = let same : x ≡ y = is in rw same refl
map_next f (y ∷ ys) (suc n) x lt is = rw (add-one (suc n)) (ap (λ l. f y ∷ l) (rw (add-one n) at (map_next f ys n x (omega arith) is)))

-- neither the first entry nor one after it
none_by_cases : {V : Type 0} (here there : Bool) (own : V) (rest : Option V) → (there ≡ false → rest ≡ None) → (here || there) ≡ false → cond here (Some own) rest ≡ None
none_by_cases true there own rest later none = cc
none_by_cases false there own rest later none = later none

-- a key that none of the entries has finds nothing
pub lookup_none : {X K V : Type 0} (test : K → Bool) (key : X → K) (value : X → V) (xs : List X) → list_any test (map key xs) ≡ false → lookup test (map (λ x. (key x, value x)) xs) ≡ None
lookup_none test key value [] none = refl
lookup_none test key value (x ∷ xs) none =
    none_by_cases (test (key x)) (list_any test (map key xs)) (value x) (lookup test (map (λ x. (key x, value x)) xs)) (lookup_none test key value xs) none

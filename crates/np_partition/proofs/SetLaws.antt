-- What a set of classes is once it is made, and what the rows of sets are.
use Rattle.std.proofs.Common.{◌≡◌, ℕ, ◌<◌, ◌≤◌, Bool, false, List, [], ◌∷◌, length, get_or, refl, sym, ◌∙◌, ap, arith, ext_get_or}
use Rattle.std.specs.List.{All}
use Rattle.std.proofs.lemmas.List.{length-map, get_or-map}
use Rattle.np_atomset.specs.AtomSet.{has_member}
use Rattle.np_partition.specs.Partition.{row}
use Rattle.np_partition.specs.Product.{members_at, sets_at}

-- ---- a set

-- While the set is made: of the first n of the numbers it says whether the other set has them, and it has no place after.
pub record IsSetTo (old : List Bool) (numbers : List ℕ) (n : ℕ) (members : List Bool) : Type 0 where
  pub long : length members ≡ length numbers
  pub done : (k : ℕ) → k < n → get_or members k false ≡ has_member old (get_or numbers k 0)
  pub left : (k : ℕ) → n ≤ k → get_or members k false ≡ false

-- after the last number
pub set_all : (old : List Bool) (numbers : List ℕ) (n : ℕ) (members : List Bool) → IsSetTo old numbers n members → length numbers ≤ n → members ≡ members_at old numbers
set_all old numbers n members so_far all =
    ext_get_or false members (members_at old numbers) (so_far.long ∙ sym (length-map numbers (λ k. has_member old k)))
    (λ k l.
    let within : k < length numbers = omega (arith, so_far.long) in
    so_far.done k (omega arith) ∙ sym (get_or-map (λ i. has_member old i) numbers k 0 false within))

-- ---- rows

-- the row of a place is that of the number there
pub row_at : (sets : List (List Bool)) (numbers : List ℕ) (k : ℕ) → k < length numbers → row (sets_at sets numbers) k ≡ row sets (get_or numbers k 0)
row_at [] numbers k within = refl
row_at (old ∷ sets) numbers k within = λ i. get_or-map (λ n. has_member old n) numbers k 0 false within i ∷ row_at sets numbers k within i

-- the sets have a place for each number
pub sizes_at : (sets : List (List Bool)) (numbers : List ℕ) (n : ℕ) → length numbers ≡ n → All (λ set. length set ≡ n) (sets_at sets numbers)
sizes_at sets numbers n e k d within =
    ap length (get_or-map (λ old. members_at old numbers) sets k [] d (omega (arith, within, length-map sets (λ old. members_at old numbers))))
    ∙ length-map numbers (λ i. has_member (get_or sets k []) i) ∙ e

-- Sets of atoms as lists of truth values: what the members are of a set that was made from others.
use Rattle.std.proofs.Common.{count_by, ◌≡◌, ◌≢◌, ℕ, zero, suc, ◌+◌, ◌<◌, ◌≤◌, ◌⊎◌, ◌&&◌, ◌||◌, Bool, true, false, not, cond, List, [], ◌∷◌, length, replicate, set, refl, sym, ◌∙◌, ap, inl, inr, arith, ext_get_or, get_or-set_same, get_or-set_other}
use Rattle.std.proofs.lemmas.List.{length-replicate, get_or-replicate, get_or_past}
use Rattle.std.proofs.lemmas.Bool.{cases_lt}
use Rattle.std.proofs.lemmas.List.Sums.{sum_by-cons}
use Rattle.std.proofs.lemmas.Slice.Eq.{slice_eq-Decides}
use Rattle.std.specs.Bool.{Decides, beq}
use Rattle.std.specs.Cmp.{booleans_Decides}
use Rattle.std.specs.Cmp.Lexicographic.{pointwise}
use Rattle.np_atomset.specs.AtomSet.{has_member, combine, joined, met, without}

-- two sets of one length with the same members are one set
pub same_members : (xs ys : List Bool) → length xs ≡ length ys → ((k : ℕ) → has_member xs k ≡ has_member ys k) → xs ≡ ys
same_members xs ys len same = ext_get_or false xs ys len (λ k _. same k)

-- no place past the end of a set is a member
pub has_member-past : (xs : List Bool) (k : ℕ) → length xs ≤ k → has_member xs k ≡ false
has_member-past xs k past = get_or_past xs k false past

pub length-combine : (f : Bool → Bool → Bool) (xs ys : List Bool) → length xs ≡ length ys → length (combine f xs ys) ≡ length xs
length-combine f [] ys h = refl
length-combine f (x ∷ xs) [] h = absurd (omega arith)
length-combine f (x ∷ xs) (y ∷ ys) h =
    let shorter : length xs ≡ length ys = omega arith in
    let rest = length-combine f xs ys shorter in
    omega arith

pub has_member-combine : (f : Bool → Bool → Bool) → f false false ≡ false → (xs ys : List Bool) → length xs ≡ length ys
    → (k : ℕ) → has_member (combine f xs ys) k ≡ f (has_member xs k) (has_member ys k)
has_member-combine f none [] [] h k = sym none
has_member-combine f none [] (y ∷ ys) h k = absurd (omega arith)
has_member-combine f none (x ∷ xs) [] h k = absurd (omega arith)
has_member-combine f none (x ∷ xs) (y ∷ ys) h zero = refl
has_member-combine f none (x ∷ xs) (y ∷ ys) h (suc k) =
    let shorter : length xs ≡ length ys = omega arith in
    has_member-combine f none xs ys shorter k

-- a member is a place of the set
pub member_within : (s : List Bool) (n : ℕ) → has_member s n ≡ true → n < length s
member_within s n is =
    elim (cases_lt n (length s)) [
      | inl within ↦ within
      | inr past ↦ let out : has_member s n ≡ false = has_member-past s n past in let no : false ≡ true = sym out ∙ is in cc
    ]

-- what `==` on two sets says
pub equal_sets : (xs ys : List Bool) (r : Bool) → r ≡ pointwise beq xs ys → Decides r (xs ≡ ys)
equal_sets xs ys r is = slice_eq-Decides booleans_Decides xs ys r is

-- ---- no member, and every member

pub has_member-none : (n k : ℕ) → has_member (replicate n false) k ≡ false
has_member-none n k = elim (cases_lt k n) [
  | inl within ↦ get_or-replicate n k false false within
  | inr past ↦ get_or_past (replicate n false) k false (omega (arith, length-replicate {A = Bool} n false))
]

pub has_member-all : (n k : ℕ) → k < n → has_member (replicate n true) k ≡ true
has_member-all n k within = get_or-replicate n k true false within

-- ---- one member more or less

pub has_member-set_same : (xs : List Bool) (n : ℕ) (b : Bool) → n < length xs → has_member (set xs n b) n ≡ b
has_member-set_same xs n b within = get_or-set_same xs n b false within

pub has_member-set_other : (xs : List Bool) (n : ℕ) (b : Bool) (k : ℕ) → k ≢ n → has_member (set xs n b) k ≡ has_member xs k
has_member-set_other xs n b k other = get_or-set_other xs n k b false other

-- ---- joins, meets and differences

pub has_member-joined : (xs ys : List Bool) → length xs ≡ length ys
    → (k : ℕ) → has_member (joined xs ys) k ≡ (has_member xs k || has_member ys k)
has_member-joined xs ys h k = has_member-combine (λ x y. x || y) refl xs ys h k

pub has_member-met : (xs ys : List Bool) → length xs ≡ length ys
    → (k : ℕ) → has_member (met xs ys) k ≡ (has_member xs k && has_member ys k)
has_member-met xs ys h k = has_member-combine (λ x y. x && y) refl xs ys h k

pub length-join_met : (s t u : List Bool) → length s ≡ length t → length s ≡ length u → length (joined s (met t u)) ≡ length s
length-join_met s t u len_t len_u =
    let common : length (met t u) ≡ length t = length-combine (λ x y. x && y) t u (omega arith) in
    length-combine (λ x y. x || y) s (met t u) (omega arith)

pub has_member-without : (xs ys : List Bool) → length xs ≡ length ys
    → (k : ℕ) → has_member (without xs ys) k ≡ (has_member xs k && not (has_member ys k))
has_member-without xs ys h k = has_member-combine (λ x y. x && not y) refl xs ys h k

count-cons : (b : Bool) (xs : List Bool) → count_by (λ c. c) (b ∷ xs) ≡ cond b 1 0 + count_by (λ c. c) xs
count-cons b xs = sum_by-cons (λ c. cond c 1 0) b xs

-- a join either leaves the set as it is, or has more members
pub count_by-joined : (xs ys : List Bool) → length xs ≡ length ys
    → (joined xs ys ≡ xs) ⊎ (count_by (λ b. b) xs < count_by (λ b. b) (joined xs ys))
count_by-joined [] ys h = inl refl
count_by-joined (x ∷ xs) [] h = absurd (omega arith)
count_by-joined (true ∷ xs) (y ∷ ys) h =
    let shorter : length xs ≡ length ys = omega arith in
    elim (count_by-joined xs ys shorter) [
      | inl same ↦ inl (ap (λ zs. true ∷ zs) same)
      | inr more ↦ inr (omega (arith, count-cons true xs, count-cons true (joined xs ys)))
    ]
count_by-joined (false ∷ xs) (false ∷ ys) h =
    let shorter : length xs ≡ length ys = omega arith in
    elim (count_by-joined xs ys shorter) [
      | inl same ↦ inl (ap (λ zs. false ∷ zs) same)
      | inr more ↦ inr (omega (arith, count-cons false xs, count-cons false (joined xs ys)))
    ]
count_by-joined (false ∷ xs) (true ∷ ys) h =
    let shorter : length xs ≡ length ys = omega arith in
    elim (count_by-joined xs ys shorter) [
      | inl same ↦
          let counts : count_by (λ b. b) (joined xs ys) ≡ count_by (λ b. b) xs = ap (count_by (λ b. b)) same in
          inr (omega (arith, count-cons false xs, count-cons true (joined xs ys)))
      | inr more ↦ inr (omega (arith, count-cons false xs, count-cons true (joined xs ys)))
    ]

-- so a join that changed the set made it larger, and one can be made larger no more often than it has places
pub count_by-joined_grew : (xs ys : List Bool) → length xs ≡ length ys → joined xs ys ≢ xs
    → count_by (λ b. b) xs < count_by (λ b. b) (joined xs ys)
count_by-joined_grew xs ys h grew =
    elim (count_by-joined xs ys h) [ inl same ↦ absurd (grew same) | inr more ↦ more ]

-- The sets of atoms, for callers.
use Rattle.std.proofs.Common.{◌≡◌, ℕ, ◌<◌, Bool, false, List, [], length, get_or, map, sym, ◌∙◌, ap, subst}
use Rattle.std.proofs.lemmas.List.{length-map, get_or-map as get_or_inside}
use Rattle.np_atomset.specs.AtomSet.{has_member}
use Rattle.np_space.specs.declared.headers.Header.{Header}
use Rattle.np_atoms.specs.declared.Atoms.{Atoms}
use Rattle.np_atoms.specs.Atoms.{cut_sets, AreAtoms}

-- the set of the k-th cut
set_at : (tests : List (Header → Bool)) (atoms : Atoms) (k : ℕ) (e : Header → Bool) → AreAtoms tests atoms → k < length tests → get_or atoms.cuts k [] ≡ map (get_or tests k e) atoms.leasts
set_at tests atoms k e are l =
    ap (λ xs. get_or xs k []) are.sets
    ∙ get_or_inside (λ (test : Header → Bool). map test atoms.leasts) tests k e [] l

-- there is a set for each cut, and each is a set of the atoms
pub sets_counted : (tests : List (Header → Bool)) (atoms : Atoms) → AreAtoms tests atoms → (length atoms.cuts ≡ length tests) × ((k : ℕ) → k < length atoms.cuts → length (get_or atoms.cuts k []) ≡ length atoms.leasts)
sets_counted tests atoms are = (
  counted,
  λ k l.
      ap length (set_at tests atoms k (λ h. false) are (subst (λ n. k < n) counted l))
      ∙ length-map atoms.leasts (get_or tests k (λ h. false)),
)
  where
    counted : length atoms.cuts ≡ length tests
    counted = ap length are.sets ∙ length-map tests (λ test. map test atoms.leasts)

-- which has an atom where the cut has the atom's least member
pub answer_said : (tests : List (Header → Bool)) (atoms : Atoms) (n k : ℕ) (d : Header) (e : Header → Bool) → AreAtoms tests atoms → n < length atoms.leasts → k < length tests → has_member (get_or atoms.cuts k []) n ≡ get_or tests k e (get_or atoms.leasts n d)
answer_said tests atoms n k d e are l m =
    ap (λ xs. get_or xs n false) (set_at tests atoms k e are m)
    ∙ get_or_inside (get_or tests k e) atoms.leasts n d false l

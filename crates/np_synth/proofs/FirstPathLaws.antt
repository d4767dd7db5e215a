-- There is one first path.
use Rattle.std.proofs.Common.{◌≡◌, ℕ, inl, inr, Bool, true, List, [], ◌∷◌, refl, arith, sym, ◌∙◌, nat_cmp}
use Rattle.std.specs.Prelude.{IsTrue}
use Rattle.std.specs.Ordering.{is_eq, is_le, ordering_reverse}
use Rattle.std.specs.Cmp.Lexicographic.{slice_cmp}
use Rattle.std.specs.declared.cmp.Ordering.{Ordering}
use Rattle.std.specs.declared.cmp.Ordering.TheVariants.{Less, Equal, Greater}
use Rattle.std.proofs.lemmas.Cmp.{nat_list_cmp_total}
use Rattle.std.proofs.lemmas.Slice.Eq.{bytes_eq-Decides}
use Rattle.std.proofs.lemmas.Map.Text.{is_eq-slice_cmp}
use Rattle.np_net.specs.declared.filtering.Interface.{Interface}
use Rattle.np_flow.specs.Carrying.{numbers_of, IsShorterOrFirst, IsFirstPath}

-- the same interfaces, one hop after another, are the same hops
same_hops : (xs ys : List (ℕ × ℕ)) → numbers_of xs ≡ numbers_of ys → xs ≡ ys
same_hops [] [] same = refl
same_hops [] (y ∷ ys) same = absurd (cc)
same_hops (x ∷ xs) [] same = absurd (cc)
same_hops (x ∷ xs) (y ∷ ys) same =
    let first : x.0 ≡ y.0 = cc in
    let second : x.1 ≡ y.1 = cc in
    let later : numbers_of xs ≡ numbers_of ys = cc in
    let rest : xs ≡ ys = same_hops xs ys later in
    λ i. (first i, second i) ∷ rest i

-- lists of numbers of which neither comes after the other
same_numbers : (xs ys : List ℕ) → IsTrue (is_le (slice_cmp nat_cmp xs ys)) → IsTrue (is_le (slice_cmp nat_cmp ys xs)) → xs ≡ ys
same_numbers xs ys le ge = (bytes_eq-Decides xs ys).0 (sym (is_eq-slice_cmp xs ys) ∙ tied (slice_cmp nat_cmp xs ys) (slice_cmp nat_cmp ys xs) (nat_list_cmp_total.antisymm xs ys) le ge) where
  tied : (o r : Ordering) → o ≡ ordering_reverse r → is_le o ≡ true → is_le r ≡ true → is_eq o ≡ true
  tied Less Less e le ge = absurd (cc)
  tied Less Equal e le ge = absurd (cc)
  tied Less Greater e le ge = absurd (cc)
  tied Equal r e le ge = refl
  tied Greater r e le ge = absurd (cc)

-- hops of which neither come after the other
same_order : (xs ys : List (ℕ × ℕ)) → IsShorterOrFirst xs ys → IsShorterOrFirst ys xs → xs ≡ ys
same_order xs ys (inl shorter) (inl longer) = absurd (omega arith)
same_order xs ys (inl shorter) (inr after) = let e = after.0 in absurd (omega arith)
same_order xs ys (inr before) (inl longer) = let e = before.0 in absurd (omega arith)
same_order xs ys (inr before) (inr after) = same_hops xs ys (same_numbers (numbers_of xs) (numbers_of ys) before.1 after.1)

-- two first paths between two areas are the same
pub one_path : (interfaces : List Interface) (lets : ℕ → Bool) (a b : ℕ) (xs ys : List (ℕ × ℕ)) → IsFirstPath interfaces lets a xs b → IsFirstPath interfaces lets a ys b → xs ≡ ys
one_path interfaces lets a b xs ys p q = same_order xs ys (p.first ys q.carries) (q.first xs p.carries)

-- Alike headers by one test more, and the least members of the classes, which the tests determine.
use Rattle.std.proofs.Common.{◌≡◌, ℕ, zero, suc, ◌<◌, ◌≤◌, Bool, true, false, List, length, get_or, [], ◌∷◌, ◌++◌, refl, sym, ◌∙◌, ap, subst, arith, inl, inr}
use Rattle.std.specs.Prelude.{◌⊎◌}
use Rattle.std.specs.List.{AllByRecursion, Contains}
use Rattle.std.specs.List.Sorted.{IsStrictlySortedBy}
use Rattle.std.specs.declared.cmp.Ordering.{Ordering}
use Rattle.std.specs.declared.cmp.Ordering.TheVariants.{Less, Equal, Greater}
use Rattle.std.specs.Ordering.{ordering_reverse, is_lt}
use Rattle.std.proofs.lemmas.Bool.{cases_lt, cases_eq}
use Rattle.std.proofs.lemmas.Cmp.{tied_itself}
use Rattle.std.proofs.lemmas.List.{map-append}
use Rattle.std.proofs.lemmas.List.Elements.{All-nil, All-cons, All-contains, All-from_recursion, Contains-push, Contains-push_cases, Contains-append_left, Contains-append_right, Contains-append_cases}
use Rattle.np_space.specs.Header.{is_valid_header, header_order, header_le, zeros}
use Rattle.np_space.specs.declared.headers.Header.{Header}
use Rattle.np_space.proofs.HeaderLemmas.{order_total, order_ties}
use Rattle.np_space.proofs.OrderLemmas.{le_both_ways, le_by_fields}
use Rattle.np_space.specs.Classes.{cuts_say, IsAlike, IsLeastAlike, HasAlike, AreLeasts, LeastsAreUnique, OneForEachClass, OneClassWithoutCuts}

-- ---- one test more

-- what one cut more says comes last
said_more : (tests : List (Header → Bool)) (test : Header → Bool) (h : Header) → cuts_say (tests ++ test ∷ []) h ≡ cuts_say tests h ++ test h ∷ []
said_more tests test h = map-append (λ t. t h) tests (test ∷ [])

-- alike headers of which one test more says the same
pub alike_more : (tests : List (Header → Bool)) (test : Header → Bool) (h k : Header) → IsAlike tests h k → test h ≡ test k → IsAlike (tests ++ test ∷ []) h k
alike_more tests test h k alike same =
    said_more tests test h ∙ (λ i. alike i ++ same i ∷ []) ∙ sym (said_more tests test k)

-- headers that are alike by one test more
pub alike_fewer : (tests : List (Header → Bool)) (test : Header → Bool) (h k : Header) → IsAlike (tests ++ test ∷ []) h k → IsAlike tests h k × (test h ≡ test k)
alike_fewer [] test h k alike = (refl, cc)
alike_fewer (t ∷ tests) test h k alike =
    let first : t h ≡ t k = cc in
    let later : cuts_say (tests ++ test ∷ []) h ≡ cuts_say (tests ++ test ∷ []) k = cc in
    let rest = alike_fewer tests test h k later in
    ((λ i. first i ∷ rest.0 i), rest.1)

-- ---- what the order of headers decides

-- no header stands before an equal one
not_before_itself : (x y : Header) → x ≡ y → header_order x y ≡ Less → ⊥
not_before_itself x y e less =
    let tied : header_order x y ≡ Equal = ap (λ w. header_order x w) (sym e) ∙ tied_itself order_total x in cc

-- no two headers stand before each other
not_both_before : (x y : Header) → header_order x y ≡ Less → header_order y x ≡ Less → ⊥
not_both_before x y less more =
    let turned : Less ≡ Greater = sym less ∙ order_total.antisymm x y ∙ ap ordering_reverse more in cc

-- two headers of which the second doesn't stand before the first, and that differ
pub before_from_distinct : (x y : Header) → is_lt (header_order y x) ≡ false → (x ≡ y → ⊥) → header_order x y ≡ Less
before_from_distinct x y upto apart = by (header_order x y) (header_order y x) (order_total.antisymm x y) upto (λ e. apart (order_ties x y e))
  where
    by : (o r : Ordering) → o ≡ ordering_reverse r → is_lt r ≡ false → (o ≡ Equal → ⊥) → o ≡ Less
    by o Less e upto apart = absurd (cc)
    by o Equal e upto apart = absurd (apart e)
    by o Greater e upto apart = e

-- ---- lists that ascend

-- the empty list has no header
none : (x : Header) → Contains [] x → ⊥
none x c = let below : c.0 < 0 = c.1 in omega arith

-- a list has its first header
here : (x : Header) (xs : List Header) → Contains (x ∷ xs) x
here x xs = Contains-append_left (x ∷ []) xs x (Contains-push [] x)

-- a list has the headers of its rest
later : (x : Header) (xs : List Header) (z : Header) → Contains xs z → Contains (x ∷ xs) z
later x xs z c = Contains-append_right (x ∷ []) xs z c

-- a header of a list is its first or in its rest
head_or_later : (x : Header) (xs : List Header) (z : Header) → Contains (x ∷ xs) z → (x ≡ z) ⊎ Contains xs z
head_or_later x xs z c =
    elim (Contains-append_cases (x ∷ []) xs z c) [ inl first ↦ only (Contains-push_cases [] x z first) | inr rest ↦ inr rest ]
  where
    only : Contains [] z ⊎ (x ≡ z) → (x ≡ z) ⊎ Contains xs z
    only (inl c) = absurd (none z c)
    only (inr e) = inl e

-- the first elements of two such lists with the same elements are the same
same_heads : (x y : Header) (xs ys : List Header) → AllByRecursion (λ z. header_order x z ≡ Less) xs → AllByRecursion (λ z. header_order y z ≡ Less) ys → Contains (y ∷ ys) x → Contains (x ∷ xs) y → x ≡ y
same_heads x y xs ys up up' c d =
    elim (head_or_later y ys x c) [
      | inl e ↦ sym e
      | inr in_ys ↦
          elim (head_or_later x xs y d) [
            | inl e ↦ e
            | inr in_xs ↦
                absurd (not_both_before x y (All-contains (λ z. header_order x z ≡ Less) xs y (All-from_recursion (λ z. header_order x z ≡ Less) xs up) in_xs) (All-contains (λ z. header_order y z ≡ Less) ys x (All-from_recursion (λ z. header_order y z ≡ Less) ys up') in_ys))
          ]
    ]

-- and what comes after the first of one comes after the first of the other
after_heads : (x y : Header) (xs ys : List Header) → x ≡ y → AllByRecursion (λ z. header_order x z ≡ Less) xs → ((z : Header) → Contains (x ∷ xs) z → Contains (y ∷ ys) z) → (z : Header) → Contains xs z → Contains ys z
after_heads x y xs ys e up among z c =
    elim (head_or_later y ys z (among z (later x xs z c))) [
      | inl p ↦
          absurd (not_before_itself x z (e ∙ p) (All-contains (λ w. header_order x w ≡ Less) xs z (All-from_recursion (λ w. header_order x w ≡ Less) xs up) c))
      | inr q ↦ q
    ]

-- lists that ascend and have the same headers are equal
same_lists : (xs ys : List Header) → IsStrictlySortedBy header_order xs → IsStrictlySortedBy header_order ys → ((z : Header) → Contains xs z → Contains ys z) → ((z : Header) → Contains ys z → Contains xs z) → xs ≡ ys
unfolding IsStrictlySortedBy
same_lists [] [] up up' f g = refl
same_lists [] (y ∷ ys) up up' f g = absurd (none y (g y (here y ys)))
same_lists (x ∷ xs) [] up up' f g = absurd (none x (f x (here x xs)))
same_lists (x ∷ xs) (y ∷ ys) up up' f g =
    let heads : x ≡ y = same_heads x y xs ys up.0 up'.0 (f x (here x xs)) (g y (here y ys)) in
    let tails : xs ≡ ys = same_lists xs ys up.1 up'.1 (after_heads x y xs ys heads up.0 f) (after_heads y x ys xs (sym heads) up'.0 g) in
    (λ i. heads i ∷ tails i)

-- ---- the leasts are unique

-- a least member of one list is one of the other
among : (tests : List (Header → Bool)) (xs ys : List Header) → AreLeasts tests xs → AreLeasts tests ys → (z : Header) → Contains xs z → Contains ys z
among tests xs ys a b z c =
    let first : IsLeastAlike tests z = All-contains (IsLeastAlike tests) xs z a.each c in
    let found : HasAlike tests ys z = b.reached z first.valid in
    let second : IsLeastAlike tests found.one = All-contains (IsLeastAlike tests) ys found.one b.each found.listed in
    let same : z ≡ found.one =
    le_both_ways z found.one (first.least found.one second.valid (sym found.alike)) (second.least z first.valid found.alike) in
    subst (λ w. Contains ys w) (sym same) found.listed

-- the tests determine the least members
pub leasts_are_unique : LeastsAreUnique
leasts_are_unique tests xs ys a b = same_lists xs ys a.ascending b.ascending (among tests xs ys a b) (among tests ys xs b a)

-- ---- one least member for each class

-- each header of a list that ascends stands before the later ones
before_later : (xs : List Header) (i j : ℕ) (d : Header) → IsStrictlySortedBy header_order xs → i < j → j < length xs → header_order (get_or xs i d) (get_or xs j d) ≡ Less
unfolding IsStrictlySortedBy
before_later [] i j d up l m = absurd (omega arith)
before_later (x ∷ xs) i zero d up l m = absurd (omega arith)
before_later (x ∷ xs) zero (suc j) d up l m = All-from_recursion (λ z. header_order x z ≡ Less) xs up.0 j d (omega arith)
before_later (x ∷ xs) (suc i) (suc j) d up l m = before_later xs i j d up.1 (omega arith) (omega arith)

-- alike least members are the same header
same_least : (tests : List (Header → Bool)) (x y : Header) → IsLeastAlike tests x → IsLeastAlike tests y → IsAlike tests x y → x ≡ y
same_least tests x y p q alike = le_both_ways x y (p.least y q.valid alike) (q.least x p.valid (sym alike))

-- places of alike least members are the same place
pub one_for_each_class : OneForEachClass
one_for_each_class tests xs are i j d l m alike = by (cases_eq i j)
  where
    same : get_or xs i d ≡ get_or xs j d
    same = same_least tests (get_or xs i d) (get_or xs j d) (are.each i d l) (are.each j d m) alike

    apart : (i < j) ⊎ (j ≤ i) → (i ≡ j → ⊥) → ⊥
    apart (inl below) differ = not_before_itself (get_or xs i d) (get_or xs j d) same (before_later xs i j d are.ascending below m)
    apart (inr above) differ = not_before_itself (get_or xs j d) (get_or xs i d) (sym same) (before_later xs j i d are.ascending (omega arith) l)

    by : (i ≡ j) ⊎ (i ≡ j → ⊥) → i ≡ j
    by (inl e) = e
    by (inr differ) = absurd (apart (cases_lt i j) differ)

-- ---- no cuts

-- the header of zeros is valid
pub zeros_valid : is_valid_header zeros ≡ true
unfolding is_valid_header
zeros_valid = refl

-- it stands before every other
zeros_least : (h : Header) → header_le zeros h ≡ true
zeros_least h = le_by_fields zeros h (omega arith) (omega arith) (omega arith) (omega arith) (omega arith) (omega arith) (omega arith)

-- without cuts it alone is a least member
zeros_alone : AreLeasts [] (zeros ∷ [])
unfolding IsStrictlySortedBy
zeros_alone =
    record {
      each = All-cons (IsLeastAlike []) zeros [] (record { valid = zeros_valid; least = λ h v alike. zeros_least h }) (All-nil (IsLeastAlike []));
      ascending = (tt, tt);
      reached = λ h v. record { one = zeros; listed = here zeros []; alike = refl };
    }

-- so no other list is that of the least members
pub one_class_without_cuts : OneClassWithoutCuts
one_class_without_cuts leasts are = leasts_are_unique [] leasts (zeros ∷ []) are zeros_alone

-- Hops that are the next ones each make the first path.
use Rattle.std.proofs.Common.{◌≡◌, ℕ, ◌+◌, ◌<◌, ◌≤◌, Bool, List, [], ◌∷◌, ◌++◌, length, Option, Some, None, sym, ◌∙◌, subst, inl, inr, refl, arith, append_assoc}
use Rattle.std.proofs.lemmas.Bool.{cases_lt}
use Rattle.std.specs.Prelude.{IsTrue}
use Rattle.std.specs.Ordering.{nat_cmp, is_le, ordering_then}
use Rattle.std.specs.declared.cmp.Ordering.{Ordering}
use Rattle.std.specs.declared.cmp.Ordering.TheVariants.{Less, Equal}
use Rattle.std.specs.Cmp.{nat_cmp_is}
use Rattle.std.specs.Cmp.Lexicographic.{slice_cmp}
use Rattle.np_net.specs.declared.filtering.Interface.{Interface}
use Rattle.np_net.specs.Path.{area_of}
use Rattle.np_flow.specs.Carrying.{Carries, Reaches, numbers_of, IsShorterOrFirst, IsFirstPath}
use Rattle.np_flow.specs.Distances.{distance_at, IsWalk, AreDistances, way_in, IsHopTo, IsBeforeOrSame, IsNextHop, IsFirstWalk, hops_left}
use Rattle.np_flow.proofs.DistanceLaws.{walk-rest}
use Rattle.np_flow.proofs.HopLaws.{way_most}

-- ---- lists of numbers in order

lex_less : (x y : ℕ) (xs ys : List ℕ) → x < y → IsTrue (is_le (slice_cmp nat_cmp (x ∷ xs) (y ∷ ys)))
lex_less x y xs ys lt =
    subst (λ (o : Ordering). IsTrue (is_le (ordering_then o (slice_cmp nat_cmp xs ys)))) (nat_cmp_is x y Less lt) refl

lex_same : (x y : ℕ) (xs ys : List ℕ) → x ≡ y → IsTrue (is_le (slice_cmp nat_cmp xs ys)) → IsTrue (is_le (slice_cmp nat_cmp (x ∷ xs) (y ∷ ys)))
lex_same x y xs ys same le =
    subst (λ (o : Ordering). IsTrue (is_le (ordering_then o (slice_cmp nat_cmp xs ys)))) (nat_cmp_is x y Equal same) le

-- a hop that is before another one, or the same with a rest that is before the other's
hop-before : (i j : ℕ) (other : ℕ × ℕ) (rest others : List (ℕ × ℕ)) → IsBeforeOrSame i j other
    → (i ≡ other.0 → j ≡ other.1 → IsTrue (is_le (slice_cmp nat_cmp (numbers_of rest) (numbers_of others))))
    → IsTrue (is_le (slice_cmp nat_cmp (numbers_of ((i, j) ∷ rest)) (numbers_of (other ∷ others))))
hop-before i j other rest others (inl before) le = lex_less i other.0 (j ∷ numbers_of rest) (other.1 ∷ numbers_of others) before
hop-before i j other rest others (inr same) le =
    lex_same i other.0 (j ∷ numbers_of rest) (other.1 ∷ numbers_of others) same.0
    (elim (same.1) [
      | inl before ↦ lex_less j other.1 (numbers_of rest) (numbers_of others) before
      | inr equal ↦ lex_same j other.1 (numbers_of rest) (numbers_of others) equal (le same.0 equal)
    ])

not-longer : (xs ys : List (ℕ × ℕ)) → IsShorterOrFirst xs ys → length xs ≤ length ys
not-longer xs ys (inl shorter) = omega arith
not-longer xs ys (inr same) = let e : length xs ≡ length ys = same.0 in omega arith

before-of-same : (xs ys : List (ℕ × ℕ)) → length xs ≡ length ys → IsShorterOrFirst xs ys → IsTrue (is_le (slice_cmp nat_cmp (numbers_of xs) (numbers_of ys)))
before-of-same xs ys same (inl shorter) = absurd (omega arith)
before-of-same xs ys same (inr first) = first.1

module _ (interfaces : List Interface) (lets : ℕ → Bool) (to : ℕ) (distances : List (Option ℕ)) (known : AreDistances interfaces lets to distances) where
  -- the first hop of a walk leads to an area whose distance is known
  first_hop : (a : ℕ) (hop : ℕ × ℕ) (hops : List (ℕ × ℕ)) → IsWalk interfaces lets a (hop ∷ hops) to
      → (m : ℕ) × (m ≤ length hops) × IsHopTo interfaces lets distances a m hop
  first_hop a hop hops walk =
      let rest = known.all (area_of interfaces hop.1) hops (walk-rest interfaces lets a to hop hops walk) in
      (rest.0, rest.1, record { is = walk.leads.0; begins = walk.leads.1; inward = walk.cross.0; outward = walk.cross.1; ends = rest.2 })

  left_by : (a m : ℕ) (hop : ℕ × ℕ) (o : Option (ℕ × ℕ)) → IsHopTo interfaces lets distances a m hop → way_in interfaces lets distances a ≡ o → hops_left o ≤ m + 1
  left_by a m hop None h way = omega arith
  left_by a m hop (Some f) h way = let le : f.0 ≤ m = way_most interfaces lets distances a m hop f h way in omega arith

  left_of : (a m : ℕ) (hops : List (ℕ × ℕ)) → length hops ≡ m → IsWalk interfaces lets a hops to → (a ≡ to → ⊥) → hops_left (way_in interfaces lets distances a) ≤ m
  left_of a m [] long walk other = absurd (other walk.leads)
  left_of a m (hop ∷ hops) long walk other =
      let first = first_hop a hop hops walk in
      let le : first.0 ≤ length hops = first.1 in
      let left : hops_left (way_in interfaces lets distances a) ≤ first.0 + 1 = left_by a first.0 hop (way_in interfaces lets distances a) first.2 refl in
      omega arith

  -- no more hops are left than the distance
  pub fewer_left : (a m : ℕ) → distance_at distances a ≡ Some m → (a ≡ to → ⊥) → hops_left (way_in interfaces lets distances a) ≤ m
  fewer_left a m is other = let way = known.sound a m is in left_of a m way.0 way.1 way.2 other

  carried : (a : ℕ) (hops : List (ℕ × ℕ)) → IsWalk interfaces lets a hops to → (a ≡ to → ⊥) → Carries interfaces lets a hops to
  carried a [] walk other = absurd (other walk.leads)
  carried a (hop ∷ hops) walk other = record { path = record { some = omega arith; leads = walk.leads }; cross = walk.cross }

  -- an area whose distance is known has a path
  pub reaches_on : (a m : ℕ) → distance_at distances a ≡ Some m → (a ≡ to → ⊥) → Reaches interfaces lets a to
  reaches_on a m is other = let way = known.sound a m is in record { hops = way.0; carries = carried a way.0 way.2 other }

  no-path : (a : ℕ) → ((m : ℕ) (hop : ℕ × ℕ) → IsHopTo interfaces lets distances a m hop → ⊥) → (hops : List (ℕ × ℕ)) → Carries interfaces lets a hops to → ⊥
  no-path a none [] carries = absurd (omega (arith, carries.path.some))
  no-path a none (hop ∷ hops) carries =
      let first = first_hop a hop hops record { leads = carries.path.leads; cross = carries.cross } in
      none first.0 hop first.2

  -- an area without a hop has none
  pub reaches_none : (a : ℕ) → ((m : ℕ) (hop : ℕ × ℕ) → IsHopTo interfaces lets distances a m hop → ⊥) → Reaches interfaces lets a to → ⊥
  reaches_none a none r = no-path a none r.hops r.carries

  -- a first walk is as long as the distance
  long_as : (a m : ℕ) (rest : List (ℕ × ℕ)) → distance_at distances a ≡ Some m → IsFirstWalk interfaces lets a rest to → length rest ≡ m
  long_as a m rest is first =
      let way = known.sound a m is in
      let long : length (way.0) ≡ m = way.1 in
      let most : length rest ≤ length (way.0) = not-longer rest way.0 (first.first way.0 way.2) in
      let its = known.all a rest first.walk in
      let least : its.0 ≤ length rest = its.1 in
      let e : Some m ≡ Some its.0 = sym is ∙ its.2 in
      let same : m ≡ its.0 = cc in
      omega arith

  others-first : (a m i j : ℕ) (rest others : List (ℕ × ℕ)) → IsNextHop interfaces lets distances a m i j → IsFirstWalk interfaces lets (area_of interfaces j) rest to
      → Carries interfaces lets a others to → IsShorterOrFirst ((i, j) ∷ rest) others
  others-first a m i j rest [] next first carries = absurd (omega (arith, carries.path.some))
  others-first a m i j rest (other ∷ others) next first carries =
      let walk : IsWalk interfaces lets a (other ∷ others) to = record { leads = carries.path.leads; cross = carries.cross } in
      let its = first_hop a other others walk in
      let le : its.0 ≤ length others = its.1 in
      let long : length rest ≡ m = long_as (area_of interfaces j) m rest next.hop.ends first in
      elim (next.first its.0 other its.2) [
        | inl nearer ↦ inl (omega arith)
        | inr same ↦
            let level : m ≡ its.0 = same.0 in
            elim (cases_lt (length rest) (length others)) [
              | inl shorter ↦ inl (omega arith)
              | inr not_shorter ↦
                  let equal : length rest ≡ length others = omega arith in
                  inr (
                    omega arith,
                    hop-before i j other rest others same.1 (λ i_is j_is.
                        before-of-same rest others equal (first.first others
                        (subst (λ k. IsWalk interfaces lets (area_of interfaces k) others to) (sym j_is) (walk-rest interfaces lets a to other others walk)))),
                  )
            ]
      ]

  -- the next hop, and then a first walk
  pub hop_then : (a m i j : ℕ) (rest : List (ℕ × ℕ)) → IsNextHop interfaces lets distances a m i j → IsFirstWalk interfaces lets (area_of interfaces j) rest to
      → IsFirstPath interfaces lets a ((i, j) ∷ rest) to
  hop_then a m i j rest next first = record {
    carries = record {
      path = record { some = omega arith; leads = (next.hop.is, next.hop.begins, first.walk.leads) };
      cross = (next.hop.inward, next.hop.outward, first.walk.cross);
    };
    first = λ others carries. others-first a m i j rest others next first carries;
  }

  none-first : (others : List (ℕ × ℕ)) → IsShorterOrFirst [] others
  none-first [] = inr (refl, refl)
  none-first (other ∷ others) = inl (omega arith)

  -- the walk without a hop
  pub here_first : (a : ℕ) → a ≡ to → IsFirstWalk interfaces lets a [] to
  here_first a here = record { walk = record { leads = here; cross = tt }; first = λ others walk. none-first others }

  walks-first : (a : ℕ) (rest others : List (ℕ × ℕ)) → (a ≡ to → ⊥) → IsFirstPath interfaces lets a rest to → IsWalk interfaces lets a others to → IsShorterOrFirst rest others
  walks-first a rest others other path walk = path.first others (carried a others walk other)

  -- a first path from another area
  pub path_first : (a : ℕ) (rest : List (ℕ × ℕ)) → (a ≡ to → ⊥) → IsFirstPath interfaces lets a rest to → IsFirstWalk interfaces lets a rest to
  path_first a rest other path = record {
    walk = record { leads = path.carries.path.leads; cross = path.carries.cross };
    first = λ others walk. walks-first a rest others other path walk;
  }

-- ---- hops so far

-- with a first path from the area where they end the hops so far are one from where they begin
pub record AreSoFar (interfaces : List Interface) (lets : ℕ → Bool) (from to : ℕ) (hops : List (ℕ × ℕ)) (area : ℕ) : Type 0 where
  pub on : Reaches interfaces lets from to → Reaches interfaces lets area to
  pub first : (rest : List (ℕ × ℕ)) → IsFirstPath interfaces lets area rest to → IsFirstPath interfaces lets from (hops ++ rest) to

module _ (interfaces : List Interface) (lets : ℕ → Bool) (from to : ℕ) (distances : List (Option ℕ)) (known : AreDistances interfaces lets to distances)
    (hops : List (ℕ × ℕ)) (area m i j : ℕ) (so_far : AreSoFar interfaces lets from to hops area) (next : IsNextHop interfaces lets distances area m i j) where
  pub so_far_more : (area_of interfaces j ≡ to → ⊥) → AreSoFar interfaces lets from to (hops ++ (i, j) ∷ []) (area_of interfaces j)
  so_far_more other = record {
    on = λ r. reaches_on interfaces lets to distances known (area_of interfaces j) m next.hop.ends other;
    first = λ rest path.
        subst (λ (xs : List (ℕ × ℕ)). IsFirstPath interfaces lets from xs to) (sym (append_assoc hops ((i, j) ∷ []) rest))
        (so_far.first ((i, j) ∷ rest) (hop_then interfaces lets to distances known area m i j rest next
        (path_first interfaces lets to distances known (area_of interfaces j) rest other path)));
  }

  pub so_far_all : area_of interfaces j ≡ to → IsFirstPath interfaces lets from (hops ++ (i, j) ∷ []) to
  so_far_all here =
      so_far.first ((i, j) ∷ []) (hop_then interfaces lets to distances known area m i j [] next
      (here_first interfaces lets to distances known (area_of interfaces j) here))

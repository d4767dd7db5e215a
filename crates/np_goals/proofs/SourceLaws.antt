-- The areas at which goals begin, results gathered, and results put into their places.
use Rattle.std.proofs.Common.{◌≡◌, ◌≢◌, ℕ, zero, suc, ◌+◌, ◌<◌, ◌⊎◌, ◌==◌, Bool, true, false, List, [], ◌∷◌, ◌++◌, length, map, get_or, set, take, drop, if◌then◌else◌, refl, sym, ◌∙◌, ap, subst, inl, inr, arith}
use Rattle.std.proofs.lemmas.List.{map-append, get_or_default, get_or-set_same, get_or-set_other, length-set, take_more, take-append-drop}
use Rattle.std.proofs.lemmas.Bool.Decides.{eqb_tells}
use Rattle.std.proofs.lemmas.Map.Views.{Contains-from_any}
use Rattle.std.specs.List.{Contains, list_any}
use Rattle.std.proofs.lemmas.Bool.{cases_lt, eqb-true}
use Rattle.std.proofs.lemmas.List.Elements.{Contains-append_left, Contains-append_right, Contains-append_cases, Contains-push, Contains-push_cases}
use Rattle.np_net.specs.declared.filtering.Goal.{Goal}
use Rattle.np_net.specs.Network.{IsNetwork}
use Rattle.np_net.specs.Plan.{Plan}
use Rattle.np_net.proofs.RangeLaws.{goal_in_range}
use Rattle.np_goals.specs.Cases.{goal_at}
use Rattle.np_goals.specs.Judging.{IsRight, AreRight}
use Rattle.np_goals.specs.Sources.{with_source, sources_after, AreAreas, BeginsIn, BeginsBefore, IsJudged, IsAnswered, AreJudged, ArePlaced}
use Rattle.np_goals.specs.declared.cases.Case.{Case}
use Rattle.np_goals.specs.declared.pieces.Judged.{Judged}
use Rattle.np_goals.specs.declared.verdicts.Verdict.{Verdict}
use Rattle.np_goals.specs.declared.verdicts.Verdict.TheVariants.{Holds}

-- ---- results gathered

-- no element is one of none
nothing : (X : Type 0) (x : X) → Contains [] x → ⊥
nothing X x c = omega (arith, c.1)

-- a goal of a list that has a place
some_goal : (goals : List Goal) (k : ℕ) → k < length goals → Goal
some_goal [] k below = absurd (omega arith)
some_goal (g ∷ gs) k below = g

-- the one element of a list
sole : (x y : ℕ) → Contains (x ∷ []) y → y ≡ x
sole x y (zero, below, same) = sym same
sole x y (suc k, below, same) = absurd (omega arith)

-- a goal that is there begins where it begins, whatever stands in place of goals that aren't
begins_there : (goals : List Goal) (areas : List ℕ) (k : ℕ) (d : Goal) → k < length goals → Contains areas (goal_at goals d k).from → BeginsIn goals areas k
begins_there goals areas k d below c = λ e. subst (λ g. Contains areas g.from) (get_or_default goals k d e below) c

-- no results are enough for no goals
pub none_judged : (net : Plan) (case : Case) (Covers : ℕ → Type 0) → ((k : ℕ) → Covers k → ⊥) → AreJudged net case Covers []
none_judged net case Covers no_goal =
    record { each = λ judged c. absurd (nothing Judged judged c); all = λ k below covers. absurd (no_goal k covers) }

-- what is enough for some goals is enough for fewer
pub fewer_judged : (net : Plan) (case : Case) (Covers Fewer : ℕ → Type 0) (results : List Judged) → ((k : ℕ) → k < length net.goals → Fewer k → Covers k) → AreJudged net case Covers results → AreJudged net case Fewer results
fewer_judged net case Covers Fewer results f are = record { each = are.each; all = λ k below c. are.all k below (f k below c) }

-- one result more
pub one_judged : (net : Plan) (case : Case) (Covers More : ℕ → Type 0) (results : List Judged) (judged : Judged) → ((k : ℕ) → More k → Covers k ⊎ (k ≡ judged.goal)) → IsJudged net case judged → AreJudged net case Covers results → AreJudged net case More (results ++ judged ∷ [])
one_judged net case Covers More results judged split is are =
    record {
      each = λ j c. elim (Contains-push_cases results judged j c) [
        | inl old ↦ are.each j old
        | inr same ↦ subst (λ x. IsJudged net case x) same is
      ];
      all = λ k below more. subst (λ l. Contains l k) (sym (map-append (λ (j : Judged). j.goal) results (judged ∷ []))) (found k below (split k more));
    }
  where
    found : (k : ℕ) → k < length net.goals → Covers k ⊎ (k ≡ judged.goal) → Contains (map (λ (j : Judged). j.goal) results ++ judged.goal ∷ []) k
    found k below (inl old) = Contains-append_left (map (λ (j : Judged). j.goal) results) (judged.goal ∷ []) k (are.all k below old)
    found k below (inr same) = subst (λ n. Contains (map (λ (j : Judged). j.goal) results ++ judged.goal ∷ []) n) (sym same) (Contains-push (map (λ (j : Judged). j.goal) results) judged.goal)

-- the results for some areas, and then those for others
pub both_judged : (net : Plan) (case : Case) (xs ys : List ℕ) (some more : List Judged) → AreJudged net case (BeginsIn net.goals xs) some → AreJudged net case (BeginsIn net.goals ys) more → AreJudged net case (BeginsIn net.goals (xs ++ ys)) (some ++ more)
both_judged net case xs ys some more are also =
    record {
      each = λ j c. elim (Contains-append_cases some more j c) [
        | inl one ↦ are.each j one
        | inr other ↦ also.each j other
      ];
      all = λ k below begins. subst (λ l. Contains l k) (sym (map-append (λ (j : Judged). j.goal) some more)) (found k below begins);
    }
  where
    -- the areas of both, at the goal that stands there
    found : (k : ℕ) → k < length net.goals → BeginsIn net.goals (xs ++ ys) k → Contains (map (λ (j : Judged). j.goal) some ++ map (λ (j : Judged). j.goal) more) k
    found k below begins =
        let d : Goal = some_goal net.goals k below in
        elim (Contains-append_cases xs ys (goal_at net.goals d k).from (begins d)) [
          | inl one ↦ Contains-append_left (map (λ (j : Judged). j.goal) some) (map (λ (j : Judged). j.goal) more) k (are.all k below (begins_there net.goals xs k d below one))
          | inr other ↦ Contains-append_right (map (λ (j : Judged). j.goal) some) (map (λ (j : Judged). j.goal) more) k (also.all k below (begins_there net.goals ys k d below other))
        ]

-- a goal that begins at one area begins in the list of it alone
pub begins_alone : (goals : List Goal) (area k : ℕ) → k < length goals → BeginsIn goals (area ∷ []) k → BeginsBefore goals area (length goals) k
begins_alone goals area k below begins = (below, λ d. sole area (goal_at goals d k).from (begins d))

-- none of the first 0 goals
pub none_before : (goals : List Goal) (area k : ℕ) → BeginsBefore goals area 0 k → ⊥
none_before goals area k before = omega (arith, before.0)

-- no goal begins in no area
pub none_begins : (goals : List Goal) (k : ℕ) → k < length goals → BeginsIn goals [] k → ⊥
none_begins goals k below begins = nothing ℕ (goal_at goals (some_goal goals k below) k).from (begins (some_goal goals k below))

-- one goal further, which begins at the area
pub split_there : (goals : List Goal) (area m k : ℕ) → BeginsBefore goals area (m + 1) k → BeginsBefore goals area m k ⊎ (k ≡ m)
split_there goals area m k before = elim (cases_lt k m) [
  | inl below ↦ inl (below, before.1)
  | inr above ↦ inr (omega (arith, before.0))
]

-- one goal further, which begins elsewhere
pub passes_there : (goals : List Goal) (area m k : ℕ) (goal : Goal) → goal ≡ get_or goals m goal → (goal.from ≡ area → ⊥) → BeginsBefore goals area (m + 1) k → BeginsBefore goals area m k
passes_there goals area m k goal at other before = elim (cases_lt k m) [
  | inl below ↦ (below, before.1)
  | inr above ↦
      let same : k ≡ m = omega (arith, before.0) in
      absurd (other (ap (λ g. g.from) at ∙ subst (λ n. (get_or goals n goal).from ≡ area) same (before.1 goal)))
]

-- ---- the areas

-- an area that is added is there, and those before it stay
with_keeps : (areas : List ℕ) (area x : ℕ) → Contains areas x → Contains (with_source areas area) x
with_keeps areas area x c = by (list_any (λ known. known == area) areas)
  where
    by : (b : Bool) → Contains (if b then areas else areas ++ area ∷ []) x
    by true = c
    by false = Contains-append_left areas (area ∷ []) x c

with_has : (areas : List ℕ) (area : ℕ) → Contains (with_source areas area) area
with_has areas area = by (list_any (λ known. known == area) areas) refl
  where
    by : (b : Bool) → list_any (λ known. known == area) areas ≡ b → Contains (if b then areas else areas ++ area ∷ []) area
    by true is = Contains-from_any (λ x y same. sym (eqb-true y x same)) area areas is
    by false is = Contains-push areas area

with_fits : (count : ℕ) (areas : List ℕ) (area : ℕ) → AreAreas count areas → area < count → AreAreas count (with_source areas area)
with_fits count areas area are below = by (list_any (λ known. known == area) areas)
  where
    by : (b : Bool) → AreAreas count (if b then areas else areas ++ area ∷ [])
    by true = are
    by false = λ x c. elim (Contains-push_cases areas area x c) [
      | inl old ↦ are x old
      | inr same ↦ subst (λ n. n < count) same below
    ]

after_keeps : (areas : List ℕ) (goals : List Goal) (x : ℕ) → Contains areas x → Contains (sources_after areas goals) x
after_keeps areas [] x c = c
after_keeps areas (g ∷ gs) x c = after_keeps (with_source areas g.from) gs x (with_keeps areas g.from x c)

-- each goal begins at one of them
pub after_has : (areas : List ℕ) (goals : List Goal) (k : ℕ) → k < length goals → BeginsIn goals (sources_after areas goals) k
after_has areas [] k below = absurd (omega arith)
after_has areas (g ∷ gs) zero below = λ d. after_keeps (with_source areas g.from) gs g.from (with_has areas g.from)
after_has areas (g ∷ gs) (suc k) below = λ d. after_has (with_source areas g.from) gs k (omega arith) d

-- and they are areas, where those at which goals begin are
pub after_fits : (count : ℕ) (areas : List ℕ) (goals : List Goal) → ((k : ℕ) (d : Goal) → k < length goals → (get_or goals k d).from < count) → AreAreas count areas → AreAreas count (sources_after areas goals)
after_fits count areas [] ranges are = are
after_fits count areas (g ∷ gs) ranges are = after_fits count (with_source areas g.from) gs (λ k d below. ranges (suc k) d (omega arith)) (with_fits count areas g.from are (ranges 0 g (omega arith)))

-- the areas at which a network's goals begin
pub network_sources : (net : Plan) → IsNetwork net → AreAreas (length net.areas) (sources_after [] net.goals)
network_sources net is = after_fits (length net.areas) [] net.goals (λ k d below. (goal_in_range net is k (get_or net.goals k d) below (get_or_default net.goals k d (get_or net.goals k d) below)).from) (λ x c. absurd (nothing ℕ x c))

-- ---- results put into their places

-- where nothing is placed yet, each goal is answered by what is left
pub none_placed : (net : Plan) (case : Case) (sources : List ℕ) (results : List Judged) (verdicts : List Verdict) → length verdicts ≡ length net.goals → AreJudged net case (BeginsIn net.goals sources) results → ((k : ℕ) → k < length net.goals → BeginsIn net.goals sources k) → ArePlaced net case results verdicts
none_placed net case sources results verdicts count are all =
    record { count = count; each = are.each; right = λ k below. inl (are.all k below (all k below)) }

-- the last result is one of the results
pub last_is_judged : (net : Plan) (case : Case) (left rest : List Judged) (last : Judged) (verdicts : List Verdict) → left ≡ rest ++ last ∷ [] → ArePlaced net case left verdicts → IsJudged net case last
last_is_judged net case left rest last verdicts whole are = are.each last (subst (λ l. Contains l last) (sym whole) (Contains-push rest last))

-- one result more is placed
pub one_placed : (net : Plan) (case : Case) (left rest : List Judged) (last : Judged) (verdicts : List Verdict) → left ≡ rest ++ last ∷ [] → ArePlaced net case left verdicts → ArePlaced net case rest (set verdicts last.goal last.verdict)
one_placed net case left rest last verdicts whole are =
    record {
      count = length-set verdicts last.goal last.verdict ∙ are.count;
      each = λ j c. are.each j (subst (λ l. Contains l j) (sym whole) (Contains-append_left rest (last ∷ []) j c));
      right = λ k below. elim (eqb_tells k last.goal) [
        | inl same ↦ inr (subst (λ n. IsRight net case n (get_or (set verdicts last.goal last.verdict) n Holds)) (sym same.1) (subst (λ v. IsRight net case last.goal v) (sym (get_or-set_same verdicts last.goal last.verdict Holds (omega (arith, is.goal, are.count)))) is.right))
        | inr apart ↦ elsewhere k below apart.1 (are.right k below)
      ];
    }
  where
    is : IsJudged net case last
    is = last_is_judged net case left rest last verdicts whole are

    elsewhere : (k : ℕ) → k < length net.goals → k ≢ last.goal → IsAnswered left k ⊎ IsRight net case k (get_or verdicts k Holds) → IsAnswered rest k ⊎ IsRight net case k (get_or (set verdicts last.goal last.verdict) k Holds)
    elsewhere k below apart (inr right) = inr (subst (λ v. IsRight net case k v) (sym (get_or-set_other verdicts last.goal k last.verdict Holds apart)) right)
    elsewhere k below apart (inl answered) =
        let there : Contains (map (λ (j : Judged). j.goal) rest ++ last.goal ∷ []) k = subst (λ l. Contains l k) (map-append (λ (j : Judged). j.goal) rest (last ∷ [])) (subst (λ l. IsAnswered l k) whole answered) in
        elim (Contains-push_cases (map (λ (j : Judged). j.goal) rest) last.goal k there) [
          | inl old ↦ inl old
          | inr same ↦ absurd (apart (sym same))
        ]

-- with nothing left, each verdict is right
pub all_placed : (net : Plan) (case : Case) (left : List Judged) (verdicts : List Verdict) → left ≡ [] → ArePlaced net case left verdicts → AreRight net case (length net.goals) verdicts
all_placed net case left verdicts none are =
    record {
      count = are.count;
      each = λ k below. elim (are.right k below) [
        | inl answered ↦ absurd (nothing ℕ k (subst (λ l. IsAnswered l k) none answered))
        | inr right ↦ right
      ];
    }

-- the areas that a fold of the goals gives
pub sources_fit : (net : Plan) (goals : List Goal) (sources : List ℕ) → IsNetwork net → goals ≡ net.goals → sources ≡ sources_after [] goals → AreAreas (length net.areas) sources
sources_fit net goals sources is same are = subst (AreAreas (length net.areas)) (sym (are ∙ ap (sources_after []) same)) (network_sources net is)

pub sources_serve : (net : Plan) (goals : List Goal) (sources : List ℕ) → goals ≡ net.goals → sources ≡ sources_after [] goals → (k : ℕ) → k < length net.goals → BeginsIn net.goals sources k
sources_serve net goals sources same are k below = subst (λ l. BeginsIn net.goals l k) (sym (are ∙ ap (sources_after []) same)) (after_has [] net.goals k below)

-- with no areas there are no results
pub no_areas : (net : Plan) (case : Case) → AreJudged net case (BeginsIn net.goals []) []
no_areas net case = record { each = λ judged c. absurd (nothing Judged judged c); all = λ k below begins. absurd (none_begins net.goals k below begins) }

-- one area more of a list
pub next_area : (net : Plan) (case : Case) (areas : List ℕ) (i : ℕ) (some more : List Judged) → i < length areas → AreJudged net case (BeginsIn net.goals (take i areas)) some → AreJudged net case (BeginsIn net.goals (get_or areas i 0 ∷ [])) more → AreJudged net case (BeginsIn net.goals (take (i + 1) areas)) (some ++ more)
next_area net case areas i some more below are also =
    subst (λ l. AreJudged net case (BeginsIn net.goals l) (some ++ more)) (sym (take_more areas i 0 below)) (both_judged net case (take i areas) (get_or areas i 0 ∷ []) some more are also)

-- a right verdict on a goal that begins at the area
pub judged_there : (net : Plan) (case : Case) (source k : ℕ) (goal : Goal) (verdict : Verdict) → k < length net.goals → goal ≡ get_or net.goals k goal → goal.from ≡ source → IsRight net case k verdict → IsJudged net case (record { source = source; goal = k; verdict = verdict })
judged_there net case source k goal verdict below at from right =
    record { goal = below; source = λ d. ap (λ g. g.from) (sym (at ∙ get_or_default net.goals k goal d below)) ∙ from; right = right }

-- parts of areas
pub fits_first : (count n : ℕ) (areas : List ℕ) → AreAreas count areas → AreAreas count (take n areas)
fits_first count n areas are = λ x c. are x (subst (λ l. Contains l x) (take-append-drop n areas) (Contains-append_left (take n areas) (drop n areas) x c))

pub fits_second : (count n : ℕ) (areas : List ℕ) → AreAreas count areas → AreAreas count (drop n areas)
fits_second count n areas are = λ x c. are x (subst (λ l. Contains l x) (take-append-drop n areas) (Contains-append_right (take n areas) (drop n areas) x c))

-- The areas at which goals begin, and results for the goals that begin at some of them.
use Rattle.std.specs.Prelude.{◌≡◌, ℕ, ◌<◌, ◌==◌, ◌++◌, ◌∷◌, ◌⊎◌, List, [], length, map, if◌then◌else◌, slice_index_or}
use Rattle.std.specs.List.{Contains, list_any}
use Rattle.np_net.specs.Plan.{Plan}
use Rattle.np_net.specs.declared.filtering.Goal.{Goal}
use Rattle.np_goals.specs.Cases.{goal_at}
use Rattle.np_goals.specs.Judging.{IsRight}
use Rattle.np_goals.specs.declared.cases.Case.{Case}
use Rattle.np_goals.specs.declared.pieces.Judged.{Judged}
use Rattle.np_goals.specs.declared.verdicts.Verdict.{Verdict}
use Rattle.np_goals.specs.declared.verdicts.Verdict.TheVariants.{Holds}

-- ---- the areas

-- these areas, and then this one unless it is one of them
abbrev pub with_source : List ℕ → ℕ → List ℕ
with_source areas area = if list_any (λ known. known == area) areas then areas else areas ++ area ∷ []

-- these areas, and then those at which the goals begin, each once, in the order of first appearance
abbrev pub sources_after : List ℕ → List Goal → List ℕ
sources_after areas [] = areas
sources_after areas (goal ∷ goals) = sources_after (with_source areas goal.from) goals

-- they are some of so many areas
abbrev pub AreAreas : ℕ → List ℕ → Type 0
AreAreas count areas = (area : ℕ) → Contains areas area → area < count

-- goal k begins at one of these areas
abbrev pub BeginsIn : List Goal → List ℕ → ℕ → Type 0
BeginsIn goals areas k = (d : Goal) → Contains areas (goal_at goals d k).from

-- goal k is one of the first m, and begins at the area
abbrev pub BeginsBefore : List Goal → ℕ → ℕ → ℕ → Type 0
BeginsBefore goals area m k = (k < m) × ((d : Goal) → (goal_at goals d k).from ≡ area)

-- ---- results

-- a result names its goal and the area at which this begins, and its verdict is right for that goal
pub record IsJudged (net : Plan) (case : Case) (judged : Judged) : Type 0 where
  pub goal : judged.goal < length net.goals
  pub source : (d : Goal) → (goal_at net.goals d judged.goal).from ≡ judged.source
  pub right : IsRight net case judged.goal judged.verdict

-- some result is that of goal k
abbrev pub IsAnswered : List Judged → ℕ → Type 0
IsAnswered results k = Contains (map (λ (judged : Judged). judged.goal) results) k

-- results of goals, among them one for each goal of which the statement holds
pub record AreJudged (net : Plan) (case : Case) (Covers : ℕ → Type 0) (results : List Judged) : Type 0 where
  pub each : (judged : Judged) → Contains results judged → IsJudged net case judged
  pub all : (k : ℕ) → k < length net.goals → Covers k → IsAnswered results k

-- verdicts in the goals' places: each is right, but for goals whose results are among those still left
pub record ArePlaced (net : Plan) (case : Case) (left : List Judged) (verdicts : List Verdict) : Type 0 where
  pub count : length verdicts ≡ length net.goals
  pub each : (judged : Judged) → Contains left judged → IsJudged net case judged
  pub right : (k : ℕ) → k < length net.goals → IsAnswered left k ⊎ IsRight net case k (slice_index_or verdicts k Holds)

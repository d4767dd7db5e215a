-- The report on the filtering goals.
use Rattle.std.specs.Prelude.{ℕ, ◌+◌, ◌<◌, Bool, true, false, List, [], ◌∷◌, ◌++◌, codes, length, if◌then◌else◌}
use Rattle.std.specs.List.{All, list_all}
use Rattle.std.specs.Fmt.{decimal}
use Rattle.np_net.specs.Plan.{Plan}
use Rattle.np_net.specs.declared.filtering.Interface.{Interface}
use Rattle.np_goals.specs.declared.verdicts.Verdict.{Verdict}
use Rattle.np_goals.specs.declared.verdicts.Verdict.TheVariants.{Holds, Violated}
use Rattle.np_script.specs.Written.{header_words}
use Rattle.np_text.specs.Joined.{text_of_lines}
use Rattle.np_report.specs.Words.{hop_lines}

-- the lines of the goal of this number: that it holds, or the least header that breaks it and the hops of its first path
abbrev pub verdict_lines : Plan → ℕ → Verdict → List (List (List ℕ))
verdict_lines net k Holds = (codes "goal" ∷ decimal k ∷ codes "holds" ∷ []) ∷ []
verdict_lines net k (Violated header path) = (codes "goal" ∷ decimal k ∷ codes "violated" ∷ header_words header) ∷ hop_lines net path.hops

-- the lines of the goals, of which the first has this number
abbrev pub goals_lines : Plan → ℕ → List Verdict → List (List (List ℕ))
goals_lines net k [] = []
goals_lines net k (verdict ∷ verdicts) = verdict_lines net k verdict ++ goals_lines net (k + 1) verdicts

-- a verdict that the goal holds
abbrev pub is_holding : Verdict → Bool
is_holding Holds = true
is_holding (Violated header path) = false

-- every goal holds
abbrev pub all_hold : List Verdict → Bool
all_hold verdicts = list_all is_holding verdicts

-- the lines of the goals from 1 on, and a last line that says whether all hold
abbrev pub verdicts_lines : Plan → List Verdict → List (List (List ℕ))
verdicts_lines net verdicts = goals_lines net 1 verdicts ++ ((if all_hold verdicts then codes "holds" else codes "fails") ∷ []) ∷ []

-- their text
abbrev pub verdicts_text : Plan → List Verdict → List ℕ
verdicts_text net verdicts = text_of_lines (verdicts_lines net verdicts)

-- the interfaces of the path of a violated goal are among these
abbrev pub HasInterfaces : List Interface → Verdict → Type 0
HasInterfaces interfaces Holds = Unit {0}
HasInterfaces interfaces (Violated header path) = All (λ hop. (hop.0 < length interfaces) × (hop.1 < length interfaces)) path.hops

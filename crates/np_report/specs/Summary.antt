-- The summary of the report on the filtering goals of a generated network.
use Rattle.std.specs.Prelude.{ℕ, Bool, false, not, List, [], ◌∷◌, codes, count_by, length}
use Rattle.std.specs.Fmt.{decimal}
use Rattle.std.specs.Str.{bytes_eq}
use Rattle.np_net.specs.Plan.{Plan}
use Rattle.np_goals.specs.declared.verdicts.Verdict.{Verdict}
use Rattle.np_report.specs.Verdicts.{is_holding, verdicts_lines}
use Rattle.np_text.specs.Joined.{text_of_lines}

-- a verdict that the goal is violated
abbrev pub is_violated : Verdict → Bool
is_violated verdict = not (is_holding verdict)

-- the line of a hop
abbrev pub is_hop_line : List (List ℕ) → Bool
is_hop_line [] = false
is_hop_line (word ∷ words) = bytes_eq word (codes "hop")

-- how many lines of the report are lines of hops
unfoldable pub hop_count : Plan → List Verdict → ℕ
hop_count net verdicts = count_by is_hop_line (verdicts_lines net verdicts)

-- the seed, the sizes of the network, how many atoms its filter cuts have, how many goals are violated, and how many lines of the report are lines of hops
abbrev pub summary_lines : ℕ → Plan → ℕ → List Verdict → List (List (List ℕ))
summary_lines seed net atoms verdicts =
    (codes "gen" ∷ decimal seed ∷ [])
    ∷ (codes "areas" ∷ decimal (length net.areas) ∷ codes "devices" ∷ decimal (length net.devices)
    ∷ codes "interfaces" ∷ decimal (length net.interfaces) ∷ codes "goals" ∷ decimal (length net.goals) ∷ [])
    ∷ (codes "atoms" ∷ decimal atoms ∷ [])
    ∷ (codes "violated" ∷ decimal (count_by is_violated verdicts) ∷ [])
    ∷ (codes "hops" ∷ decimal (hop_count net verdicts) ∷ []) ∷ []

-- the text
abbrev pub summary_text : ℕ → Plan → ℕ → List Verdict → List ℕ
summary_text seed net atoms verdicts = text_of_lines (summary_lines seed net atoms verdicts)

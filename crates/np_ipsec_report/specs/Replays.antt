-- The report on the replay of a script.
use Rattle.std.specs.Prelude.{ℕ, ◌+◌, List, [], ◌∷◌, ◌++◌, codes, map, Option, Some, None}
use Rattle.std.specs.Fmt.{decimal}
use Rattle.std.specs.List.{flat_map}
use Rattle.np_net.specs.Naming.{sa_name}
use Rattle.np_net.specs.Plan.{Plan}
use Rattle.np_ipsec.specs.Steps.{State}
use Rattle.np_script.specs.Written.{place_words}
use Rattle.np_traj.specs.declared.states.Illegal.{Illegal}
use Rattle.np_traj.specs.declared.states.Illegal.TheVariants as illegal
use Rattle.np_text.specs.Joined.{text_of_lines}

-- the names of associations, from the bottom, joined by commas; `-` where there is none
abbrev pub stack_word : Plan → List ℕ → List ℕ
stack_word net [] = codes "-"
stack_word net (k ∷ ks) = sa_name net k ++ flat_map (λ n. 44 ∷ sa_name net n) ks

-- the name of a mark, `-` where there is none
abbrev pub mark_word : Plan → Option ℕ → List ℕ
mark_word net None = codes "-"
mark_word net (Some k) = sa_name net k

-- the words of the state of this number
abbrev pub state_words : Plan → ℕ → State → List (List ℕ)
state_words net n s = codes "state" ∷ decimal n ∷ (place_words net s.place ++ codes "stack" ∷ stack_word net s.stack ∷ codes "mark" ∷ mark_word net s.mark ∷ [])

-- a line for each state, of which the first has this number
abbrev pub state_lines : Plan → ℕ → List State → List (List (List ℕ))
state_lines net n [] = []
state_lines net n (s ∷ states) = state_words net n s ∷ state_lines net (n + 1) states

-- the word of a reason
abbrev pub illegal_word : Illegal → List ℕ
illegal_word illegal.NotHere = codes "NotHere"
illegal_word illegal.NotAdmitted = codes "NotAdmitted"
illegal_word illegal.MustPop = codes "MustPop"
illegal_word illegal.NoKey = codes "NoKey"
illegal_word illegal.NoRule = codes "NoRule"
illegal_word illegal.Full = codes "Full"
illegal_word illegal.FalseSource = codes "FalseSource"
illegal_word illegal.NotValid = codes "NotValid"

-- a line for the first illegal move, if there is one
abbrev pub stop_lines : Option (ℕ × Illegal) → List (List (List ℕ))
stop_lines None = []
stop_lines (Some stop) = (codes "illegal" ∷ decimal stop.0 ∷ illegal_word stop.1 ∷ []) ∷ []

-- the words of a broken goal, with the first state that breaks it
abbrev pub breach_words : ℕ × ℕ → List (List ℕ)
breach_words breach = codes "breach" ∷ decimal (breach.0 + 1) ∷ codes "state" ∷ decimal breach.1 ∷ []

-- the last word: whether all moves are legal
abbrev pub legal_word : Option (ℕ × Illegal) → List ℕ
legal_word None = codes "legal"
legal_word (Some stop) = codes "illegal"

-- the text: the states from 0 on, what stops them, the goals that are broken, and a last line
abbrev pub replay_text : Plan → List State → Option (ℕ × Illegal) → List (ℕ × ℕ) → List ℕ
replay_text net states stop breaches = text_of_lines (state_lines net 0 states ++ (stop_lines stop ++ (map breach_words breaches ++ (legal_word stop ∷ []) ∷ [])))

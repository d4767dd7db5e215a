-- The report on the replay of a script, line by line.
use Rattle.std.proofs.Common.{◌≡◌, ℕ, List, [], ◌∷◌, ◌++◌, map, Option, append_assoc, append-nil}
use Rattle.np_net.specs.Plan.{Plan}
use Rattle.np_ipsec.specs.Steps.{State}
use Rattle.np_traj.specs.declared.states.Illegal.{Illegal}
use Rattle.np_net_text.specs.CanonicalText.{line_text, lines_text}
use Rattle.np_net_text.proofs.CanonicalLaws.{lines_text-append}
use Rattle.np_text.specs.Joined.{text_of_lines}
use Rattle.np_ipsec_report.specs.Replays.{breach_words, legal_word, replay_text, state_lines, stop_lines}
use Rattle.np_report.proofs.TextLaws.{lines_appended}

-- the lines of the states, that of the stop, those of the breaches, and the last one are the report
pub replay_made : (net : Plan) (states : List State) (stop : Option (ℕ × Illegal)) (breaches listed : List (ℕ × ℕ)) (o k l m n p word : List ℕ) →
    listed ≡ breaches →
    o ≡ [] →
    k ≡ o ++ lines_text (state_lines net 0 states) →
    l ≡ k ++ lines_text (stop_lines stop) →
    m ≡ l ++ lines_text (map breach_words listed) →
    word ≡ legal_word stop →
    n ≡ m ++ word →
    p ≡ n ++ 10 ∷ [] →
    p ≡ replay_text net states stop breaches
replay_made net states stop breaches listed o k l m n p word of-breaches none first second third of-word fourth fifth =
    made (state_lines net 0 states) (stop_lines stop) (map breach_words breaches) (legal_word stop) o k l m n p none first second (rw of-breaches at third) (rw of-word at fourth) fifth
  where
    made : (states stop breaches : List (List (List ℕ))) (last o k l m n p : List ℕ) → o ≡ [] → k ≡ o ++ lines_text states → l ≡ k ++ lines_text stop → m ≡ l ++ lines_text breaches → n ≡ m ++ last → p ≡ n ++ 10 ∷ [] → p ≡ text_of_lines (states ++ (stop ++ (breaches ++ (last ∷ []) ∷ [])))
    made states stop breaches last o k l m n p none first second third fourth fifth =
        rw (lines_appended (states ++ (stop ++ (breaches ++ (last ∷ []) ∷ []))), lines_text-append states (stop ++ (breaches ++ (last ∷ []) ∷ [])), lines_text-append stop (breaches ++ (last ∷ []) ∷ []), lines_text-append breaches ((last ∷ []) ∷ []), append-nil (line_text (last ∷ [])), fifth, fourth, third, second, first, none) (simp append_assoc)

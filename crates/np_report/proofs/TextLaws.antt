-- The text of lines, as it is appended word by word and line by line.
use Rattle.std.proofs.Common.{◌≡◌, ℕ, List, [], ◌∷◌, ◌++◌, sym, ap, ◌∙◌, append_assoc, append-nil}
use Rattle.std.specs.List.{flat_map}
use Rattle.std.proofs.lemmas.List.Folds.{flat_map-map}
use Rattle.np_net.specs.Plan.{Plan}
use Rattle.np_net_text.specs.CanonicalText.{line_text, lines_text}
use Rattle.np_net_text.proofs.CanonicalLaws.{lines_text-joined, lines_text-append}
use Rattle.np_text.specs.Joined.{text_of_lines}
use Rattle.np_report.specs.Words.{hop_words, hop_lines}

-- the text of lines is that of one line after another
pub lines_appended : (lines : List (List (List ℕ))) → text_of_lines lines ≡ lines_text lines
lines_appended lines = sym (lines_text-joined lines)

-- the text of one line
pub one_line : (words : List (List ℕ)) → text_of_lines (words ∷ []) ≡ line_text words
one_line words = lines_appended (words ∷ []) ∙ append-nil (line_text words)

-- the lines of hops are appended hop by hop
pub hop_lines_appended : (net : Plan) (hops : List (ℕ × ℕ)) → lines_text (hop_lines net hops) ≡ flat_map (λ hop. line_text (hop_words net hop)) hops
hop_lines_appended net hops = flat_map-map line_text (hop_words net) hops

-- lines, and then one of one word
pub last_appended : (lines : List (List (List ℕ))) (o k l m word last : List ℕ) → o ≡ [] → k ≡ o ++ lines_text lines → l ≡ k ++ word → m ≡ l ++ 10 ∷ [] → word ≡ last → m ≡ text_of_lines (lines ++ (last ∷ []) ∷ [])
last_appended lines o k l m word last none first second third same =
    rw (lines_appended (lines ++ (last ∷ []) ∷ []), lines_text-append lines ((last ∷ []) ∷ []), third, second, first, none, same)
    (append_assoc (lines_text lines) last (10 ∷ []) ∙ ap (λ end. lines_text lines ++ end) (sym (append-nil (last ++ 10 ∷ []))))

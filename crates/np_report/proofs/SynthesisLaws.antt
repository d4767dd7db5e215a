-- The reports on what is synthesised, line by line.
use Rattle.std.proofs.Common.{◌≡◌, ℕ, Bool, List, [], ◌∷◌, ◌++◌, codes, length, refl, append_assoc, append-nil}
use Rattle.std.specs.Fmt.{decimal}
use Rattle.np_space.specs.declared.headers.Header.{Header}
use Rattle.np_net.specs.Plan.{Plan}
use Rattle.np_net_text.specs.CanonicalText.{spaced, line_text, lines_text}
use Rattle.np_net_text.proofs.CanonicalLaws.{lines_text-append}
use Rattle.np_synth.specs.declared.chosen.Dropped.{Dropped}
use Rattle.np_text.specs.Joined.{text_of_lines}
use Rattle.np_report.specs.Synthesis.{slots_lines, least_lines, chosen_text}
use Rattle.np_report.proofs.TextLaws.{lines_appended}

-- the lines of the atoms, those of the slots, and the last one are the report
pub chosen_made : (net : Plan) (leasts : List Header) (sets slots : List (List Bool)) (drops dropped : List Dropped) (o k l m n : List ℕ) →
    slots ≡ sets → dropped ≡ drops →
    o ≡ [] →
    k ≡ o ++ line_text (codes "atoms" ∷ decimal (length leasts) ∷ []) →
    l ≡ k ++ lines_text (least_lines 0 leasts) →
    m ≡ l ++ lines_text (slots_lines net slots dropped 0 net.free) →
    n ≡ m ++ line_text (codes "synthesised" ∷ []) →
    n ≡ chosen_text net leasts sets drops
chosen_made net leasts sets slots drops dropped o k l m n of-sets of-drops none first second third fourth =
    made (codes "atoms" ∷ decimal (length leasts) ∷ []) (codes "synthesised" ∷ []) (least_lines 0 leasts) (slots_lines net sets drops 0 net.free) o k l m n none first second (rw (of-sets, of-drops) at third) fourth
  where
    made : (head last : List (List ℕ)) (leasts slots : List (List (List ℕ))) (o k l m n : List ℕ) → o ≡ [] → k ≡ o ++ line_text head → l ≡ k ++ lines_text leasts → m ≡ l ++ lines_text slots → n ≡ m ++ line_text last → n ≡ text_of_lines (head ∷ (leasts ++ (slots ++ last ∷ [])))
    made head last leasts slots o k l m n none first second third fourth =
        rw (lines_appended (head ∷ (leasts ++ (slots ++ last ∷ []))), lines_text-append leasts (slots ++ last ∷ []), lines_text-append slots (last ∷ []), append-nil (line_text last), fourth, third, second, first, none) (simp append_assoc)

-- the line that says which goal is broken: a first word, a number, and further words
pub broken_made : (o k l m n word number : List ℕ) (words : List (List ℕ)) → k ≡ o ++ word → l ≡ k ++ 32 ∷ number → m ≡ l ++ spaced words → n ≡ m ++ 10 ∷ [] → n ≡ o ++ (word ++ 32 ∷ ((number ++ spaced words) ++ 10 ∷ []))
broken_made o k l m n word number words first second third fourth = rw (fourth, third, second, first) (simp append_assoc)

-- the line that says which goal is broken, and the lines of hops, are the report
pub unattainable_made : (head : List (List ℕ)) (hops : List (List (List ℕ))) (o k l : List ℕ) → o ≡ [] → k ≡ o ++ line_text head → l ≡ k ++ lines_text hops → l ≡ text_of_lines (head ∷ hops)
unattainable_made head hops o k l none first second = rw (lines_appended (head ∷ hops), second, first, none) refl

-- The report on atoms, line by line.
use Rattle.std.proofs.Common.{◌≡◌, ℕ, ◌+◌, ◌<◌, Bool, List, [], ◌∷◌, ◌++◌, codes, length, get_or, drop, refl, sym, ap, ◌∙◌, append_assoc, append-nil, arith, zero, suc, add-one}
use Rattle.std.specs.Fmt.{decimal}
use Rattle.std.proofs.lemmas.Grind.{flat_map-append}
use Rattle.np_space.specs.declared.headers.Header.{Header}
use Rattle.np_net.specs.Plan.{Plan}
use Rattle.np_net.specs.declared.filtering.Goal.{Goal}
use Rattle.np_net_text.specs.CanonicalText.{spaced, line_text, lines_text}
use Rattle.np_net_text.proofs.ParallelLaws.{drop-item}
use Rattle.np_net_text.proofs.CanonicalLaws.{lines_text-append}
use Rattle.np_script.specs.Written.{header_words}
use Rattle.np_text.specs.Joined.{text_of_lines}
use Rattle.np_report.specs.Atoms.{goal_lines, list_lines, digits, atom_lines, atoms_text}
use Rattle.np_report.proofs.TextLaws.{lines_appended}

-- one word more, after a space
pub word_appended : (o k l m : List ℕ) (words : List (List ℕ)) (word : List ℕ) → k ≡ o ++ spaced words → l ≡ k ++ 32 ∷ [] → m ≡ l ++ word → m ≡ o ++ spaced (words ++ word ∷ [])
word_appended o k l m words word first second third =
    rw (third, second, first, flat_map-append (λ (w : List ℕ). 32 ∷ w) words (word ∷ []), append-nil word)
    (append_assoc (o ++ spaced words) (32 ∷ []) word ∙ append_assoc o (spaced words) (32 ∷ word))

-- the next line is appended
line_appended : (out next whole : List ℕ) (words : List (List ℕ)) (lines left : List (List (List ℕ))) → lines ≡ words ∷ left → out ++ lines_text lines ≡ whole → next ≡ out ++ line_text words → next ++ lines_text left ≡ whole
line_appended out next whole words lines left e before new =
    ap (λ text. text ++ lines_text left) new
    ∙ append_assoc out (line_text words) (lines_text left)
    ∙ ap (λ lines. out ++ lines_text lines) (sym e)
    ∙ before

goal_lines-step : {X : Type 0} (k g : ℕ) (xs : List X) (i : ℕ) → i < length xs → goal_lines k g (drop i xs) ≡ (codes "cut" ∷ decimal k ∷ codes "goal" ∷ decimal g ∷ []) ∷ goal_lines (k + 1) (g + 1) (drop (suc i) xs)
goal_lines-step k g [] i lt = absurd (omega arith)
goal_lines-step k g (x ∷ xs) zero lt = refl
goal_lines-step k g (x ∷ xs) (suc i) lt = goal_lines-step k g xs i (omega arith)

-- the next goal's line is appended
pub goal_appended : {X : Type 0} (out next whole : List ℕ) (k j g : ℕ) (xs : List X) (i : ℕ) → i < length xs → j ≡ k + 1 → out ++ lines_text (goal_lines k g (drop i xs)) ≡ whole → next ≡ out ++ line_text (codes "cut" ∷ decimal k ∷ codes "goal" ∷ decimal g ∷ []) → next ++ lines_text (goal_lines j (g + 1) (drop (i + 1) xs)) ≡ whole
goal_appended out next whole k j g xs i lt e before new =
    rw (e, add-one i) (line_appended out next whole _ (goal_lines k g (drop i xs)) _ (goal_lines-step k g xs i lt) before new)

-- the next atom's line is appended
pub atom_appended : (out next whole : List ℕ) (sets : List (List Bool)) (leasts : List Header) (n : ℕ) (least : Header) → n < length leasts → least ≡ get_or leasts n least → out ++ lines_text (atom_lines sets n (drop n leasts)) ≡ whole → next ≡ out ++ line_text (codes "atom" ∷ decimal (n + 1) ∷ (header_words least ++ digits sets n ∷ [])) → next ++ lines_text (atom_lines sets (n + 1) (drop (n + 1) leasts)) ≡ whole
atom_appended out next whole sets leasts n least lt e before new =
    line_appended out next whole _ (atom_lines sets n (drop n leasts)) _ (ap (λ left. atom_lines sets n left) (drop-item leasts n least lt e)) before new

-- the lines of the cuts, and then those of the atoms, are the report
pub report_made : (net : Plan) (names lists : List (ℕ × List ℕ)) (sets : List (List Bool)) (leasts : List Header) (goals : List Goal) (o k l : List ℕ) →
    lists ≡ names → goals ≡ net.goals →
    o ≡ [] →
    k ≡ o ++ lines_text ((codes "cuts" ∷ decimal (length lists + length goals) ∷ []) ∷ (list_lines net 1 lists ++ goal_lines (length lists + 1) 1 goals)) →
    l ≡ k ++ lines_text ((codes "atoms" ∷ decimal (length leasts) ∷ []) ∷ atom_lines sets 0 leasts) →
    l ≡ atoms_text net names sets leasts
report_made net names lists sets leasts goals o k l of-lists of-goals none first second =
    made (codes "cuts" ∷ decimal (length names + length net.goals) ∷ []) (list_lines net 1 names) (goal_lines (length names + 1) 1 net.goals) ((codes "atoms" ∷ decimal (length leasts) ∷ []) ∷ atom_lines sets 0 leasts)
    o k l none (rw (of-lists, of-goals) at first) second
  where
    made : (head : List (List ℕ)) (lists goals atoms : List (List (List ℕ))) (o k l : List ℕ) → o ≡ [] → k ≡ o ++ lines_text (head ∷ (lists ++ goals)) → l ≡ k ++ lines_text atoms → l ≡ text_of_lines (head ∷ (lists ++ (goals ++ atoms)))
    made head lists goals atoms o k l none first second =
        second
        ∙ ap (λ text. text ++ lines_text atoms) (first ∙ ap (λ text. text ++ lines_text (head ∷ (lists ++ goals))) none)
        ∙ sym (lines_text-append (head ∷ (lists ++ goals)) atoms)
        ∙ ap (λ lines. lines_text (head ∷ lines)) (append_assoc lists goals atoms)
        ∙ sym (lines_appended (head ∷ (lists ++ (goals ++ atoms))))

-- What lines declare one after another, where a line is judged against what the lines before it declare.
use Rattle.std.specs.Prelude.{◌≡◌, ℕ, List, [], ◌∷◌, ◌++◌, Option, Some, None, Ok}
use Rattle.np_lines.specs.declared.fault.LineFault.{LineFault}
use Rattle.np_lines.specs.Judging.{Judged, ◌>>=◌}
use Rattle.np_lines.specs.Reading.{at_line, text_says}

-- what is declared, with a statement where there is one
abbrev pub added_if : {S D : Type 0} → (D → S → D) → D → Option S → D
added_if added declared None = declared
added_if added declared (Some s) = added declared s

-- the last of these, and the first argument where there is none
abbrev pub last_or : {X : Type 0} → Option X → List X → Option X
last_or before [] = before
last_or before (x ∷ xs) = last_or (Some x) xs

-- one statement more declares what it adds to what the others declare
abbrev pub GrowsBy : {S D : Type 0} → (List S → D) → (D → S → D) → Type 0
GrowsBy {S} declared_by added = (before : List S) (s : S) → declared_by (before ++ s ∷ []) ≡ added (declared_by before) s

-- what is declared after a line of this number, or the line's fault
abbrev pub after_line : {W S D : Type 0} → (D → List ℕ → Judged W (Option S)) → (D → S → D) → D → ℕ → List ℕ → Judged (LineFault W) D
after_line judge added declared number line = at_line number (judge declared line) >>= λ said. Ok (added_if added declared said)

-- what is made of all that is declared after these numbered lines, or the first faulty one
abbrev pub lines_give : {W S D N : Type 0} → (D → List ℕ → Judged W (Option S)) → (D → S → D) → (D → N) → D → List (ℕ × List ℕ) → Judged (LineFault W) N
lines_give judge added make declared [] = Ok (make declared)
lines_give judge added make declared (line ∷ lines) =
    after_line judge added declared line.0 line.1 >>= λ next. lines_give judge added make next lines

-- what is made of all that a text's statements declare, or its first faulty line; each line is judged against what the statements before it declare
abbrev pub text_gives : {W S D N : Type 0} → (D → List ℕ → Judged W (Option S)) → (List S → D) → (D → N) → List ℕ → Judged (LineFault W) N
text_gives judge declared_by make text = text_says (λ before. judge (declared_by before)) text >>= λ statements. Ok (make (declared_by statements))

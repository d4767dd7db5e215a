-- What a text says whose lines are judged one after another, each against the statements on the lines before it.
use Rattle.std.specs.Prelude.{◌≡◌, ℕ, ◌+◌, List, [], ◌∷◌, ◌++◌, Option, Some, None, Ok, Err}
use Rattle.np_text.specs.Lines.{lines_of}
use Rattle.np_lines.specs.declared.fault.LineFault.{LineFault}
use Rattle.np_lines.specs.Judging.{Judged, ◌>>=◌}

-- a fault of a line, with the line's number
abbrev pub at_line : {W A : Type 0} → ℕ → Judged W A → Judged (LineFault W) A
at_line number (Ok x) = Ok x
at_line number (Err why) = Err (record { line = number; why = why })

-- these statements, with one more where there is one
abbrev pub and_one : {S : Type 0} → List S → Option S → List S
and_one statements None = statements
and_one statements (Some s) = statements ++ s ∷ []

-- The statements of a text whose lines so far have these, and whose other lines follow, the first of them with this number. Each line is
-- judged against the statements before it, and the first faulty line decides.
abbrev pub statements_from : {W S : Type 0} → (List S → List ℕ → Judged W (Option S)) → List S → ℕ → List (List ℕ) → Judged (LineFault W) (List S)
statements_from judge before number [] = Ok before
statements_from judge before number (line ∷ lines) =
    at_line number (judge before line) >>= λ said. statements_from judge (and_one before said) (number + 1) lines

-- the statements of a text, or its first faulty line
abbrev pub text_says : {W S : Type 0} → (List S → List ℕ → Judged W (Option S)) → List ℕ → Judged (LineFault W) (List S)
text_says judge text = statements_from judge [] 1 (lines_of text)

-- the statements among what lines say
abbrev pub statements_said : {S : Type 0} → List (Option S) → List S
statements_said [] = []
statements_said (None ∷ saids) = statements_said saids
statements_said (Some s ∷ saids) = s ∷ statements_said saids

-- each of these lines says this, a statement or nothing, the first line the first, after these statements and those of the lines before it
abbrev pub EachSays : {W S : Type 0} → (List S → List ℕ → Judged W (Option S)) → List S → List (List ℕ) → List (Option S) → Type 0
EachSays judge before [] [] = Unit {0}
EachSays judge before [] (said ∷ saids) = ⊥
EachSays judge before (line ∷ lines) [] = ⊥
EachSays judge before (line ∷ lines) (said ∷ saids) = (judge before line ≡ Ok said) × EachSays judge (and_one before said) lines saids

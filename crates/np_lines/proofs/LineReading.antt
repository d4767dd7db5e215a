-- A text that is read line by line, with what was declared, is what its statements declare.
use Rattle.std.proofs.Common.{◌≡◌, ℕ, ◌+◌, Bool, List, [], ◌∷◌, ◌++◌, map, Option, Some, None, refl, ap, sym, ◌∙◌, append-nil, append_assoc}
use Rattle.std.specs.Prelude.{Ok, Err}
use Rattle.std.specs.List.{enumerate_from}
use Rattle.np_text.proofs.JoinedLaws.{lines_of-joined_text}
use Rattle.np_text.specs.Joined.{AreLinesOfWords, joined_line, joined_text}
use Rattle.np_text.specs.Lines.{lines_of, numbered_lines}
use Rattle.np_lines.specs.Declaring.{GrowsBy, added_if, lines_give, text_gives}
use Rattle.np_lines.specs.Judging.{Judged, ◌>>=◌}
use Rattle.np_lines.specs.Reading.{and_one, EachSays, at_line, statements_from, statements_said, text_says}

-- lines that each say this are read as the statements among it, after those before them
pub each_read : {W S : Type 0} (judge : List S → List ℕ → Judged W (Option S)) (before : List S) (number : ℕ) (lines : List (List ℕ)) (saids : List (Option S)) → EachSays judge before lines saids → statements_from judge before number lines ≡ Ok (before ++ statements_said saids)
each_read judge before number [] [] says = ap (λ all. Ok all) (sym (append-nil before))
each_read judge before number [] (said ∷ saids) says = absurd says
each_read judge before number (line ∷ lines) [] says = absurd says
each_read judge before number (line ∷ lines) (None ∷ saids) says = rw says.0 (each_read judge before (number + 1) lines saids says.1)
each_read judge before number (line ∷ lines) (Some s ∷ saids) says =
    rw says.0 (each_read judge (before ++ s ∷ []) (number + 1) lines saids says.1 ∙ ap (λ all. Ok all) (append_assoc before (s ∷ []) (statements_said saids)))

-- so is a text of such lines
pub text_read : {W S : Type 0} (judge : List S → List ℕ → Judged W (Option S)) (text : List ℕ) (saids : List (Option S)) → EachSays judge [] (lines_of text) saids → text_says judge text ≡ Ok (statements_said saids)
text_read judge text saids says = each_read judge [] 1 (lines_of text) saids says

-- and a text of joined words whose lines are such
pub joined_read : {W S : Type 0} (judge : List S → List ℕ → Judged W (Option S)) (lines : List (Bool × List (List ℕ))) (saids : List (Option S)) → AreLinesOfWords lines → EachSays judge [] (map (λ line. joined_line line.0 line.1) lines) saids → text_says judge (joined_text lines) ≡ Ok (statements_said saids)
joined_read judge lines saids words says =
    ap (statements_from judge [] 1) (lines_of-joined_text lines words) ∙ each_read judge [] 1 (map (λ line. joined_line line.0 line.1) lines) saids says

module _ {W S D N : Type 0} (judge : D → List ℕ → Judged W (Option S)) (declared_by : List S → D) (added : D → S → D) (make : D → N) (grows : GrowsBy declared_by added) where
  -- statements with one more, where there is one, declare what was declared and that one
  pub declared_by_more : (before : List S) (said : Option S) → declared_by (and_one before said) ≡ added_if added (declared_by before) said
  declared_by_more before None = refl
  declared_by_more before (Some s) = grows before s

  after_one : (before : List S) (number : ℕ) (judged : Judged W (Option S)) (lines : List (List ℕ)) →
      ((said : Option S) → (statements_from (λ earlier. judge (declared_by earlier)) (and_one before said) (number + 1) lines >>= λ statements. Ok (make (declared_by statements))) ≡ lines_give judge added make (declared_by (and_one before said)) (enumerate_from (number + 1) lines)) →
      ((at_line number judged >>= λ said. statements_from (λ earlier. judge (declared_by earlier)) (and_one before said) (number + 1) lines) >>= λ statements. Ok (make (declared_by statements)))
      ≡ ((at_line number judged >>= λ said. Ok (added_if added (declared_by before) said)) >>= λ next. lines_give judge added make next (enumerate_from (number + 1) lines))
  after_one before number (Ok said) lines rest = rest said ∙ ap (λ d. lines_give judge added make d (enumerate_from (number + 1) lines)) (declared_by_more before said)
  after_one before number (Err why) lines rest = refl

  -- the statements of lines declare what the lines declare one after another
  pub statements_declare : (before : List S) (number : ℕ) (lines : List (List ℕ)) →
      (statements_from (λ earlier. judge (declared_by earlier)) before number lines >>= λ statements. Ok (make (declared_by statements))) ≡ lines_give judge added make (declared_by before) (enumerate_from number lines)
  statements_declare before number [] = refl
  statements_declare before number (line ∷ lines) =
      after_one before number (judge (declared_by before) line) lines (λ said. statements_declare (and_one before said) (number + 1) lines)

  -- the statements of a text declare what its lines declare one after another
  pub text_gives_lines : (text : List ℕ) → text_gives judge declared_by make text ≡ lines_give judge added make (declared_by []) (numbered_lines text)
  text_gives_lines text = statements_declare [] 1 (lines_of text)

  -- the same where nothing is declared yet and the lines are those of the text, as a loop over them begins
  pub loop_begins : (d : D) (lines : List (ℕ × List ℕ)) (text : List ℕ) → d ≡ declared_by [] → lines ≡ numbered_lines text → lines_give judge added make d lines ≡ text_gives judge declared_by make text
  loop_begins d lines text none all =
      ap (λ d. lines_give judge added make d lines) none ∙ ap (lines_give judge added make (declared_by [])) all ∙ sym (text_gives_lines text)

-- Which bytes a line may have, and which lines are skipped.
use Rattle.std.specs.Prelude.{ℕ, Bool, true, false, ◌&&◌, ◌||◌, ◌==◌, nat_le, List, [], ◌∷◌, Option, None, Ok, if◌then◌else◌}
use Rattle.np_lines.specs.Judging.{Judged}

-- a byte of a plain text: a printable character of ASCII, a tab or a carriage return
abbrev pub is_text_byte : ℕ → Bool
is_text_byte b = (nat_le 32 b && nat_le b 126) || b == 9 || b == 13

-- a word begins with this byte
abbrev pub begins_with : ℕ → List ℕ → Bool
begins_with mark [] = false
begins_with mark (b ∷ bs) = b == mark

-- a line of these words is skipped: it has none, or the first begins with the byte that marks a comment
abbrev pub is_skipped : ℕ → List (List ℕ) → Bool
is_skipped mark [] = true
is_skipped mark (word ∷ words) = begins_with mark word

-- what the words of a line say, by the first and the others; a line that is skipped says nothing
abbrev pub words_say : {W S : Type 0} → ℕ → (List ℕ → List (List ℕ) → Judged W (Option S)) → List (List ℕ) → Judged W (Option S)
words_say mark says [] = Ok None
words_say mark says (word ∷ words) = if begins_with mark word then Ok None else says word words

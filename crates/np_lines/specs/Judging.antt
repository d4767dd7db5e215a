-- How a line is judged word by word, up to its first fault. The cause of a fault is any type.
use Rattle.std.specs.Prelude.{ℕ, List, [], ◌∷◌, nat_lt, Result, Ok, Err, if◌then◌else◌}

-- a value, or the first fault
abbrev pub Judged : Type 0 → Type 0 → Type 0
Judged W X = Result X W

-- goes on with the value, and gives the first fault as it is
infixl 10 ◌>>=◌
abbrev pub ◌>>=◌ : {W A B : Type 0} → Judged W A → (A → Judged W B) → Judged W B
(Ok x) >>= f = f x
(Err why) >>= f = Err why

-- what words give that are read from the first on: a value, and the words that are left
abbrev pub Read : Type 0 → Type 0 → Type 0
Read W X = Judged W (X × List (List ℕ))

-- the first word and the words after it; none may be missing
abbrev pub word_in : {W : Type 0} → W → List (List ℕ) → Read W (List ℕ)
word_in missing [] = Err missing
word_in missing (word ∷ words) = Ok (word, words)

-- a value, where no word is left
abbrev pub ended : {W A : Type 0} → W → List (List ℕ) → A → Judged W A
ended more [] x = Ok x
ended more (word ∷ words) x = Err more

-- an item, where there are so many and may be as many as the limit
abbrev pub within : {W A : Type 0} → W → ℕ → ℕ → A → Judged W A
within many limit count x = if nat_lt count limit then Ok x else Err many

-- What a sink took.
use Rattle.std.specs.Prelude.{◌≡◌, ◌<◌, ℕ, List, ◌++◌, length, take, Option, Some}

-- A sink that told its bytes has taken the text after them.
abbrev pub Took : Option (List ℕ) → Option (List ℕ) → List ℕ → Type 0
Took old new text = (bytes : List ℕ) → old ≡ Some bytes → new ≡ Some (bytes ++ text)

-- A sink that told its bytes has taken a part of the text after them, from its front and not all of it.
abbrev pub TookPrefix : Option (List ℕ) → Option (List ℕ) → List ℕ → Type 0
TookPrefix old new text = (bytes : List ℕ) → old ≡ Some bytes → (n : ℕ) × (n < length text) × (new ≡ Some (bytes ++ take n text))

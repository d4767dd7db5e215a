-- The words of a line whose bytes may stand in a network's text.
use Rattle.std.specs.Prelude.{◌≡◌, ℕ, List, true}
use Rattle.std.specs.List.{AllByRecursion}
use Rattle.np_net.specs.Names.{is_file_name}

-- each of the words may name a file
abbrev pub ArePlainWords : List (List ℕ) → Type 0
ArePlainWords words = AllByRecursion (λ word. is_file_name word ≡ true) words

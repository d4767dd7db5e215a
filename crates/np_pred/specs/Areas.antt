-- Areas: their names, each with its source addresses.
use Rattle.std.specs.Prelude.{◌≡◌, ℕ, true, List, Option}
use Rattle.std.specs.List.{AllByRecursion}
use Rattle.std.specs.Map.{lookup}
use Rattle.std.specs.Str.{bytes_eq}
use Rattle.np_space.specs.declared.patterns.Ternary.{Ternary}
use Rattle.np_pred.specs.Patterns.{are_prefixes}

-- the names, each with its sources
abbrev pub AreaList : Type 0
AreaList = List (List ℕ × List Ternary)

-- the sources of the area with this name
abbrev pub sources_named : AreaList → List ℕ → Option (List Ternary)
sources_named areas name = lookup (bytes_eq name) areas

-- each of the patterns is a prefix
abbrev pub AreSourcesPrefixes : AreaList → Type 0
AreSourcesPrefixes areas = AllByRecursion (λ area. are_prefixes area.1 ≡ true) areas

-- Areas whose patterns are prefixes.
use Rattle.std.proofs.Common.{◌≡◌, ℕ, Bool, true, false, cond, List, [], ◌∷◌, ◌++◌, Option, Some}
use Rattle.std.specs.Map.{lookup}
use Rattle.np_space.specs.declared.patterns.Ternary.{Ternary}
use Rattle.np_pred.specs.Areas.{AreaList, AreSourcesPrefixes}
use Rattle.np_pred.specs.Patterns.{are_prefixes}

-- one more area
pub AreSourcesPrefixes-more : (areas : AreaList) (name : List ℕ) (sources : List Ternary) → AreSourcesPrefixes areas → are_prefixes sources ≡ true → AreSourcesPrefixes (areas ++ (name, sources) ∷ [])
AreSourcesPrefixes-more [] name sources h new = (new, tt)
AreSourcesPrefixes-more (a ∷ areas) name sources h new = (h.0, AreSourcesPrefixes-more areas name sources h.1 new)

-- the first entry by its test, or one after it
found_by_cases : (b : Bool) (own : List Ternary) (rest : Option (List Ternary)) (sources : List Ternary) → are_prefixes own ≡ true → (rest ≡ Some sources → are_prefixes sources ≡ true) → cond b (Some own) rest ≡ Some sources → are_prefixes sources ≡ true
found_by_cases true own rest sources here there e = let same : own ≡ sources = cc in rw (← same) here
found_by_cases false own rest sources here there e = there e

-- what is found is prefixes
pub are_prefixes-named : (test : List ℕ → Bool) (areas : AreaList) (sources : List Ternary) → AreSourcesPrefixes areas → lookup test areas ≡ Some sources → are_prefixes sources ≡ true
are_prefixes-named test [] sources h e = cc
are_prefixes-named test (a ∷ areas) sources h e = found_by_cases (test a.0) a.1 (lookup test areas) sources h.0 (are_prefixes-named test areas sources h.1) e

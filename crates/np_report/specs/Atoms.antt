-- The report on the atoms of a network's filter cuts.
use Rattle.std.specs.Prelude.{ℕ, ◌+◌, Bool, List, [], ◌∷◌, ◌++◌, codes, length, map, if◌then◌else◌}
use Rattle.std.specs.Fmt.{decimal}
use Rattle.np_space.specs.declared.headers.Header.{Header}
use Rattle.np_atomset.specs.AtomSet.{has_member}
use Rattle.np_net.specs.Naming.{device_name}
use Rattle.np_net.specs.Plan.{Plan}
use Rattle.np_script.specs.Written.{header_words}
use Rattle.np_text.specs.Joined.{text_of_lines}

-- a line for each list that is applied, of which the first has this number: its device and its name
abbrev pub list_lines : Plan → ℕ → List (ℕ × List ℕ) → List (List (List ℕ))
list_lines net k [] = []
list_lines net k (list ∷ lists) = (codes "cut" ∷ decimal k ∷ codes "list" ∷ device_name net list.0 ∷ list.1 ∷ []) ∷ list_lines net (k + 1) lists

-- a line for each of so many goals, of which the first has this number among the cuts and that one among the goals
abbrev pub goal_lines : {X : Type 0} → ℕ → ℕ → List X → List (List (List ℕ))
goal_lines k g [] = []
goal_lines k g (goal ∷ goals) = (codes "cut" ∷ decimal k ∷ codes "goal" ∷ decimal g ∷ []) ∷ goal_lines (k + 1) (g + 1) goals

-- a digit for each cut, 1 where it has the atom of this number; `-` where there is no cut
abbrev pub digits : List (List Bool) → ℕ → List ℕ
digits [] n = codes "-"
digits (set ∷ sets) n = map (λ s. if has_member s n then 49 else 48) (set ∷ sets)

-- a line for each atom, of which the first has this number from 0: the number from 1, its least member, and what the cuts say of it
abbrev pub atom_lines : List (List Bool) → ℕ → List Header → List (List (List ℕ))
atom_lines sets n [] = []
atom_lines sets n (h ∷ leasts) = (codes "atom" ∷ decimal (n + 1) ∷ (header_words h ++ digits sets n ∷ [])) ∷ atom_lines sets (n + 1) leasts

-- the lines of the cuts, and then those of the atoms
abbrev pub atoms_lines : Plan → List (ℕ × List ℕ) → List (List Bool) → List Header → List (List (List ℕ))
atoms_lines net lists sets leasts =
    (codes "cuts" ∷ decimal (length lists + length net.goals) ∷ [])
    ∷ (list_lines net 1 lists
    ++ (goal_lines (length lists + 1) 1 net.goals
    ++ ((codes "atoms" ∷ decimal (length leasts) ∷ []) ∷ atom_lines sets 0 leasts)))

-- the text: the lists with their devices, what each cut says of each atom, and the atoms' least members
abbrev pub atoms_text : Plan → List (ℕ × List ℕ) → List (List Bool) → List Header → List ℕ
atoms_text net lists sets leasts = text_of_lines (atoms_lines net lists sets leasts)

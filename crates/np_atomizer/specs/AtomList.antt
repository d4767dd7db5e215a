-- Lists of atoms in the making.
use Rattle.std.specs.Prelude.{Bool, List, map}
use Rattle.std.specs.Ordering.{is_lt}
use Rattle.np_space.specs.Header.{header_order}
use Rattle.np_space.specs.declared.headers.Header.{Header}
use Rattle.np_atomizer.specs.declared.atom_list.Atom.{Atom}

-- the regions of the atoms
abbrev pub regions_of : {R : Type 0} → List (Atom R) → List R
regions_of atoms = map (λ a. a.region) atoms

-- the least members of the atoms
abbrev pub leasts_of : {R : Type 0} → List (Atom R) → List Header
leasts_of atoms = map (λ a. a.least) atoms

-- the least member of the first stands before that of the second
abbrev pub is_before : {R : Type 0} → Atom R → Atom R → Bool
is_before x y = is_lt (header_order x.least y.least)

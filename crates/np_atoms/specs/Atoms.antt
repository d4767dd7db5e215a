-- What the atoms of a list of cuts are. A cut stands for its test: whether it has a header.
use Rattle.std.specs.Prelude.{◌≡◌, Bool, List, map}
use Rattle.np_space.specs.Classes.{AreLeasts}
use Rattle.np_space.specs.declared.headers.Header.{Header}
use Rattle.np_atoms.specs.declared.Atoms.{Atoms}

-- for each cut the atoms that it has: it has an atom where it has its least member
abbrev pub cut_sets : List (Header → Bool) → List Header → List (List Bool)
cut_sets tests leasts = map (λ test. map test leasts) tests

-- the atoms are the classes of the valid headers that the tests tell apart, in the order of their least members, and the sets say
-- which of them each cut has
pub record AreAtoms (tests : List (Header → Bool)) (atoms : Atoms) : Type 0 where
  pub leasts : AreLeasts tests atoms.leasts
  pub sets : atoms.cuts ≡ cut_sets tests atoms.leasts

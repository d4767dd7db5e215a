-- Ports, one behind the other.
use Rattle.std.proofs.Common.{◌≡◌, ℕ, List, [], ◌∷◌, ◌++◌, Ok, refl}
use Rattle.np_acl.specs.declared.kinds.PortNames.{PortNames}
use Rattle.np_entry_read.specs.declared.fault.ConfigWhy.{ConfigWhy}
use Rattle.np_entry_read.specs.Entries.{more_ports, port_in, ports_in}
use Rattle.np_lines.specs.Judging.{◌>>=◌, Read}

-- ports in front of those that are read
abbrev pub behind : List ℕ → Read ConfigWhy (List ℕ) → Read ConfigWhy (List ℕ)
behind front read = read >>= λ more. Ok (front ++ more.0, more.1)

-- the first port, in front of the others
pub ports_start : (names : PortNames) (words : List (List ℕ)) (first : ℕ) (left : List (List ℕ)) → port_in names words ≡ Ok (first, left)
    → behind (first ∷ []) (more_ports names 1 left) ≡ ports_in names words
unfolding ports_in
ports_start names words first left read = rw read refl

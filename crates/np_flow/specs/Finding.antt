-- That a search for a path always ends in one of two ways.
use Rattle.std.specs.Prelude.{◌⊎◌, ℕ, Bool, List}
use Rattle.np_net.specs.declared.filtering.Interface.{Interface}
use Rattle.np_flow.specs.Carrying.{Reaches, IsFirstPath}

-- Either some path may be crossed, and then there is a first one, or none may be.
abbrev pub HaveFirstPaths : Type 0
HaveFirstPaths = (interfaces : List Interface) (lets : ℕ → Bool) (a b : ℕ) → ((hops : List (ℕ × ℕ)) × IsFirstPath interfaces lets a hops b) ⊎ (Reaches interfaces lets a b → ⊥)

-- What `show` writes.
use Rattle.std.specs.Prelude.{◌≡◌, ℕ, List}
use Rattle.np_net.specs.Plan.{Plan}
use Rattle.np_net_text.specs.Canonical.{net_text}
use Rattle.np_top.specs.declared.status.Status.{Status}
use Rattle.np_top.specs.declared.status.Status.TheVariants.{Holds}

-- the canonical text of a network
abbrev pub IsCanonical : Plan → List ℕ → Status → Type 0
IsCanonical net text status = (text ≡ net_text net) × (status ≡ Holds)

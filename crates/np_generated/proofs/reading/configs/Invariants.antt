use Rattle.std.proofs.Common.{◌≡◌, map, take}
use Rattle.std.specs.Prelude.{Ok}
use Rattle.np_acl_read.specs.Reading.{config_of}
use Rattle.np_generated.proofs.reading.configs.Given as goal

-- the texts so far are read as the configurations so far
abbrev pub invariant-loop-n : goal.invariant-loop-n
invariant-loop-n l = map config_of (take l.n l.texts) ≡ map (λ config. Ok config) l.configs.items

use Rattle.std.proofs.Common.{◌≡◌, take}
use Rattle.np_cut.specs.Applying.{names_of_keys}
use Rattle.np_cut.proofs.key_set.set_of_keys.Given as goal

abbrev pub invariant-loop-key : goal.invariant-loop-key
invariant-loop-key l = l.set ≡ names_of_keys (take l.key-index l.keys)

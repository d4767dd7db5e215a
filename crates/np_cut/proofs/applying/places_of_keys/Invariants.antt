use Rattle.std.proofs.Common.{◌≡◌, map, take}
use Rattle.np_cut.specs.Applying.{place_in}
use Rattle.np_cut.proofs.applying.places_of_keys.Given as goal

abbrev pub invariant-loop-key : goal.invariant-loop-key
invariant-loop-key l = l.at ≡ map (place_in l.set) (take l.key-index l.keys)

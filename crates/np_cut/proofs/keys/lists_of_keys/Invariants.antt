use Rattle.std.proofs.Common.{◌≡◌, map, take}
use Rattle.np_cut.specs.Applying.{key_list}
use Rattle.np_cut.proofs.keys.lists_of_keys.Given as goal

-- the lists so far are those of the keys so far
abbrev pub invariant-loop-n : goal.invariant-loop-n
invariant-loop-n l = map (λ list. list.now) l.lists.items ≡ map (key_list l.configs) (take l.n l.keys)

use Rattle.std.proofs.Common.{◌≡◌, ◌<◌, IfSome, take}
use Rattle.std.specs.Option.{option_map}
use Rattle.std.specs.FinMap.{get}
use Rattle.np_outside.specs.MemFiles.{files_of, bytes_at}
use Rattle.np_outside.proofs.mem_shelf.newest.Given as goal

abbrev pub invariant-loop-i : goal.invariant-loop-i
invariant-loop-i l = record {
  there : IfSome l.found (λ k. k < l.i);
  found : get (files_of (take l.i l.files)) l.name ≡ option_map (bytes_at l.files) l.found;
}

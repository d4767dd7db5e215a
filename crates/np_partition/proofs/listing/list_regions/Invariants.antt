use Rattle.std.proofs.Common.{take}
use Rattle.np_partition.specs.Listed.{AreListed, IsListMemo}
use Rattle.np_partition.proofs.listing.list_regions.Given as goal

-- of the regions so far
abbrev pub invariant-loop-x : goal.invariant-loop-x
invariant-loop-x l = AreListed (take l.x-index l.xs) l.nodes.items l.places.items × IsListMemo l.nodes.items l.memo

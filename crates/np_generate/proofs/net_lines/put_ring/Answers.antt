use Rattle.std.proofs.Common.{◌≡◌, arith}
use Rattle.np_generate.specs.NetLines.{rings_lines}
use Rattle.np_generate.proofs.LineLaws.{grown, ring_next}
use Rattle.np_generate.proofs.net_lines.put_ring.Goals as goal

pub loop-k-preserved : goal.loop-k-preserved
loop-k-preserved c = grown _ _ _ _ _ _ c.loop-k.invariant c.in_ok-put_interfaces.ensures (ring_next c.loop-k.k)

pub returns : goal.returns
unfolding rings_lines
returns c = let at_end : c.loop-k.k ≡ 16 = omega arith in rw at_end at c.loop-k.invariant

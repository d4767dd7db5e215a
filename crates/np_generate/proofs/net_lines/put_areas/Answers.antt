use Rattle.std.proofs.Common.{◌≡◌, arith}
use Rattle.np_generate.specs.NetLines.{areas_lines}
use Rattle.np_generate.proofs.LineLaws.{grown, area_next}
use Rattle.np_generate.proofs.net_lines.put_areas.Goals as goal

pub loop-k-preserved : goal.loop-k-preserved
loop-k-preserved c = grown _ _ _ _ _ _ c.loop-k.invariant c.in_ok-put_area.ensures (area_next c.loop-k.k)

pub returns : goal.returns
unfolding areas_lines
returns c = let at_end : c.loop-k.k ≡ 16 = omega arith in rw at_end at c.loop-k.invariant

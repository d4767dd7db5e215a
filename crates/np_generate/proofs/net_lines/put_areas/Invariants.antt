use Rattle.std.proofs.Common.{◌≡◌, ◌++◌, map}
use Rattle.std.specs.List.{range_with_len}
use Rattle.np_text.specs.Joined.{text_of_lines}
use Rattle.np_generate.specs.NetLines.{area_line}
use Rattle.np_generate.proofs.net_lines.put_areas.Given as goal

abbrev pub invariant-loop-k : goal.invariant-loop-k
invariant-loop-k l = l.out.items ≡ l.initial.out.items ++ text_of_lines (map area_line (range_with_len 0 l.k))

use Rattle.std.proofs.Common.{◌≡◌}
use Rattle.np_lines.specs.Declaring.{lines_give}
use Rattle.np_script.specs.Judging.{line_says}
use Rattle.np_script.specs.Reading.{lines_say}
use Rattle.np_script.specs.Saying.{added}
use Rattle.np_script.proofs.reading.draft.Given as goal

abbrev pub invariant-loop-line : goal.invariant-loop-line
invariant-loop-line l = lines_give (line_says l.names) added (λ draft. draft) l.draft l.line-iterator ≡ lines_say l.names l.bytes

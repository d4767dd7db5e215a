use Rattle.std.proofs.Common.{◌≡◌}
use Rattle.np_lines.specs.Declaring.{lines_give}
use Rattle.np_net_read.specs.Declaring.{network_of}
use Rattle.np_net_read.specs.Fitting.{added}
use Rattle.np_net_read.specs.Judging.{line_says}
use Rattle.np_net_read.specs.Drafting.{IsDraft}
use Rattle.np_net_read.specs.Reading.{net_of}
use Rattle.np_net_read.proofs.reading.read_net.Given as goal

abbrev pub invariant-loop-line : goal.invariant-loop-line
invariant-loop-line l = record {
  left : lines_give line_says added network_of l.draft.declared l.line-iterator ≡ net_of l.bytes;
  draft : IsDraft l.draft;
}

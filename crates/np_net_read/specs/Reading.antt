-- What a network's text is: a network, or its first faulty line with that line's first fault.
use Rattle.std.specs.Prelude.{ℕ, List}
use Rattle.np_lines.specs.Declaring.{text_gives}
use Rattle.np_lines.specs.Judging.{Judged}
use Rattle.np_lines.specs.declared.fault.LineFault.{LineFault}
use Rattle.np_net.specs.Plan.{Plan}
use Rattle.np_net_read.specs.declared.fault.NetWhy.{NetWhy}
use Rattle.np_net_read.specs.Declaring.{declared_by_network, network_of}
use Rattle.np_net_read.specs.Judging.{line_says}

-- The network that a text declares, or its first fault. Each line is judged against what the statements on the lines before it declare.
abbrev pub net_of : List ℕ → Judged (LineFault NetWhy) Plan
net_of text = text_gives line_says declared_by_network network_of text

use Rattle.std.proofs.Common.{◌≡◌, length}
use Rattle.np_lines.specs.Answers.{texts}
use Rattle.np_entry_read.specs.Entries.{more_ports, ports_in}
use Rattle.np_entry_read.proofs.PortLaws.{behind}
use Rattle.np_entry_read.proofs.ports.ports.Given as goal

-- the ports so far in front of those that are left are all of them
abbrev pub invariant-loop-left : goal.invariant-loop-left
invariant-loop-left l = behind l.ports.items (more_ports l.names (length l.ports.items) (texts l.left)) ≡ ports_in l.fn.names (texts l.fn.words)

abbrev pub decreases-loop-left : goal.decreases-loop-left
decreases-loop-left l = length l.left

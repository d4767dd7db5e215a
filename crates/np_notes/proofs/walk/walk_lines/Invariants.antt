use Rattle.std.proofs.Common.{◌≡◌}
use Rattle.np_lines.specs.Declaring.{lines_give}
use Rattle.np_acl_read.specs.Adding.{added}
use Rattle.np_acl_read.specs.Declaring.{config_with}
use Rattle.np_acl_read.specs.Judging.{line_says}
use Rattle.np_acl_read.specs.Reading.{config_of}
use Rattle.np_notes.specs.ReadLines.{read_lines}
use Rattle.np_notes.specs.Walked.{LeavesOf}
use Rattle.np_notes.proofs.walk.walk_lines.Given as goal

-- with the lines that are left, what is known leads to the lines of the text, and what is declared gives what the text gives
abbrev pub invariant-loop-line : goal.invariant-loop-line
invariant-loop-line l = record {
  leaves : LeavesOf l.walk l.line-iterator (read_lines l.text);
  gives : lines_give line_says added config_with l.walk.declared l.line-iterator ≡ config_of l.text;
}

use Rattle.std.proofs.Common.{◌≡◌}
use Rattle.np_lines.specs.Declaring.{lines_give}
use Rattle.np_acl_read.specs.Adding.{added}
use Rattle.np_acl_read.specs.Declaring.{config_with}
use Rattle.np_acl_read.specs.Judging.{line_says}
use Rattle.np_acl_read.specs.Reading.{config_of}
use Rattle.np_acl_read.proofs.reading.read_config.Given as goal

-- what is declared so far and the lines that are left give what the text gives
abbrev pub invariant-loop-line : goal.invariant-loop-line
invariant-loop-line l = lines_give line_says added config_with l.declared l.line-iterator ≡ config_of l.bytes

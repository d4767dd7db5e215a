-- What a configuration's text is: lists and groups, or its first faulty line with that line's first fault.
use Rattle.std.specs.Prelude.{ℕ, List}
use Rattle.np_lines.specs.Declaring.{text_gives}
use Rattle.np_lines.specs.Judging.{Judged}
use Rattle.np_lines.specs.declared.fault.LineFault.{LineFault}
use Rattle.np_entry_read.specs.declared.fault.ConfigWhy.{ConfigWhy}
use Rattle.np_acl_read.specs.declared.config.Config.{Config}
use Rattle.np_acl_read.specs.Declaring.{declared_by_config, config_with}
use Rattle.np_acl_read.specs.Judging.{line_says}

-- the configuration that a text's statements declare, or its first fault; each line is judged against what the statements before it declare
abbrev pub config_of : List ℕ → Judged (LineFault ConfigWhy) Config
config_of text = text_gives line_says declared_by_config config_with text

-- What the reader's calls answer.
use Rattle.std.specs.Prelude.{Option, Some, None, Result}
use Rattle.np_lines.specs.Answers.{Gives}
use Rattle.np_lines.specs.Judging.{Judged}
use Rattle.np_lines.specs.declared.line_error.LineError.{LineError}
use Rattle.np_entry_read.specs.declared.fault.ConfigWhy.{ConfigWhy}

-- a call that may have nothing to say says what judging says
abbrev pub GivesIf : {X : Type 0} → Option (Result X (LineError ConfigWhy)) → Option (Judged ConfigWhy X) → Type 0
GivesIf None None = Unit {0}
GivesIf None (Some judged) = ⊥
GivesIf (Some result) None = ⊥
GivesIf (Some result) (Some judged) = Gives result judged

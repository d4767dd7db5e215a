-- What becomes of a command.
use Rattle.std.specs.Prelude.{ℕ, List, Result, Ok, Err}
use Rattle.np_load.specs.declared.halt.Halt.{Halt}
use Rattle.np_load.specs.declared.halt.Halt.TheVariants as halts
use Rattle.np_top.specs.declared.report.Answer.{Answer}
use Rattle.np_top.specs.declared.status.Status.{Status}
use Rattle.np_top.specs.declared.status.Status.TheVariants.{Refused}

-- what is to be written for a command, once its files are loaded, or the line that refuses one; a fault and want of memory say nothing
abbrev pub Replies : Result Answer Halt → (List ℕ → Status → Type 0) → Type 0
Replies (Ok answer) Is = Is answer.text answer.status
Replies (Err (halts.Refused text)) Is = Is text Refused
Replies (Err halts.ReadFault) Is = Unit {0}
Replies (Err halts.Memory) Is = Unit {0}

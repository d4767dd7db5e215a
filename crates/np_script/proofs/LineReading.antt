-- A script's text, read line by line.
use Rattle.std.proofs.Common.{◌≡◌, ℕ, List, []}
use Rattle.np_text.specs.Lines.{numbered_lines}
use Rattle.np_lines.specs.Declaring.{lines_give}
use Rattle.np_lines.proofs.LineReading.{loop_begins}
use Rattle.np_net.specs.Naming.{NameLists}
use Rattle.np_script.specs.declared.draft.Draft.{Draft}
use Rattle.np_script.specs.Judging.{line_says}
use Rattle.np_script.specs.Reading.{lines_say}
use Rattle.np_script.specs.Saying.{added, draft_of}
use Rattle.np_script.proofs.SayingLaws.{one_more}

-- where nothing is said yet, all lines with their numbers say what the text says
pub text_begins : (names : NameLists) (draft : Draft) (lines : List (ℕ × List ℕ)) (bytes : List ℕ) → draft ≡ draft_of [] → lines ≡ numbered_lines bytes
    → lines_give (line_says names) added (λ draft. draft) draft lines ≡ lines_say names bytes
unfolding lines_say
text_begins names draft lines bytes none all = loop_begins (line_says names) draft_of added (λ draft. draft) one_more draft lines bytes none all

-- What the calls of a reader answer.
use Rattle.std.specs.Prelude.{◌≡◌, ℕ, List, Result, Ok, Err, map}
use Rattle.std.specs.Borrow.{Bor}
use Rattle.np_text.specs.declared.cutting.Word.{Word}
use Rattle.np_lines.specs.declared.fault.LineFault.{LineFault}
use Rattle.np_lines.specs.declared.line_error.LineError.{LineError}
use Rattle.np_lines.specs.declared.line_error.LineError.TheVariants as stop
use Rattle.np_lines.specs.declared.text_error.TextError.{TextError}
use Rattle.np_lines.specs.declared.text_error.TextError.TheVariants as error
use Rattle.np_lines.specs.Judging.{Judged, Read}

-- the words without their places in the line
abbrev pub texts : List Word → List (List ℕ)
texts words = map (λ word. word.bytes.now) words

-- a fault is the one that judging gives, and want of memory may come at any time
abbrev pub StopsAs : {W X : Type 0} → LineError W → Judged W X → Type 0
StopsAs (stop.Faulty why) judged = judged ≡ Err why
StopsAs (stop.Memory e) judged = Unit {0}

-- a call gives what judging gives
abbrev pub Gives : {W X : Type 0} → Result X (LineError W) → Judged W X → Type 0
Gives (Ok x) judged = judged ≡ Ok x
Gives (Err e) judged = StopsAs e judged

-- the same of a call that gives a value and the words that are left
abbrev pub Reads : {W X : Type 0} → Result (X × Bor (List Word)) (LineError W) → Read W X → Type 0
Reads (Ok read) judged = judged ≡ Ok (read.0, texts read.1.now)
Reads (Err e) judged = StopsAs e judged

-- an error of reading a text is the text's fault, and want of memory may come at any time
abbrev pub IsFaultOf : {W X : Type 0} → Judged (LineFault W) X → TextError W → Type 0
IsFaultOf meaning (error.Fault fault) = meaning ≡ Err fault
IsFaultOf meaning (error.Memory e) = Unit {0}

-- What is written of a file that is refused.
use Rattle.std.specs.Prelude.{ℕ, List, [], ◌∷◌, codes}
use Rattle.std.specs.Fmt.{decimal}
use Rattle.np_entry_read.specs.declared.fault.ConfigWhy.{ConfigWhy}
use Rattle.np_entry_read.specs.declared.fault.ConfigWhy.TheVariants as config
use Rattle.np_net_read.specs.declared.fault.NetWhy.{NetWhy}
use Rattle.np_net_read.specs.declared.fault.NetWhy.TheVariants as net
use Rattle.np_script.specs.declared.fault.ScriptWhy.{ScriptWhy}
use Rattle.np_script.specs.declared.fault.ScriptWhy.TheVariants as script
use Rattle.np_text.specs.Joined.{text_of_lines}
use Rattle.np_report.specs.declared.refusals.Refusal.{Refusal}
use Rattle.np_report.specs.declared.refusals.Refusal.TheVariants.{TooLong, Net, Config, Script}

-- the word for what is wrong with a line of a network's text
abbrev pub net_word : NetWhy → List ℕ
net_word net.NotText = codes "NotText"
net_word net.UnknownStatement = codes "UnknownStatement"
net_word net.BadShape = codes "BadShape"
net_word net.BadName = codes "BadName"
net_word net.BadNumber = codes "BadNumber"
net_word net.Duplicate = codes "Duplicate"
net_word net.UnknownName = codes "UnknownName"
net_word net.TooMany = codes "TooMany"
net_word net.BadPred = codes "BadPred"
net_word net.TooDeep = codes "TooDeep"
net_word net.SameArea = codes "SameArea"
net_word net.WrongEnd = codes "WrongEnd"

-- the same of a configuration's
abbrev pub config_word : ConfigWhy → List ℕ
config_word config.BadEntry = codes "BadEntry"
config_word config.Unsupported = codes "Unsupported"
config_word config.UnknownName = codes "UnknownName"
config_word config.BadNumber = codes "BadNumber"
config_word config.BadRange = codes "BadRange"
config_word config.DuplicateSequence = codes "DuplicateSequence"
config_word config.Negated = codes "Negated"
config_word config.TooManyEntries = codes "TooManyEntries"

-- the same of a script's
abbrev pub script_word : ScriptWhy → List ℕ
script_word script.NotText = codes "NotText"
script_word script.NoStart = codes "NoStart"
script_word script.BadMove = codes "BadMove"
script_word script.UnknownName = codes "UnknownName"
script_word script.BadNumber = codes "BadNumber"

-- the words of a faulty line
abbrev pub line_words : ℕ → List ℕ → List (List ℕ)
line_words number why = codes "line" ∷ decimal number ∷ why ∷ []

-- the words of the reason
abbrev pub refusal_words : Refusal → List (List ℕ)
refusal_words TooLong = codes "too-long" ∷ []
refusal_words (Net fault) = line_words fault.line (net_word fault.why)
refusal_words (Config fault) = line_words fault.line (config_word fault.why)
refusal_words (Script fault) = line_words fault.line (script_word fault.why)

-- the text: one line
abbrev pub refusal_text : List ℕ → Refusal → List ℕ
refusal_text file why = text_of_lines ((codes "refused" ∷ file ∷ refusal_words why) ∷ [])

-- A network's text, read line by line.
use Rattle.std.proofs.Common.{◌≡◌, ℕ, List, []}
use Rattle.np_text.specs.Lines.{numbered_lines}
use Rattle.np_lines.specs.Declaring.{lines_give}
use Rattle.np_lines.proofs.LineReading.{loop_begins}
use Rattle.np_net_read.specs.declared.declared.Declared.{Declared}
use Rattle.np_net_read.specs.Declaring.{declared_by_network, network_of}
use Rattle.np_net_read.specs.Fitting.{added}
use Rattle.np_net_read.specs.Judging.{line_says}
use Rattle.np_net_read.specs.Reading.{net_of}
use Rattle.np_net_read.proofs.DeclarationLaws.{declared_one_more}

-- where nothing is declared yet, all lines with their numbers give what the text gives
pub net_begins : (d : Declared) (lines : List (ℕ × List ℕ)) (bytes : List ℕ) → d ≡ declared_by_network [] → lines ≡ numbered_lines bytes → lines_give line_says added network_of d lines ≡ net_of bytes
net_begins d lines bytes none all = loop_begins line_says declared_by_network added network_of declared_one_more d lines bytes none all

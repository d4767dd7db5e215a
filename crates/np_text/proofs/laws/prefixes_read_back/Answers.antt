use Rattle.np_text.proofs.WrittenLaws.{prefix_of-dotted, prefix_of-written}
use Rattle.np_text.proofs.laws.prefixes_read_back.Goals as goal

pub returns : goal.returns
returns c = record { whole = prefix_of-dotted; front = prefix_of-written }

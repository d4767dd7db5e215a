use Rattle.np_acl_read.proofs.EntryLines.{entry_line}
use Rattle.np_acl_read.proofs.laws.canonical_lines_read_back.Goals as goal

pub returns : goal.returns
returns c = entry_line

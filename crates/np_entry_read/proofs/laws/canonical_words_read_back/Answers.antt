use Rattle.np_entry_read.proofs.CanonicalLaws.{entry_reads_back}
use Rattle.np_entry_read.proofs.WrittenWords.{entry_is_words}
use Rattle.np_entry_read.proofs.laws.canonical_words_read_back.Goals as goal

pub returns : goal.returns
returns c = record { words = entry_is_words; back = entry_reads_back }

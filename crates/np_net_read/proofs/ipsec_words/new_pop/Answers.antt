use Rattle.np_net_read.proofs.DraftLaws.{has_table}
use Rattle.np_net_read.proofs.ipsec_words.new_pop.Goals as goal

pub has_pop-requires : goal.has_pop-requires
has_pop-requires c = rw c.as_slice.ensures (has_table c.args.draft.now c.args.interface c.requires.draft c.requires.interface)

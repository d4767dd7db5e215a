use Rattle.np_net_read.proofs.DraftLaws.{draft_pop, has_table}
use Rattle.np_net_read.proofs.draft.Draft.add_pop.Goals as goal

pub add_pop-requires : goal.add_pop-requires
add_pop-requires c = has_table c.args.self.now c.args.interface c.requires.draft c.requires.fits.room.within

pub returns-clause-draft : goal.returns-clause-draft
returns-clause-draft c = rw (c.in_ok-add_pop.ensures) (draft_pop c.args.self.now c.args.interface c.args.sa c.requires.draft c.requires.fits)

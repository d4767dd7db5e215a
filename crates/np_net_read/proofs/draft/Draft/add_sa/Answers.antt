use Rattle.np_net_read.proofs.DraftLaws.{draft_sa}
use Rattle.np_net_read.proofs.draft.Draft.add_sa.Goals as goal

pub returns-clause-draft : goal.returns-clause-draft
returns-clause-draft c = rw (c.in_ok-push.ensures.ok, c.in_ok-add.ensures.ok, c.bytes.ensures) (draft_sa c.args.self.now c.args.sa c.requires.draft c.requires.fits)

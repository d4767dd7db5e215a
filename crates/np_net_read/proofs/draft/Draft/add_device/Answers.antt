use Rattle.np_net_read.proofs.DraftLaws.{draft_device}
use Rattle.np_net_read.proofs.draft.Draft.add_device.Goals as goal

pub returns-clause-draft : goal.returns-clause-draft
returns-clause-draft c = rw (c.in_ok-push.ensures.ok, c.in_ok-add.ensures.ok, c.bytes.ensures) (draft_device c.args.self.now c.args.device c.requires.draft c.requires.fits)

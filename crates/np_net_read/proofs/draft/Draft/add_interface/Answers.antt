use Rattle.np_net_read.proofs.DraftLaws.{draft_interface}
use Rattle.np_net_read.proofs.draft.Draft.add_interface.Goals as goal

pub returns-clause-draft : goal.returns-clause-draft
returns-clause-draft c = rw (c.in_ok-begin.ensures, c.in_ok-push.ensures.ok, c.in_ok-add.ensures.ok, c.bytes.ensures) (draft_interface c.args.self.now c.args.interface c.requires.draft c.requires.fits)

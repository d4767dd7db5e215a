use Rattle.np_net_read.proofs.DraftLaws.{area_unnamed, draft_area}
use Rattle.np_net_read.proofs.draft.Draft.add_area.Goals as goal

pub add-requires-clause-new : goal.add-requires-clause-new
add-requires-clause-new c = rw c.in_ok-copy.ensures (area_unnamed c.args.self.now c.args.area c.requires.draft c.requires.fits)

pub returns-clause-draft : goal.returns-clause-draft
returns-clause-draft c =
    rw (c.in_ok-push.ensures.ok, c.in_ok-add-2.ensures.ok, c.bytes.ensures, c.in_ok-add.ensures.ok, c.in_ok-copy.ensures, c.in_ok-sources.ensures, c.as_slice.ensures)
    (draft_area c.args.self.now c.args.area c.requires.draft c.requires.fits)

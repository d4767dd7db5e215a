use Rattle.np_notes.proofs.WalkLaws.{found_more}
use Rattle.np_notes.proofs.walk.Findings.add_declaring.Goals as goal

pub returns : goal.returns
returns c =
    found_more _ _ _ _ _ (c.line_shape-shape.ensures c.args.section.now) c.in_ok-line_note.ensures
    c.in_ok-add_note.ensures c.in_ok-add_interface.ensures c.in_ok-add_group.ensures
    c.after-self.ensures.foreign c.after-self.ensures.strayed

use Rattle.std.proofs.Common.{◌∙◌, Ok, ap}
use Rattle.np_notes.proofs.WalkLaws.{leaves_silence}
use Rattle.np_notes.proofs.walk.Walk.read_line.Goals as goal

pub returns-in-Ok-None-clause-leaves : goal.returns-in-Ok-None-clause-leaves
returns-in-Ok-None-clause-leaves c =
    leaves_silence c.args.self.now c.add_silence.new.self c.args.number c.args.line.now
    (c.in-Ok-None.ensures.says ∙ ap (λ said. Ok said) c.in-Ok-None.field-0-is)
    c.add_silence.ensures.declared c.add_silence.ensures.walked

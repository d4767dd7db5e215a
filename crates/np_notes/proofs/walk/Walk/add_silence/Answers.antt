use Rattle.std.proofs.Common.{refl}
use Rattle.np_notes.proofs.WalkLaws.{walked_silence}
use Rattle.np_notes.proofs.walk.Walk.add_silence.Goals as goal

pub returns-clause-walked : goal.returns-clause-walked
returns-clause-walked c =
    walked_silence c.args.self.now (record { declared = c.args.self.now.declared; found = c.add_silence.new.self }) c.args.line.now refl c.add_silence.ensures

use Rattle.std.proofs.Common.{refl}
use Rattle.np_notes.proofs.WalkLaws.{found_silence}
use Rattle.np_notes.proofs.walk.Findings.add_silence.Goals as goal

pub returns : goal.returns
returns c = λ before number section had.
    found_silence c.args.self.now (record c.args.self.now { context = c.after_silence-self.result }) number c.args.line.now section refl refl refl
    c.after_silence-self.ensures.foreign c.after_silence-self.ensures.strayed before had

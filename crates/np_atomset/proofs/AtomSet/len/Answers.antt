use Rattle.std.proofs.Common.{sym}
use Rattle.np_atomset.proofs.Held.{length-value}
use Rattle.np_atomset.proofs.AtomSet.len.Goals as goal

pub returns : goal.returns
returns c = sym (length-value c.args.self.now c.self.inside.len c.self.inside.words.items c.self.view_is)

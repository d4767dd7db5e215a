use Rattle.std.proofs.lemmas.Bool.Decides.{Decides-at}
use Rattle.np_acl.proofs.SameLaws.{entries_decide}
use Rattle.np_acl.proofs.entries.Entry.same_as.Goals as goal

pub returns : goal.returns
returns c = Decides-at _ _ c.eq.ensures (entries_decide c.args.self.now c.args.other.now)

use Rattle.std.proofs.lemmas.Bool.Decides.{Decides-at}
use Rattle.np_acl.proofs.SameLaws.{ports_decide}
use Rattle.np_acl.proofs.ports.Ports.same_as.Goals as goal

pub returns : goal.returns
returns c = Decides-at _ _ c.eq.ensures (ports_decide c.args.self.now c.args.other.now)

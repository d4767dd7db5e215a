use Rattle.np_atomizer.proofs.SetLaws.{IsSetTo}
use Rattle.np_atomizer.proofs.splitting.set_of.Given as goal

abbrev pub invariant-loop-n : goal.invariant-loop-n
invariant-loop-n g l = IsSetTo (g.S.Regions.has_header l.store l.cut) l.leasts l.n l.set

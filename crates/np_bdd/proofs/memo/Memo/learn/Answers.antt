use Rattle.np_bdd.proofs.MemoLemmas.{learned}
use Rattle.np_bdd.proofs.memo.Memo.learn.Goals as goal

pub returns : goal.returns
returns c = learned c.args.self.now (record { told = c.args.self.now.told; pairs = c.insert.new.self }) c.args.x c.args.y c.args.z c.in_ok-insert.ensures.updates.0

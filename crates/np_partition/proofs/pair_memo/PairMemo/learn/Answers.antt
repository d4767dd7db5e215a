use Rattle.np_partition.proofs.MemoLaws.{learned}
use Rattle.np_partition.proofs.pair_memo.PairMemo.learn.Goals as goal

pub returns : goal.returns
returns c = learned c.args.self.now (record { places = c.insert.new.self }) c.args.x c.args.y c.args.z c.in_ok-insert.ensures.updates.0

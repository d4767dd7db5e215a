use Rattle.np_conf.proofs.SetLaws.{gathered_first}
use Rattle.np_conf.proofs.gathering.gather.Goals as goal

pub adding-init : goal.adding-init
adding-init c =
    gathered_first c.args.net.now c.args.from c.args.pred.now c.args.leasts.now c.requires.leasts c.requires.from c.requires.goal
    c.args.set.now c.add_firsts.new.set c.args.done.now c.requires.no_set c.requires.no_done c.add_firsts.ensures

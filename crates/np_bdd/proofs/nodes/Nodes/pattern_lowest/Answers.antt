use Rattle.std.proofs.Common.{◌≡◌, arith}
use Rattle.np_bdd.proofs.AddressLemmas.{so_far_start}
use Rattle.np_bdd.proofs.nodes.Nodes.pattern_lowest.Goals as goal

pub loop-k-init : goal.loop-k-init
loop-k-init c = so_far_start c.args.pattern.now c.args.first c.args.self.now c.args.tail.at c.requires.tail

pub returns-clause-is : goal.returns-clause-is
returns-clause-is c =
    let last : c.loop-k.k ≡ c.args.width = omega arith in
    rw (← last) c.loop-k.invariant.field

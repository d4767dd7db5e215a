use Rattle.std.proofs.Common.{◌≡◌, ◌+◌, ◌∷◌, [], ℕ, List, length, subst, sym, ap, ◌∙◌, arith}
use Rattle.std.proofs.lemmas.List.{length-append}
use Rattle.np_bdd.specs.declared.views.Node.{Node}
use Rattle.np_bdd.proofs.KeepingLemmas.{keeps_nodes_chained}
use Rattle.np_partition.specs.Region.{IsNodeOf, AreNodesOf}
use Rattle.np_partition.proofs.RegionLaws.{nodes_more}
use Rattle.np_partition.proofs.partition.Partition.nodes.Goals as goal

pub loop-at-preserved : goal.loop-at-preserved
loop-at-preserved c =
    let pushed = c.in_ok-push.ensures.items in
    let so_far = c.loop-at.invariant in
    let last = subst (λ (n : ℕ). IsNodeOf c.args.self.now.shows c.args.n c.node.new.store n c.in_ok-node.node) (sym so_far.1) c.in_ok-node.ensures.exact in
    let more = nodes_more c.args.self.now.shows c.args.n c.loop-at.store c.node.new.store c.loop-at.nodes.items c.in_ok-node.node c.in_ok-node.ensures.kept so_far.2 last in
    let count : length c.push.new.self.items ≡ c.loop-at.at + 1 = ap length pushed ∙ omega (arith, so_far.1, length-append c.loop-at.nodes.items (c.in_ok-node.node ∷ [])) in (
      keeps_nodes_chained c.args.store.now c.loop-at.store c.node.new.store so_far.0 c.in_ok-node.ensures.kept,
      count,
      subst (λ (nodes : List Node). AreNodesOf c.args.self.now.shows c.args.n c.node.new.store nodes) (sym pushed) more,
    )

use Rattle.std.proofs.Common.{◌+◌}
use Rattle.np_bdd.specs.Nodes.{KeepsNodes}
use Rattle.np_bdd.proofs.KeepingLemmas.{keeps_nodes_chained}
use Rattle.np_bdd.proofs.CombiningLemmas.{half_starts, starts_stay, halves_combined}
use Rattle.np_bdd.proofs.MemoLemmas.{memo_stays, memo_learns}
use Rattle.np_bdd.proofs.nodes.Nodes.+combined_by.Goals as goal

pub node-requires-clause-low : goal.node-requires-clause-low
node-requires-clause-low t c =
    let h = c.halves-halves.ensures in
    let low = half_starts _ _ _ (1 + c.halves-halves.result.bit) _ _ _ c.in_ok-low.ensures.kept h.first.low_starts h.second.low_starts c.in_ok-low.ensures.exact in
    starts_stay _ _ _ _ c.in_ok-high.ensures.kept low

pub node-requires-clause-high : goal.node-requires-clause-high
node-requires-clause-high t c =
    let h = c.halves-halves.ensures in
    let kept = keeps_nodes_chained _ _ _ c.in_ok-low.ensures.kept c.in_ok-high.ensures.kept in
    half_starts _ _ _ (1 + c.halves-halves.result.bit) _ _ _ kept h.first.high_starts h.second.high_starts c.in_ok-high.ensures.exact

pub returns-in_err-z-clause-kept : goal.returns-in_err-z-clause-kept
returns-in_err-z-clause-kept t c = keeps_nodes_chained _ _ _ (keeps_nodes_chained _ _ _ c.in_ok-low.ensures.kept c.in_ok-high.ensures.kept) c.node.ensures.kept

pub returns-in_err-learn-clause-kept : goal.returns-in_err-learn-clause-kept
returns-in_err-learn-clause-kept t c = keeps_nodes_chained _ _ _ (keeps_nodes_chained _ _ _ c.in_ok-low.ensures.kept c.in_ok-high.ensures.kept) c.node.ensures.kept

pub returns-clause-kept : goal.returns-clause-kept
returns-clause-kept t c = keeps_nodes_chained _ _ _ (keeps_nodes_chained _ _ _ c.in_ok-low.ensures.kept c.in_ok-high.ensures.kept) c.node.ensures.kept

pub returns-clause-exact : goal.returns-clause-exact
returns-clause-exact t c =
    halves_combined _ _ _ _ _ _ _ _ _ _ _ c.halves-halves.ensures c.requires.first c.requires.second
    c.in_ok-low.ensures.kept c.in_ok-high.ensures.kept c.in_ok-z.ensures.kept c.in_ok-low.ensures.exact c.in_ok-high.ensures.exact c.in_ok-z.ensures.starts c.in_ok-z.ensures.chooses

pub returns-clause-memo : goal.returns-clause-memo
returns-clause-memo t c =
    let all : KeepsNodes c.args.self.now c.node.new.self = keeps_nodes_chained _ _ _ (keeps_nodes_chained _ _ _ c.in_ok-low.ensures.kept c.in_ok-high.ensures.kept) c.node.ensures.kept in
    memo_learns _ _ _ _ _ _ _ (memo_stays _ _ _ _ c.node.ensures.kept c.in_ok-high.ensures.memo) c.in_ok-learn.ensures
    (all.there _ c.requires.first) (all.there _ c.requires.second) (returns-clause-exact t c)

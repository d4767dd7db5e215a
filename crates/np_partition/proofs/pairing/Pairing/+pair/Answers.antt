use Rattle.np_partition.proofs.DiagramLaws.{bit_small}
use Rattle.np_partition.proofs.MemoLaws.{memo_stays, memo_learns}
use Rattle.np_partition.proofs.PairLaws.{keeps_pairing_chained, keeps_with_places, classes_paired, classes_reached, halves_paired, halves_reached}
use Rattle.np_partition.proofs.pairing.Pairing.+pair.Goals as goal

pub returns-in-Some-both_classes-clause-reached : goal.returns-in-Some-both_classes-clause-reached
returns-in-Some-both_classes-clause-reached t c = classes_reached _ _ _ _ _ _ _ c.in-Some-both_classes.ensures.some c.in_ok-z.ensures.only

pub returns-in-Some-both_classes-clause-memo : goal.returns-in-Some-both_classes-clause-memo
returns-in-Some-both_classes-clause-memo t c =
    memo_learns _ _ _ _ _ _ _ _ (memo_stays _ _ _ _ _ c.in_ok-z.ensures.kept c.requires.memo) c.in_ok-learn.ensures
    (classes_paired _ _ _ _ _ _ _ c.requires.x c.requires.y (bit_small _ c.requires.first _ c.requires.x) c.in-Some-both_classes.ensures.some c.in_ok-z.ensures.place)

pub returns-clause-kept : goal.returns-clause-kept
returns-clause-kept t c =
    keeps_pairing_chained _ _ _ c.in_ok-low.ensures.kept
    (keeps_pairing_chained _ _ _ c.in_ok-high.ensures.kept (keeps_with_places _ _ c.in_ok-z-2.ensures.kept))

pub returns-clause-reached : goal.returns-clause-reached
returns-clause-reached t c =
    halves_reached _ _ c.requires.first c.requires.second _ _ _ c.split_both-halves.ensures _ _ _ c.in_ok-low.ensures.reached c.in_ok-high.ensures.reached _

pub returns-clause-memo : goal.returns-clause-memo
returns-clause-memo t c =
    memo_learns _ _ _ _ _ _ _ _ (memo_stays _ _ _ _ _ (keeps_with_places _ _ c.in_ok-z-2.ensures.kept) c.in_ok-high.ensures.memo) c.in_ok-learn-2.ensures
    (halves_paired _ _ _ _ _ c.split_both-halves.ensures _ _ _ _ _ _ c.in_ok-high.ensures.kept c.in_ok-z-2.ensures.kept c.in_ok-low.ensures.paired c.in_ok-high.ensures.paired c.in_ok-z-2.ensures.starts c.in_ok-z-2.ensures.chooses)

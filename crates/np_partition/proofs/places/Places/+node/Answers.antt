use Rattle.std.proofs.Common.{◌∙◌, sym}
use Rattle.np_partition.proofs.PlaceLaws.{keeps_places_chained}
use Rattle.np_partition.proofs.NodePlaceLaws.{node_kept, memo_kept, memo_learns, place_of_no, place_of_yes, test_ordered, place_of_test}
use Rattle.np_partition.proofs.places.Places.+node.Goals as goal

pub returns-in-Some-clause-place : goal.returns-in-Some-clause-place
returns-in-Some-clause-place t c = c.requires.memo.exact c.args.x.at c.in-Some.at c.in-Some.ensures

pub returns-in_ok-end-in-No-clause-place : goal.returns-in_ok-end-in-No-clause-place
returns-in_ok-end-in-No-clause-place t c = place_of_no _ _ _ _ (sym c.view.ensures.view ∙ c.in-No.is) c.in_ok-end-in-No.ensures.place

pub returns-in_ok-end-in-No-clause-memo : goal.returns-in_ok-end-in-No-clause-memo
returns-in_ok-end-in-No-clause-memo t c =
    memo_learns _ _ _ _ _ _ (memo_kept _ _ _ _ c.in_ok-end-in-No.ensures.kept c.requires.memo) c.in_ok-end-in-No.ensures.memo (returns-in_ok-end-in-No-clause-place t c)

pub returns-in_ok-end-in-Yes-clause-place : goal.returns-in_ok-end-in-Yes-clause-place
returns-in_ok-end-in-Yes-clause-place t c = place_of_yes _ _ _ _ (sym c.view.ensures.view ∙ c.in-Yes.is) c.in_ok-end-in-Yes.ensures.place

pub returns-in_ok-end-in-Yes-clause-memo : goal.returns-in_ok-end-in-Yes-clause-memo
returns-in_ok-end-in-Yes-clause-memo t c =
    memo_learns _ _ _ _ _ _ (memo_kept _ _ _ _ c.in_ok-end-in-Yes.ensures.kept c.requires.memo) c.in_ok-end-in-Yes.ensures.memo (returns-in_ok-end-in-Yes-clause-place t c)

pub returns-in_ok-learn-in-Test-clause-kept : goal.returns-in_ok-learn-in-Test-clause-kept
returns-in_ok-learn-in-Test-clause-kept t c =
    keeps_places_chained _ _ _ c.in_ok-low-in-Test.ensures.kept (keeps_places_chained _ _ _ c.in_ok-high-in-Test.ensures.kept c.in_ok-at-in-Test.ensures.kept)

pub returns-in_ok-learn-in-Test-clause-place : goal.returns-in_ok-learn-in-Test-clause-place
returns-in_ok-learn-in-Test-clause-place t c =
    place_of_test _ _ _ _ _ _ _ _ _ (sym c.view.ensures.view ∙ c.in-Test.is) (test_ordered _ _ _ _ _ c.in-Test.is c.view.ensures.ordered)
    (node_kept _ _ _ _ _ (keeps_places_chained _ _ _ c.in_ok-high-in-Test.ensures.kept c.in_ok-at-in-Test.ensures.kept) c.in_ok-low-in-Test.ensures.place)
    (node_kept _ _ _ _ _ c.in_ok-at-in-Test.ensures.kept c.in_ok-high-in-Test.ensures.place) c.in_ok-at-in-Test.ensures.starts c.in_ok-at-in-Test.ensures.chooses

pub returns-in_ok-learn-in-Test-clause-memo : goal.returns-in_ok-learn-in-Test-clause-memo
returns-in_ok-learn-in-Test-clause-memo t c =
    memo_learns _ _ _ _ _ _ (memo_kept _ _ _ _ c.in_ok-at-in-Test.ensures.kept c.in_ok-high-in-Test.ensures.memo) c.in_ok-learn-in-Test.ensures
    (returns-in_ok-learn-in-Test-clause-place t c)

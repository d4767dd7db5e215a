use Rattle.std.proofs.Common.{get_or, arith}
use Rattle.std.proofs.lemmas.List.Elements.{Contains-get_or}
use Rattle.np_goals.proofs.SourceLaws.{no_areas, next_area}
use Rattle.np_goals.proofs.pieces.judge_piece.Goals as goal

pub loop-source-init : goal.loop-source-init
loop-source-init g c = rw c.new-results.ensures (no_areas c.args.net.now c.args.case.now)

pub judge_source-requires-clause-area : goal.judge_source-requires-clause-area
judge_source-requires-clause-area g c =
    c.requires.areas (get_or c.args.sources.now c.loop-source.source-index 0) (Contains-get_or c.args.sources.now c.loop-source.source-index 0 (omega arith))

pub loop-source-preserved : goal.loop-source-preserved
loop-source-preserved g c =
    rw c.in_ok-append.ensures (next_area c.args.net.now c.args.case.now c.args.sources.now c.loop-source.source-index _ _ (omega arith) c.loop-source.invariant c.in_ok-judge_source.ensures)

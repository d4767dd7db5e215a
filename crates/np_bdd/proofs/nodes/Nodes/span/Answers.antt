use Rattle.std.proofs.Common.{◌+◌, arith}
use Rattle.np_bdd.proofs.RangeLemmas.{range_of_span}
use Rattle.np_bdd.proofs.nodes.Nodes.span.Goals as goal

pub returns-clause-tests : goal.returns-clause-tests
returns-clause-tests c =
    range_of_span c.args.span.now c.args.first c.args.width c.from.result (c.from-end.result + 1) c.range.new.self c.args.tail.at c.in_ok-range.field-0.at (omega arith) (omega arith) c.in_ok-range.ensures.is

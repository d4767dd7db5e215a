use Rattle.std.proofs.Common.{sym, arith}
use Rattle.np_pred.proofs.BoundsLaws.{AreBounds, bounds_of-fit}
use Rattle.np_pred.proofs.dscp_words.dscp_span.Goals as goal

fit : (c : goal.In_ok-low) → AreBounds 63 (c.in_ok-low.low, c.in_ok-low.high)
fit c = bounds_of-fit 63 c.args.word.now (c.in_ok-low.low, c.in_ok-low.high) (sym c.in_ok-low.ensures)

pub overflow_cast-low : goal.overflow_cast-low
overflow_cast-low c = let f = fit c in let a = f.ordered in let b = f.most in omega arith

pub overflow_cast-high : goal.overflow_cast-high
overflow_cast-high c = let f = fit c in let b = f.most in omega arith

pub dscp_span_from-requires-clause-ordered : goal.dscp_span_from-requires-clause-ordered
dscp_span_from-requires-clause-ordered c = (fit c).ordered

pub dscp_span_from-requires-clause-width : goal.dscp_span_from-requires-clause-width
dscp_span_from-requires-clause-width c = (fit c).most

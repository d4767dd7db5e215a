use Rattle.std.proofs.Common.{◌≡◌}
use Rattle.std.proofs.lemmas.Result.{err_from_is_err_and}
use Rattle.np_pred.specs.declared.reading.Begun.TheVariants as begun
use Rattle.np_pred.specs.declared.keywords.Operator.TheVariants as operator
use Rattle.np_pred.specs.Reading.{rest_of}
use Rattle.np_pred.proofs.ReadLaws.{read-whole, read-not, read-and, read-or, fails-begun, fails-not, fails-and_first, fails-and_second, fails-or_first, fails-or_second}
use Rattle.np_pred.proofs.reading.+predicate.Goals as goal

pub returns-in_err-pred-clause-read : goal.returns-in_err-pred-clause-read
returns-in_err-pred-clause-read t c =
    let p = err_from_is_err_and c.from_residual.result c.from_residual.ensures.1 in
    rw (p.1, p.2) (fails-begun c.args.areas.now c.args.levels c.if-levels-eq0.false (rest_of c.args.left.now) (rest_of c.begin.new.left) c.in_err-pred.field-0.0 c.in_err-pred.ensures.read)

pub returns-in_err-operand-in-Open-Not-clause-read : goal.returns-in_err-operand-in-Open-Not-clause-read
returns-in_err-operand-in-Open-Not-clause-read t c =
    let p = err_from_is_err_and c.from_residual-in_err-operand-in-Open-Not.result c.from_residual-in_err-operand-in-Open-Not.ensures.1 in
    let is : c.in_ok-pred.field-0 ≡ begun.Open operator.Not = cc in
    let b = rw is at c.in_ok-pred.ensures.read in
    rw (p.1, p.2) (fails-not c.args.areas.now c.args.levels c.if-levels-eq0.false (rest_of c.args.left.now) (rest_of c.begin.new.left) c.in_err-operand-in-Open-Not.field-0.0 b c.in_err-operand-in-Open-Not.ensures.read)

pub returns-in_err-first-in-Open-And-clause-read : goal.returns-in_err-first-in-Open-And-clause-read
returns-in_err-first-in-Open-And-clause-read t c =
    let p = err_from_is_err_and c.from_residual-in_err-first-in-Open-And.result c.from_residual-in_err-first-in-Open-And.ensures.1 in
    let is : c.in_ok-pred.field-0 ≡ begun.Open operator.And = cc in
    let b = rw is at c.in_ok-pred.ensures.read in
    rw (p.1, p.2) (fails-and_first c.args.areas.now c.args.levels c.if-levels-eq0.false (rest_of c.args.left.now) (rest_of c.begin.new.left) c.in_err-first-in-Open-And.field-0.0 b c.in_err-first-in-Open-And.ensures.read)

pub returns-in_err-second-in-Open-And-clause-read : goal.returns-in_err-second-in-Open-And-clause-read
returns-in_err-second-in-Open-And-clause-read t c =
    let p = err_from_is_err_and c.from_residual-in_err-second-in-Open-And.result c.from_residual-in_err-second-in-Open-And.ensures.1 in
    let is : c.in_ok-pred.field-0 ≡ begun.Open operator.And = cc in
    let b = rw is at c.in_ok-pred.ensures.read in
    rw (p.1, p.2) (fails-and_second c.args.areas.now c.args.levels c.if-levels-eq0.false (rest_of c.args.left.now) (rest_of c.begin.new.left) c.in_err-second-in-Open-And.field-0.0 c.in_ok-first-in-Open-And.first (rest_of c.predicate-in-Open-And.new.left) b c.in_ok-first-in-Open-And.ensures.read c.in_err-second-in-Open-And.ensures.read)

pub returns-in_err-first-in-Open-Or-clause-read : goal.returns-in_err-first-in-Open-Or-clause-read
returns-in_err-first-in-Open-Or-clause-read t c =
    let p = err_from_is_err_and c.from_residual-in_err-first-in-Open-Or.result c.from_residual-in_err-first-in-Open-Or.ensures.1 in
    let is : c.in_ok-pred.field-0 ≡ begun.Open operator.Or = cc in
    let b = rw is at c.in_ok-pred.ensures.read in
    rw (p.1, p.2) (fails-or_first c.args.areas.now c.args.levels c.if-levels-eq0.false (rest_of c.args.left.now) (rest_of c.begin.new.left) c.in_err-first-in-Open-Or.field-0.0 b c.in_err-first-in-Open-Or.ensures.read)

pub returns-in_err-second-in-Open-Or-clause-read : goal.returns-in_err-second-in-Open-Or-clause-read
returns-in_err-second-in-Open-Or-clause-read t c =
    let p = err_from_is_err_and c.from_residual-in_err-second-in-Open-Or.result c.from_residual-in_err-second-in-Open-Or.ensures.1 in
    let is : c.in_ok-pred.field-0 ≡ begun.Open operator.Or = cc in
    let b = rw is at c.in_ok-pred.ensures.read in
    rw (p.1, p.2) (fails-or_second c.args.areas.now c.args.levels c.if-levels-eq0.false (rest_of c.args.left.now) (rest_of c.begin.new.left) c.in_err-second-in-Open-Or.field-0.0 c.in_ok-first-in-Open-Or.first (rest_of c.predicate-in-Open-Or.new.left) b c.in_ok-first-in-Open-Or.ensures.read c.in_err-second-in-Open-Or.ensures.read)

pub returns-in-Whole-clause-read : goal.returns-in-Whole-clause-read
returns-in-Whole-clause-read t c =
    let is : c.in_ok-pred.field-0 ≡ begun.Whole c.in-Whole.pred = cc in
    let b = rw is at c.in_ok-pred.ensures.read in
    read-whole c.args.areas.now c.args.levels c.if-levels-eq0.false (rest_of c.args.left.now) (rest_of c.begin.new.left) c.in-Whole.pred b

pub returns-in_ok-negated-in-Open-Not-clause-read : goal.returns-in_ok-negated-in-Open-Not-clause-read
returns-in_ok-negated-in-Open-Not-clause-read t c =
    let is : c.in_ok-pred.field-0 ≡ begun.Open operator.Not = cc in
    let b = rw is at c.in_ok-pred.ensures.read in
    rw c.in_ok-negated-in-Open-Not.ensures (read-not c.args.areas.now c.args.levels c.if-levels-eq0.false (rest_of c.args.left.now) (rest_of c.begin.new.left) c.in_ok-operand-in-Open-Not.operand (rest_of c.predicate.new.left) b c.in_ok-operand-in-Open-Not.ensures.read)

pub returns-in_ok-both-in-Open-And-clause-read : goal.returns-in_ok-both-in-Open-And-clause-read
returns-in_ok-both-in-Open-And-clause-read t c =
    let is : c.in_ok-pred.field-0 ≡ begun.Open operator.And = cc in
    let b = rw is at c.in_ok-pred.ensures.read in
    rw c.in_ok-both-in-Open-And.ensures
    (read-and c.args.areas.now c.args.levels c.if-levels-eq0.false (rest_of c.args.left.now) (rest_of c.begin.new.left) c.in_ok-first-in-Open-And.first c.in_ok-second-in-Open-And.second (rest_of c.predicate-in-Open-And.new.left) (rest_of c.predicate-in-Open-And-2.new.left) b c.in_ok-first-in-Open-And.ensures.read c.in_ok-second-in-Open-And.ensures.read)

pub returns-in_ok-either-in-Open-Or-clause-read : goal.returns-in_ok-either-in-Open-Or-clause-read
returns-in_ok-either-in-Open-Or-clause-read t c =
    let is : c.in_ok-pred.field-0 ≡ begun.Open operator.Or = cc in
    let b = rw is at c.in_ok-pred.ensures.read in
    rw c.in_ok-either-in-Open-Or.ensures
    (read-or c.args.areas.now c.args.levels c.if-levels-eq0.false (rest_of c.args.left.now) (rest_of c.begin.new.left) c.in_ok-first-in-Open-Or.first c.in_ok-second-in-Open-Or.second (rest_of c.predicate-in-Open-Or.new.left) (rest_of c.predicate-in-Open-Or-2.new.left) b c.in_ok-first-in-Open-Or.ensures.read c.in_ok-second-in-Open-Or.ensures.read)

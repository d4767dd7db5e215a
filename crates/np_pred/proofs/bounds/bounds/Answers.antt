use Rattle.std.proofs.Common.{refl}
use Rattle.np_pred.proofs.BoundsLaws.{bounds_of_one, bounds_of_two}
use Rattle.np_pred.proofs.bounds.bounds.Goals as goal

pub returns-in_err-only-in-None : goal.returns-in_err-only-in-None
returns-in_err-only-in-None c =
    rw (c.from_residual.ensures, bounds_of_one c.args.max c.args.word.now c.in-None.ensures.none, ← c.in_err-only-in-None.ensures) refl

pub returns-in_err-number-in-Some : goal.returns-in_err-number-in-Some
returns-in_err-number-in-Some c =
    rw (c.from_residual-in_err-number-in-Some.ensures, bounds_of_two c.args.max c.args.word.now _ _ c.in-Some.ensures.found c.in-Some.ensures.before c.in-Some.ensures.after, ← c.in_err-number-in-Some.ensures) refl

pub returns-in_err-number-in-Some-2 : goal.returns-in_err-number-in-Some-2
returns-in_err-number-in-Some-2 c =
    rw (c.from_residual-in_err-number-in-Some-2.ensures, bounds_of_two c.args.max c.args.word.now _ _ c.in-Some.ensures.found c.in-Some.ensures.before c.in-Some.ensures.after, ← c.in_ok-number-in-Some.ensures, ← c.in_err-number-in-Some-2.ensures) refl

pub returns-in_ok-only-in-None : goal.returns-in_ok-only-in-None
returns-in_ok-only-in-None c =
    rw (bounds_of_one c.args.max c.args.word.now c.in-None.ensures.none, ← c.in_ok-only-in-None.ensures) refl

pub returns-in_ok-number-in-Some-2 : goal.returns-in_ok-number-in-Some-2
returns-in_ok-number-in-Some-2 c =
    rw (bounds_of_two c.args.max c.args.word.now _ _ c.in-Some.ensures.found c.in-Some.ensures.before c.in-Some.ensures.after, ← c.in_ok-number-in-Some.ensures, ← c.in_ok-number-in-Some-2.ensures) c.ordered.ensures

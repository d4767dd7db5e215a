-- How a predicate is read, part by part.
use Rattle.std.proofs.Common.{◌≡◌, ◌≢◌, ℕ, zero, suc, ◌-◌, Result, Ok, refl, arith}
use Rattle.np_pred.specs.declared.predicate.Pred.{Pred}
use Rattle.np_pred.specs.declared.predicate.Pred.TheVariants as pred
use Rattle.np_pred.specs.declared.keywords.Operator.TheVariants as operator
use Rattle.np_pred.specs.declared.pred_error.PredError.{PredError}
use Rattle.np_pred.specs.declared.pred_error.PredError.TheVariants as error
use Rattle.np_pred.specs.declared.pred_error.PredFault.{PredFault}
use Rattle.np_pred.specs.declared.reading.Begun.TheVariants as begun
use Rattle.np_pred.specs.Areas.{AreaList}
use Rattle.np_lines.specs.Judging.{◌>>=◌}
use Rattle.np_pred.specs.Reading.{Rest, begun_at, completed, pred_at, FailsAs}

-- a fault of the first of two steps is a fault of both
pub FailsAs-bind : {A B : Type 0} (e : PredError) (r : Result A PredFault) (f : A → Result B PredFault) → FailsAs e r → FailsAs e (r >>= f)
FailsAs-bind (error.Fault fault) r f h = rw h refl
FailsAs-bind (error.Memory a) r f h = tt

-- where a level is left, the predicate is what the first word begins, with its operands
pub pred_at-some : (areas : AreaList) (levels : ℕ) (rest : Rest) → levels ≢ 0 → pred_at areas levels rest ≡ begun_at areas rest >>= λ b. completed (pred_at areas (levels - 1)) b.0 b.1
unfolding pred_at
pred_at-some areas zero rest some = absurd (some refl)
pred_at-some areas (suc n) rest some = let e : suc n - 1 ≡ n = omega arith in rw e refl

module _ (areas : AreaList) (levels : ℕ) (some : levels ≢ 0) (rest r : Rest) where
  -- a predicate without operands
  pub read-whole : (p : Pred) → begun_at areas rest ≡ Ok (begun.Whole p, r) → pred_at areas levels rest ≡ Ok (p, r)
  read-whole p b = rw (pred_at-some areas levels rest some, b) refl

  -- `not`
  pub read-not : (p : Pred) (s : Rest) → begun_at areas rest ≡ Ok (begun.Open operator.Not, r) → pred_at areas (levels - 1) r ≡ Ok (p, s) → pred_at areas levels rest ≡ Ok (pred.Not p, s)
  read-not p s b first = rw (pred_at-some areas levels rest some, b, first) refl

  -- `and`
  pub read-and : (p q : Pred) (s t : Rest) → begun_at areas rest ≡ Ok (begun.Open operator.And, r) → pred_at areas (levels - 1) r ≡ Ok (p, s) → pred_at areas (levels - 1) s ≡ Ok (q, t) → pred_at areas levels rest ≡ Ok (pred.And p q, t)
  read-and p q s t b first second = rw (pred_at-some areas levels rest some, b, first, second) refl

  -- `or`
  pub read-or : (p q : Pred) (s t : Rest) → begun_at areas rest ≡ Ok (begun.Open operator.Or, r) → pred_at areas (levels - 1) r ≡ Ok (p, s) → pred_at areas (levels - 1) s ≡ Ok (q, t) → pred_at areas levels rest ≡ Ok (pred.Or p q, t)
  read-or p q s t b first second = rw (pred_at-some areas levels rest some, b, first, second) refl

  -- a fault of what the first word begins
  pub fails-begun : (e : PredError) → FailsAs e (begun_at areas rest) → FailsAs e (pred_at areas levels rest)
  fails-begun e h = rw (pred_at-some areas levels rest some) (FailsAs-bind e (begun_at areas rest) (λ b. completed (pred_at areas (levels - 1)) b.0 b.1) h)

  -- a fault of the operand of `not`
  pub fails-not : (e : PredError) → begun_at areas rest ≡ Ok (begun.Open operator.Not, r) → FailsAs e (pred_at areas (levels - 1) r) → FailsAs e (pred_at areas levels rest)
  fails-not e b h = rw (pred_at-some areas levels rest some, b) (FailsAs-bind e (pred_at areas (levels - 1) r) (λ p. Ok (pred.Not p.0, p.1)) h)

  -- a fault of the first operand of `and`
  pub fails-and_first : (e : PredError) → begun_at areas rest ≡ Ok (begun.Open operator.And, r) → FailsAs e (pred_at areas (levels - 1) r) → FailsAs e (pred_at areas levels rest)
  fails-and_first e b h =
      rw (pred_at-some areas levels rest some, b)
      (FailsAs-bind e (pred_at areas (levels - 1) r) (λ p. pred_at areas (levels - 1) p.1 >>= λ q. Ok (pred.And p.0 q.0, q.1)) h)

  -- a fault of its second
  pub fails-and_second : (e : PredError) (p : Pred) (s : Rest) → begun_at areas rest ≡ Ok (begun.Open operator.And, r) → pred_at areas (levels - 1) r ≡ Ok (p, s) → FailsAs e (pred_at areas (levels - 1) s) → FailsAs e (pred_at areas levels rest)
  fails-and_second e p s b first h =
      rw (pred_at-some areas levels rest some, b, first) (FailsAs-bind e (pred_at areas (levels - 1) s) (λ q. Ok (pred.And p q.0, q.1)) h)

  -- a fault of the first operand of `or`
  pub fails-or_first : (e : PredError) → begun_at areas rest ≡ Ok (begun.Open operator.Or, r) → FailsAs e (pred_at areas (levels - 1) r) → FailsAs e (pred_at areas levels rest)
  fails-or_first e b h =
      rw (pred_at-some areas levels rest some, b)
      (FailsAs-bind e (pred_at areas (levels - 1) r) (λ p. pred_at areas (levels - 1) p.1 >>= λ q. Ok (pred.Or p.0 q.0, q.1)) h)

  -- a fault of its second
  pub fails-or_second : (e : PredError) (p : Pred) (s : Rest) → begun_at areas rest ≡ Ok (begun.Open operator.Or, r) → pred_at areas (levels - 1) r ≡ Ok (p, s) → FailsAs e (pred_at areas (levels - 1) s) → FailsAs e (pred_at areas levels rest)
  fails-or_second e p s b first h =
      rw (pred_at-some areas levels rest some, b, first) (FailsAs-bind e (pred_at areas (levels - 1) s) (λ q. Ok (pred.Or p q.0, q.1)) h)

-- Induction over predicates, and the equations of a fold over them.
use Rattle.std.proofs.Common.{◌≡◌, ℕ, List, sym, subst, ap, ◌∙◌}
use Rattle.np_space.specs.declared.patterns.Ternary.{Ternary}
use Rattle.np_space.specs.declared.spans.Span.{Span}
use Rattle.np_pred.specs.declared.dscp.DscpSpan.{DscpSpan}
use Rattle.np_pred.specs.declared.predicate.Pred.{Pred}
use Rattle.np_pred.specs.declared.predicate.Pred.TheVariants as pred
use Rattle.np_pred.specs.declared.predicate.Pred.TheOpen as level
use Rattle.np_pred.specs.declared.predicate.Pred.TheViews.{roll-Pred}
use Rattle.np_pred.specs.declared.predicate.Pred.TheFolds.{fold-Pred, fold-roll-Pred, map-Pred, ind-Pred}

-- what a fold gives at each predicate
module _ (A : Type 0) (step : level.Pred-F A → A) where
  pub fold-Any : fold-Pred A step pred.Any ≡ step level.Any
  fold-Any = ap (fold-Pred A step) (sym pred.rolls-Any) ∙ fold-roll-Pred A step level.Any

  pub fold-Nothing : fold-Pred A step pred.Nothing ≡ step level.Nothing
  fold-Nothing = ap (fold-Pred A step) (sym pred.rolls-Nothing) ∙ fold-roll-Pred A step level.Nothing

  pub fold-Proto : (x : ℕ) → fold-Pred A step (pred.Proto x) ≡ step (level.Proto x)
  fold-Proto x = ap (fold-Pred A step) (sym (pred.rolls-Proto x)) ∙ fold-roll-Pred A step (level.Proto x)

  pub fold-Src : (x : List Ternary) → fold-Pred A step (pred.Src x) ≡ step (level.Src x)
  fold-Src x = ap (fold-Pred A step) (sym (pred.rolls-Src x)) ∙ fold-roll-Pred A step (level.Src x)

  pub fold-Dst : (x : List Ternary) → fold-Pred A step (pred.Dst x) ≡ step (level.Dst x)
  fold-Dst x = ap (fold-Pred A step) (sym (pred.rolls-Dst x)) ∙ fold-roll-Pred A step (level.Dst x)

  pub fold-SrcPort : (x : Span) → fold-Pred A step (pred.SrcPort x) ≡ step (level.SrcPort x)
  fold-SrcPort x = ap (fold-Pred A step) (sym (pred.rolls-SrcPort x)) ∙ fold-roll-Pred A step (level.SrcPort x)

  pub fold-DstPort : (x : Span) → fold-Pred A step (pred.DstPort x) ≡ step (level.DstPort x)
  fold-DstPort x = ap (fold-Pred A step) (sym (pred.rolls-DstPort x)) ∙ fold-roll-Pred A step (level.DstPort x)

  pub fold-IcmpType : (x : ℕ) → fold-Pred A step (pred.IcmpType x) ≡ step (level.IcmpType x)
  fold-IcmpType x = ap (fold-Pred A step) (sym (pred.rolls-IcmpType x)) ∙ fold-roll-Pred A step (level.IcmpType x)

  pub fold-IcmpCode : (x : ℕ) → fold-Pred A step (pred.IcmpCode x) ≡ step (level.IcmpCode x)
  fold-IcmpCode x = ap (fold-Pred A step) (sym (pred.rolls-IcmpCode x)) ∙ fold-roll-Pred A step (level.IcmpCode x)

  pub fold-Dscp : (x : DscpSpan) → fold-Pred A step (pred.Dscp x) ≡ step (level.Dscp x)
  fold-Dscp x = ap (fold-Pred A step) (sym (pred.rolls-Dscp x)) ∙ fold-roll-Pred A step (level.Dscp x)

  pub fold-Established : fold-Pred A step pred.Established ≡ step level.Established
  fold-Established = ap (fold-Pred A step) (sym pred.rolls-Established) ∙ fold-roll-Pred A step level.Established

  pub fold-Not : (p : Pred) → fold-Pred A step (pred.Not p) ≡ step (level.Not (fold-Pred A step p))
  fold-Not p = ap (fold-Pred A step) (sym (pred.rolls-Not p)) ∙ fold-roll-Pred A step (level.Not p)

  pub fold-And : (p q : Pred) → fold-Pred A step (pred.And p q) ≡ step (level.And (fold-Pred A step p) (fold-Pred A step q))
  fold-And p q = ap (fold-Pred A step) (sym (pred.rolls-And p q)) ∙ fold-roll-Pred A step (level.And p q)

  pub fold-Or : (p q : Pred) → fold-Pred A step (pred.Or p q) ≡ step (level.Or (fold-Pred A step p) (fold-Pred A step q))
  fold-Or p q = ap (fold-Pred A step) (sym (pred.rolls-Or p q)) ∙ fold-roll-Pred A step (level.Or p q)

-- what holds of the predicates without operands, and of each other one if it holds of its operands
pub record IsInductive (P : Pred → Type 0) : Type 0 where
  pub at-Any : P pred.Any
  pub at-Nothing : P pred.Nothing
  pub at-Proto : (x : ℕ) → P (pred.Proto x)
  pub at-Src : (x : List Ternary) → P (pred.Src x)
  pub at-Dst : (x : List Ternary) → P (pred.Dst x)
  pub at-SrcPort : (x : Span) → P (pred.SrcPort x)
  pub at-DstPort : (x : Span) → P (pred.DstPort x)
  pub at-IcmpType : (x : ℕ) → P (pred.IcmpType x)
  pub at-IcmpCode : (x : ℕ) → P (pred.IcmpCode x)
  pub at-Dscp : (x : DscpSpan) → P (pred.Dscp x)
  pub at-Established : P pred.Established
  pub at-Not : (p : Pred) → P p → P (pred.Not p)
  pub at-And : (p q : Pred) → P p → P q → P (pred.And p q)
  pub at-Or : (p q : Pred) → P p → P q → P (pred.Or p q)

module _ (P : Pred → Type 0) (h : IsInductive P) where
  -- a predicate with its fact
  abbrev Proved : Type 0
  Proved = (p : Pred) × P p

  -- one level, whose operands have their facts
  at_level : (y : level.Pred-F Proved) → P (roll-Pred (map-Pred Proved Pred (λ e. e.0) y))
  at_level level.Any = subst P (sym pred.rolls-Any) h.at-Any
  at_level level.Nothing = subst P (sym pred.rolls-Nothing) h.at-Nothing
  at_level (level.Proto x) = subst P (sym (pred.rolls-Proto x)) (h.at-Proto x)
  at_level (level.Src x) = subst P (sym (pred.rolls-Src x)) (h.at-Src x)
  at_level (level.Dst x) = subst P (sym (pred.rolls-Dst x)) (h.at-Dst x)
  at_level (level.SrcPort x) = subst P (sym (pred.rolls-SrcPort x)) (h.at-SrcPort x)
  at_level (level.DstPort x) = subst P (sym (pred.rolls-DstPort x)) (h.at-DstPort x)
  at_level (level.IcmpType x) = subst P (sym (pred.rolls-IcmpType x)) (h.at-IcmpType x)
  at_level (level.IcmpCode x) = subst P (sym (pred.rolls-IcmpCode x)) (h.at-IcmpCode x)
  at_level (level.Dscp x) = subst P (sym (pred.rolls-Dscp x)) (h.at-Dscp x)
  at_level level.Established = subst P (sym pred.rolls-Established) h.at-Established
  at_level (level.Not p) = subst P (sym (pred.rolls-Not p.0)) (h.at-Not p.0 p.1)
  at_level (level.And p q) = subst P (sym (pred.rolls-And p.0 q.0)) (h.at-And p.0 q.0 p.1 q.1)
  at_level (level.Or p q) = subst P (sym (pred.rolls-Or p.0 q.0)) (h.at-Or p.0 q.0 p.1 q.1)

  -- it holds of every predicate
  pub by_induction : (p : Pred) → P p
  by_induction = ind-Pred P (λ x y is. subst (λ z. P (roll-Pred z)) is (at_level y))

use Rattle.std.proofs.Common.{◌≡◌, ℕ, ◌-◌, true, sym, ◌∙◌, ap, inl, inr}
use Rattle.std.proofs.lemmas.Bool.{cases_Bool, cases_eq}
use Rattle.np_space.specs.Bit.{has_bit}
use Rattle.np_space.specs.Ternary.{SameBit, IsNarrower}
use Rattle.np_space.specs.declared.patterns.Ternary.{Ternary}
use Rattle.np_space.proofs.BitLemmas.{bit-not}
use Rattle.np_space.proofs.PatternLemmas.{wild_clear, opening-none, opening-some, kept_wild-same, kept_wild-other, fixed_value, fixed_width, fixed_value-same, fixed_value-other, fixed_cleared, fixed_splits}
use Rattle.np_space.proofs.patterns.Ternary.fix.Goals as goal

-- a bit that is not opened is the same in both
unopened : (p q : Ternary) (k : ℕ) → IsNarrower q p → (has_bit p.wild k ≡ true → has_bit q.wild k ≡ true) → SameBit p q k
unopened p q k narrower same =
    elim (cases_Bool (has_bit p.wild k)) [
      | inl wild ↦ record { wild = wild ∙ sym (same wild); value = wild_clear p k wild ∙ sym (wild_clear q k (same wild)) }
      | inr fixed ↦ let there = narrower k fixed in record { wild = sym there.wild; value = sym there.value }
    ]

pub returns-then-self-narrower-eq0-clause-fixed : goal.returns-then-self-narrower-eq0-clause-fixed
returns-then-self-narrower-eq0-clause-fixed c =
    let p = c.args.self.now in
    let q = c.args.narrower.now in
    let k = c.args.bit in
    unopened p q k c.requires.narrower (opening-none p q k c.requires.bit c.if-self-narrower-eq0.true)

pub invariant_of-self-clause-cleared : goal.invariant_of-self-clause-cleared
invariant_of-self-clause-cleared c = fixed_cleared c.args.self.now c.args.bit c.requires.bit c.args.narrower.now.value

pub invariant_of-taken-clause-cleared : goal.invariant_of-taken-clause-cleared
invariant_of-taken-clause-cleared c = fixed_cleared c.args.self.now c.args.bit c.requires.bit (4294967295 - c.args.narrower.now.value)

pub invariant_of-taken-clause-value_width : goal.invariant_of-taken-clause-value_width
invariant_of-taken-clause-value_width c = fixed_width c.args.self.now c.args.bit c.requires.bit (4294967295 - c.args.narrower.now.value)

pub returns-clause-narrower : goal.returns-clause-narrower
returns-clause-narrower c = λ i fixed.
    let p = c.args.self.now in
    let q = c.args.narrower.now in
    let k = c.args.bit in
    let opened = opening-some p q k c.requires.bit c.if-self-narrower-eq0.false in
    elim (cases_eq i k) [
      | inl e ↦ record {
        wild = ap (λ j. has_bit q.wild j) e ∙ opened.1 ∙ sym fixed;
        value = ap (λ j. has_bit q.value j) e ∙ sym (fixed_value-same p k c.requires.bit q.value opened.0) ∙ sym (ap (λ j. has_bit (fixed_value p k c.requires.bit q.value) j) e);
      }
      | inr ne ↦
          let there = c.requires.narrower i (sym (kept_wild-other p k c.requires.bit i ne) ∙ fixed) in
          record {
            wild = there.wild ∙ sym (kept_wild-other p k c.requires.bit i ne);
            value = there.value ∙ sym (fixed_value-other p k c.requires.bit q.value i ne);
          }
    ]

pub returns-clause-fixed : goal.returns-clause-fixed
returns-clause-fixed c =
    let p = c.args.self.now in
    let q = c.args.narrower.now in
    let k = c.args.bit in
    let opened = opening-some p q k c.requires.bit c.if-self-narrower-eq0.false in
    record {
      wild = kept_wild-same p k c.requires.bit ∙ sym opened.1;
      value = fixed_value-same p k c.requires.bit q.value opened.0;
    }

pub returns-clause-others : goal.returns-clause-others
returns-clause-others c = λ i ne. record {
  wild = kept_wild-other c.args.self.now c.args.bit c.requires.bit i ne;
  value = fixed_value-other c.args.self.now c.args.bit c.requires.bit c.args.narrower.now.value i ne;
}

pub returns-clause-exact : goal.returns-clause-exact
returns-clause-exact c = λ x.
    let p = c.args.self.now in
    let q = c.args.narrower.now in
    let k = c.args.bit in
    let opened = opening-some p q k c.requires.bit c.if-self-narrower-eq0.false in
    fixed_splits p k c.requires.bit q.value (4294967295 - q.value) x opened.0 (bit-not q.value k q.value_width c.requires.bit)

-- Which bits a place reads, and what a changed bit does.
use Rattle.std.proofs.Common.{◌≡◌, ℕ, zero, suc, ◌+◌, ◌<◌, ◌≤◌, Bool, true, false, List, length, refl, sym, ◌∙◌, ap, arith, if◌then◌else◌}
use Rattle.np_bdd.specs.Views.{Bits}
use Rattle.np_bdd.specs.Walking.{with_bit}
use Rattle.np_bdd.proofs.CanonicalLaws.{AgreeFrom, changed, unchanged}
use Rattle.np_partition.specs.declared.shows.Show.{Show}
use Rattle.np_partition.specs.declared.shows.Show.TheVariants.{Class, Test}
use Rattle.np_partition.specs.Diagram.{class_at, show_at, bit_of, bit_at, IsDiagram}
use Rattle.np_partition.specs.Places.{StartsAt, IsSplit}
use Rattle.np_partition.proofs.DiagramLaws.{class_at_class, class_chosen, ordered_test}

-- ---- which bits are read

module _ (shows : List Show) (d : IsDiagram shows) (first : ℕ) (f g : Bits) (agree : AgreeFrom first f g) where
  -- that bits which agree from the first one on lead to the same class from the place
  abbrev LeadsAlike : ℕ → Type 0
  LeadsAlike at = at < length shows → first ≤ bit_at shows at → class_at f shows at ≡ class_at g shows at

  -- at a place whose earlier places are so
  alike_at : (at : ℕ) → ((low : ℕ) → low < at → LeadsAlike low) → LeadsAlike at
  alike_at at earlier there from = by (show_at shows at) refl
    where
      by : (show : Show) → show_at shows at ≡ show → class_at f shows at ≡ class_at g shows at
      by (Class n) e = class_at_class f shows at n there e ∙ sym (class_at_class g shows at n there e)
      by (Test bit low high) e =
          let o = ordered_test shows d at bit low high there e in
          class_chosen shows d f at bit low high there e
          ∙ ap (λ b. if b then class_at f shows high else class_at f shows low) (agree bit (omega (arith, from, ap bit_of e)) o.bit_fits)
          ∙ chosen (g bit)
          ∙ sym (class_chosen shows d g at bit low high there e)
        where
          chosen : (b : Bool) → (if b then class_at f shows high else class_at f shows low) ≡ (if b then class_at g shows high else class_at g shows low)
          chosen true =
              let o = ordered_test shows d at bit low high there e in
              earlier high o.high_before (omega (arith, o.high_before, there)) (omega (arith, o.high_greater, from, ap bit_of e))
          chosen false =
              let o = ordered_test shows d at bit low high there e in
              earlier low o.low_before (omega (arith, o.low_before, there)) (omega (arith, o.low_greater, from, ap bit_of e))

  alike_below : (n at : ℕ) → at < n → LeadsAlike at
  alike_below zero at below = absurd (omega arith)
  alike_below (suc n) at below = alike_at at (λ low before. alike_below n low (omega (arith, before, below)))

  -- bits that agree from there on lead to the same class
  pub reads_from : (at : ℕ) → at < length shows → first ≤ bit_at shows at → class_at f shows at ≡ class_at g shows at
  reads_from at there from = alike_below (suc at) at (omega arith) there from

-- ---- one bit changed

-- a place that tests later bits alone doesn't see the change
pub leads_past : (shows : List Show) → IsDiagram shows → (f : Bits) (bit : ℕ) (b : Bool) (at : ℕ) → StartsAt shows (1 + bit) at → class_at (with_bit f bit b) shows at ≡ class_at f shows at
leads_past shows d f bit b at s =
    reads_from shows d (1 + bit) (with_bit f bit b) f (λ i from below. unchanged f bit b i (λ e. omega (arith, from, e))) at s.there s.from

-- the changed bit chooses between the branches
pub leads_by : (shows : List Show) → IsDiagram shows → (bit low high at : ℕ) → IsSplit shows bit low high at → (f : Bits) (b : Bool) → class_at (with_bit f bit b) shows at ≡ class_at f shows (if b then high else low)
leads_by shows d bit low high at s f b =
    s.chooses (with_bit f bit b)
    ∙ ap (λ c. if c then class_at (with_bit f bit b) shows high else class_at (with_bit f bit b) shows low) (changed f bit b bit refl)
    ∙ by b
  where
    by : (c : Bool) → (if c then class_at (with_bit f bit b) shows high else class_at (with_bit f bit b) shows low) ≡ class_at f shows (if c then high else low)
    by true = leads_past shows d f bit b high s.high_starts
    by false = leads_past shows d f bit b low s.low_starts

-- The place for two places: what is kept while it is made, what it leads to, and which pairs of classes are new.
use Rattle.std.proofs.Common.{◌≡◌, ℕ, ◌<◌, ◌≤◌, Bool, true, false, List, length, Some, sym, ◌∙◌, ap, arith, if◌then◌else◌, ◌⊎◌, inl, inr}
use Rattle.np_bdd.specs.Views.{Bits}
use Rattle.np_bdd.specs.Walking.{with_bit}
use Rattle.np_partition.specs.declared.shows.Show.{Show}
use Rattle.np_partition.specs.declared.pairing.Pairing.{Pairing}
use Rattle.np_partition.specs.declared.product.Halves.{Halves}
use Rattle.np_partition.specs.Diagram.{class_at, bit_at, IsDiagram}
use Rattle.np_partition.specs.Places.{KeepsPlaces, StartsAt, Chooses}
use Rattle.np_partition.specs.Pairing.{classes_at, AreReached, AreHalves, pair_of, KeepsPairing, IsPlaceOfPair, IsPaired, AddsAtMost, AddsReached}
use Rattle.np_partition.proofs.PlaceLaws.{keeps_places_chained}
use Rattle.np_partition.proofs.BitLaws.{leads_by}
use Rattle.np_partition.proofs.MemoLaws.{paired_stays}

-- ---- keeping

pub keeps_pairing_chained : (first next last : Pairing) → KeepsPairing first next → KeepsPairing next last → KeepsPairing first last
keeps_pairing_chained first next last a b = record {
  places = keeps_places_chained first.places next.places last.places a.places b.places;
  pairs = λ n pair e. b.pairs n pair (a.pairs n pair e);
}

-- more places, and the same classes
pub keeps_with_places : (old : Pairing) (places : List Show) → KeepsPlaces old.places places → KeepsPairing old (record { places = places; pairs = old.pairs })
keeps_with_places old places k = record { places = k; pairs = λ n pair e. e }

-- ---- two classes

-- the place of their pair is the place for them
pub classes_paired : (first second : List Show) (x y : ℕ) (pair : ℕ × ℕ) (pairing : Pairing) (z : ℕ) → x < length first → y < length second → bit_at first x ≤ 111
    → ((bits : Bits) → classes_at bits first second x y ≡ pair) → IsPlaceOfPair pairing pair z → IsPaired first second x y pairing z
classes_paired first second x y pair pairing z x_there y_there small e p = record {
  there = p.starts.there;
  from = λ bit a b. omega (arith, a, small, p.starts.from);
  exact = λ bits. p.leads bits ∙ ap Some (sym (e bits));
}

-- all bits lead to them
pub classes_reached : (first second : List Show) (x y : ℕ) (pair : ℕ × ℕ) (old new : Pairing) → ((bits : Bits) → classes_at bits first second x y ≡ pair) → AddsAtMost pair old new → AddsReached first second x y old new
classes_reached first second x y pair old new e adds = record { only = λ n other f. by n other (adds.only n other f) }
  where
    by : (n : ℕ) (other : ℕ × ℕ) → (pair_of old n ≡ Some other) ⊎ (pair ≡ other) → (pair_of old n ≡ Some other) ⊎ AreReached first second x y other
    by n other (inl before) = inl before
    by n other (inr same) = inr (record { bits = λ i. false; exact = e (λ i. false) ∙ same })

-- ---- halves

-- what bits reach from the branches they reach from the places, with the bit of the branches
branch_reached : (first second : List Show) → IsDiagram first → IsDiagram second → (x y : ℕ) (halves : Halves) → AreHalves first second x y halves → (b : Bool) (pair : ℕ × ℕ)
    → AreReached first second (if b then halves.x.high else halves.x.low) (if b then halves.y.high else halves.y.low) pair → AreReached first second x y pair
branch_reached first second in_first in_second x y halves h b pair r = record {
  bits = with_bit r.bits halves.bit b;
  exact =
      (λ i. (
        leads_by first in_first halves.bit halves.x.low halves.x.high x h.in_first r.bits b i,
        leads_by second in_second halves.bit halves.y.low halves.y.high y h.in_second r.bits b i,
      ))
      ∙ r.exact;
}

pub halves_reached : (first second : List Show) → IsDiagram first → IsDiagram second → (x y : ℕ) (halves : Halves) → AreHalves first second x y halves
    → (old after_low new : Pairing) → AddsReached first second halves.x.low halves.y.low old after_low → AddsReached first second halves.x.high halves.y.high after_low new
    → (places : List Show) → AddsReached first second x y old (record { places = places; pairs = new.pairs })
halves_reached first second in_first in_second x y halves h old after_low new low high places = record { only = λ n pair e. by_high n pair (high.only n pair e) }
  where
    by_low : (n : ℕ) (pair : ℕ × ℕ) → (pair_of old n ≡ Some pair) ⊎ AreReached first second halves.x.low halves.y.low pair → (pair_of old n ≡ Some pair) ⊎ AreReached first second x y pair
    by_low n pair (inl before) = inl before
    by_low n pair (inr reached) = inr (branch_reached first second in_first in_second x y halves h false pair reached)

    by_high : (n : ℕ) (pair : ℕ × ℕ) → (pair_of after_low n ≡ Some pair) ⊎ AreReached first second halves.x.high halves.y.high pair → (pair_of old n ≡ Some pair) ⊎ AreReached first second x y pair
    by_high n pair (inl before) = by_low n pair (low.only n pair before)
    by_high n pair (inr reached) = inr (branch_reached first second in_first in_second x y halves h true pair reached)

-- the place that chooses between those for the branches is the place for the two
pub halves_paired : (first second : List Show) (x y : ℕ) (halves : Halves) → AreHalves first second x y halves
    → (after_low after_high : Pairing) (places : List Show) (low high z : ℕ) → KeepsPairing after_low after_high → KeepsPlaces after_high.places places
    → IsPaired first second halves.x.low halves.y.low after_low low → IsPaired first second halves.x.high halves.y.high after_high high
    → StartsAt places halves.bit z → Chooses places halves.bit low high z → IsPaired first second x y (record { places = places; pairs = after_high.pairs }) z
halves_paired first second x y halves h after_low after_high places low high z k k_new p_low p_high starts chooses = record {
  there = starts.there;
  from = λ bit a b. omega (arith, h.bit, starts.from, a, b);
  exact = λ bits.
      ap (pair_of new) (chooses bits) ∙ by bits (bits halves.bit)
      ∙ ap Some (λ i. (sym (h.in_first.chooses bits) i, sym (h.in_second.chooses bits) i));
}
  where
    new : Pairing
    new = record { places = places; pairs = after_high.pairs }

    kept : KeepsPairing after_high new
    kept = keeps_with_places after_high places k_new

    low_now : IsPaired first second halves.x.low halves.y.low new low
    low_now = paired_stays first second halves.x.low halves.y.low after_low new low (keeps_pairing_chained after_low after_high new k kept) p_low

    high_now : IsPaired first second halves.x.high halves.y.high new high
    high_now = paired_stays first second halves.x.high halves.y.high after_high new high kept p_high

    by : (bits : Bits) (b : Bool) → pair_of new (if b then class_at bits places high else class_at bits places low)
        ≡ Some (if b then class_at bits first halves.x.high else class_at bits first halves.x.low, if b then class_at bits second halves.y.high else class_at bits second halves.y.low)
    by bits true = high_now.exact bits
    by bits false = low_now.exact bits

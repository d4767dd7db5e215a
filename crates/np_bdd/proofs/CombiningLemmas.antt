-- What two nodes are combined to: the answers without a walk, those of two halves, and the memo's.
use Rattle.std.proofs.Common.{◌≡◌, ◌≢◌, ℕ, ◌+◌, ◌-◌, ◌<◌, ◌≤◌, Bool, true, false, List, length, refl, sym, ◌∙◌, arith, if◌then◌else◌}
use Rattle.std.specs.Prelude.{◌&&◌, ◌||◌, not}
use Rattle.std.proofs.lemmas.Option.{slice_get_within, get_or_from_slice_get}
use Rattle.np_bdd.specs.declared.views.View.{View}
use Rattle.np_bdd.specs.declared.views.View.TheVariants.{No, Yes, Test}
use Rattle.np_bdd.specs.declared.combining.Halves.{Halves}
use Rattle.np_bdd.specs.declared.combining.Operation.{Operation}
use Rattle.np_bdd.specs.declared.combining.Operation.TheVariants.{Meet, Minus, Join}
use Rattle.np_bdd.specs.Views.{Bits, view_at, leads_to_yes}
use Rattle.np_bdd.specs.Diagram.{bit_of, bit_at_place, IsOrdered, IsDiagram}
use Rattle.np_bdd.specs.Nodes.{KeepsNodes, StartsAt, Chooses}
use Rattle.np_bdd.specs.Combining.{combined, lesser_bit, AreHalves, IsCombined, IsPart}
use Rattle.np_bdd.proofs.PlaceLemmas.{leads_at_no, leads_at_yes}
use Rattle.np_bdd.proofs.KeepingLemmas.{keeps_nodes_chained}

-- ---- the first two places

no_at : (views : List View) → IsDiagram views → view_at views 0 ≡ No
no_at views d = get_or_from_slice_get views 0 No No d.no_first

yes_at : (views : List View) → IsDiagram views → view_at views 1 ≡ Yes
yes_at views d = get_or_from_slice_get views 1 Yes No d.yes_next

leads_from_no : (views : List View) → IsDiagram views → (bits : Bits) (x : ℕ) → x ≡ 0 → leads_to_yes views bits x ≡ false
leads_from_no views d bits x e = rw e (leads_at_no views bits 0 (no_at views d))

leads_from_yes : (views : List View) → IsDiagram views → (bits : Bits) (x : ℕ) → x ≡ 1 → leads_to_yes views bits x ≡ true
leads_from_yes views d bits x e = rw e (leads_at_yes views bits 1 (yes_at views d))

small_bit : (views : List View) (v : View) → IsOrdered views v → bit_of v ≤ 111
small_bit views No o = omega arith
small_bit views Yes o = omega arith
small_bit views (Test bit low high) o = omega (arith, o.bit_fits)

small_at : (views : List View) → IsDiagram views → (x : ℕ) → x < length views → bit_at_place views x ≤ 111
small_at views d x there = small_bit views (view_at views x) (d.ordered x there)

-- a place other than the first two tests a bit
pub tests_at : (views : List View) → IsDiagram views → (x : ℕ) → x < length views → x ≢ 0 → x ≢ 1 → bit_at_place views x < 111
tests_at views d x there not_no not_yes = by (view_at views x) refl (d.ordered x there)
  where
    by : (v : View) → view_at views x ≡ v → IsOrdered views v → bit_of v < 111
    by No e o = absurd (not_no (d.unique x 0 there (slice_get_within views 0 No d.no_first) (e ∙ sym (no_at views d))))
    by Yes e o = absurd (not_yes (d.unique x 1 there (slice_get_within views 1 Yes d.yes_next) (e ∙ sym (yes_at views d))))
    by (Test bit low high) e o = o.bit_fits

-- ---- the answers without a walk

module _ (operation : Operation) (views : List View) (d : IsDiagram views) (x y : ℕ) (first : x < length views) (second : y < length views) where
  abbrev answer_of : Bits → Bool
  answer_of bits = combined operation (leads_to_yes views bits x) (leads_to_yes views bits y)

  is_first : ((bits : Bits) → leads_to_yes views bits x ≡ answer_of bits) → IsCombined operation views x y x
  is_first e = record { there = first; from = λ bit a b. a; exact = e }

  is_second : ((bits : Bits) → leads_to_yes views bits y ≡ answer_of bits) → IsCombined operation views x y y
  is_second e = record { there = second; from = λ bit a b. b; exact = e }

  is_no : ((bits : Bits) → false ≡ answer_of bits) → IsCombined operation views x y 0
  is_no e = record {
    there = slice_get_within views 0 No d.no_first;
    from = λ bit a b. rw (no_at views d) (omega (arith, small_at views d x first));
    exact = λ bits. leads_from_no views d bits 0 refl ∙ e bits;
  }

-- where one place is part of the other, their meet, difference and join are settled
meet_bits : (a b : Bool) → (a && b) ≡ a → a ≡ (a && b)
meet_bits a b e = sym e

minus_bits : (a b : Bool) → (a && b) ≡ a → false ≡ (a && not b)
minus_bits true true e = refl
minus_bits true false e = cc
minus_bits false b e = refl

join_bits : (a b : Bool) → (a && b) ≡ a → b ≡ (a || b)
join_bits true b e = e
join_bits false b e = refl

meet_back : (a b : Bool) → (b && a) ≡ b → b ≡ (a && b)
meet_back true b e = refl
meet_back false true e = cc
meet_back false false e = refl

join_back : (a b : Bool) → (b && a) ≡ b → a ≡ (a || b)
join_back true b e = refl
join_back false true e = cc
join_back false false e = refl

none_taken : (a b : Bool) → b ≡ false → a ≡ (a && not b)
none_taken true b e = rw e refl
none_taken false b e = refl

and_true : (a b : Bool) → b ≡ true → (a && b) ≡ a
and_true true b e = e
and_true false b e = refl

and_same : (a : Bool) → (a && a) ≡ a
and_same true = refl
and_same false = refl

pub no_is_part : (views : List View) → IsDiagram views → (x y : ℕ) → x ≡ 0 → IsPart views x y
no_is_part views d x y e = record { part = λ bits. rw (leads_from_no views d bits x e) refl }

pub part_of_yes : (views : List View) → IsDiagram views → (x y : ℕ) → y ≡ 1 → IsPart views x y
part_of_yes views d x y e = record { part = λ bits. and_true (leads_to_yes views bits x) (leads_to_yes views bits y) (leads_from_yes views d bits y e) }

pub part_of_same : (views : List View) → (x y : ℕ) → x ≡ y → IsPart views x y
part_of_same views x y e = record { part = λ bits. rw (← e) (and_same (leads_to_yes views bits x)) }

module _ (views : List View) (d : IsDiagram views) (x y : ℕ) (first : x < length views) (second : y < length views) where
  pub meet_first : IsPart views x y → IsCombined Meet views x y x
  meet_first p = is_first Meet views d x y first second (λ bits. meet_bits (leads_to_yes views bits x) (leads_to_yes views bits y) (p.part bits))

  pub meet_second : IsPart views y x → IsCombined Meet views x y y
  meet_second p = is_second Meet views d x y first second (λ bits. meet_back (leads_to_yes views bits x) (leads_to_yes views bits y) (p.part bits))

  pub minus_none : IsPart views x y → IsCombined Minus views x y 0
  minus_none p = is_no Minus views d x y first second (λ bits. minus_bits (leads_to_yes views bits x) (leads_to_yes views bits y) (p.part bits))

  pub minus_first : y ≡ 0 → IsCombined Minus views x y x
  minus_first e = is_first Minus views d x y first second (λ bits. none_taken (leads_to_yes views bits x) (leads_to_yes views bits y) (leads_from_no views d bits y e))

  pub join_second : IsPart views x y → IsCombined Join views x y y
  join_second p = is_second Join views d x y first second (λ bits. join_bits (leads_to_yes views bits x) (leads_to_yes views bits y) (p.part bits))

  pub join_first : IsPart views y x → IsCombined Join views x y x
  join_first p = is_first Join views d x y first second (λ bits. join_back (leads_to_yes views bits x) (leads_to_yes views bits y) (p.part bits))

-- ---- halves

-- a branch tests a greater bit than the two places
pub halves_fall : (views : List View) (x y : ℕ) (halves : Halves) (p q : ℕ) → AreHalves views x y halves → StartsAt views (1 + halves.bit) p → StartsAt views (1 + halves.bit) q
    → 111 - lesser_bit views p q < 111 - lesser_bit views x y
halves_fall views x y halves p q h a b =
    let e = h.bit in
    let fits = h.fits in
    let first = a.from in
    let second = b.from in
    omega arith

-- a combined branch tests a greater bit too
pub half_starts : (operation : Operation) (views new : List View) (bit p q z : ℕ) → KeepsNodes views new → StartsAt views bit p → StartsAt views bit q → IsCombined operation new p q z → StartsAt new bit z
half_starts operation views new bit p q z k a b c = record {
  there = c.there;
  from = c.from bit (rw (k.bit p a.there) a.from) (rw (k.bit q b.there) b.from);
}

pub starts_stay : (old new : List View) (bit x : ℕ) → KeepsNodes old new → StartsAt old bit x → StartsAt new bit x
starts_stay old new bit x k s = record { there = k.there x s.there; from = rw (k.bit x s.there) s.from }

-- where the branches of two places are combined, the place that chooses between them is what the two are combined to
module _ (operation : Operation) (old after_low after_high new : List View) (x y : ℕ) (halves : Halves) (low high z : ℕ)
    (h : AreHalves old x y halves) (first : x < length old) (second : y < length old)
    (k_low : KeepsNodes old after_low) (k_high : KeepsNodes after_low after_high) (k_new : KeepsNodes after_high new)
    (c_low : IsCombined operation after_low halves.x.low.at halves.y.low.at low) (c_high : IsCombined operation after_high halves.x.high.at halves.y.high.at high)
    (starts : StartsAt new halves.bit z) (chooses : Chooses new halves.bit low high z) where
  abbrev k_two : KeepsNodes old after_high
  k_two = keeps_nodes_chained old after_low after_high k_low k_high

  abbrev k_all : KeepsNodes old new
  k_all = keeps_nodes_chained old after_high new k_two k_new

  abbrev Has : Bits → ℕ → Bool
  Has bits p = leads_to_yes old bits p

  low_exact : (bits : Bits) → leads_to_yes new bits low ≡ combined operation (Has bits halves.x.low.at) (Has bits halves.y.low.at)
  low_exact bits =
      k_new.same low (k_high.there low c_low.there) bits ∙ k_high.same low c_low.there bits ∙ c_low.exact bits
      ∙ rw (k_low.same halves.x.low.at h.first.low_starts.there bits, k_low.same halves.y.low.at h.second.low_starts.there bits) refl

  high_exact : (bits : Bits) → leads_to_yes new bits high ≡ combined operation (Has bits halves.x.high.at) (Has bits halves.y.high.at)
  high_exact bits =
      k_new.same high c_high.there bits ∙ c_high.exact bits
      ∙ rw (k_two.same halves.x.high.at h.first.high_starts.there bits, k_two.same halves.y.high.at h.second.high_starts.there bits) refl

  by_bit : (b r xl xh yl yh zl zh : Bool) → r ≡ (if b then zh else zl) → zl ≡ combined operation xl yl → zh ≡ combined operation xh yh
      → r ≡ combined operation (if b then xh else xl) (if b then yh else yl)
  by_bit true r xl xh yl yh zl zh e l h = e ∙ h
  by_bit false r xl xh yl yh zl zh e l h = e ∙ l

  pub halves_combined : IsCombined operation new x y z
  halves_combined = record {
    there = starts.there;
    from = λ bit a b. in_bits bit (rw (k_all.bit x first) at a) (rw (k_all.bit y second) at b);
    exact = λ bits.
        by_bit (bits halves.bit) (leads_to_yes new bits z) _ _ _ _ (leads_to_yes new bits low) (leads_to_yes new bits high) (chooses bits) (low_exact bits) (high_exact bits)
        ∙ rw (k_all.same x first bits, k_all.same y second bits, h.first.chooses bits, h.second.chooses bits) refl;
  }
    where
      in_bits : (bit : ℕ) → bit ≤ bit_at_place old x → bit ≤ bit_at_place old y → bit ≤ bit_at_place new z
      in_bits bit a b = omega (arith, h.bit, starts.from)

-- More views behind the others change nothing that bits find, and a new test at the end keeps the diagram.
use Rattle.std.proofs.Common.{◌≡◌, ◌≢◌, ℕ, zero, suc, ◌+◌, ◌<◌, Bool, true, false, List, [], ◌∷◌, ◌++◌, length, slice_get, Some, refl, sym, ◌∙◌, ap, subst, arith, if◌then◌else◌, ◌⊎◌, inl, inr}
use Rattle.std.specs.List.{list_any}
use Rattle.std.proofs.lemmas.List.{get_or_append_left, get_or_at, length-append}
use Rattle.std.proofs.lemmas.List.Folds.{list_any_at}
use Rattle.std.proofs.lemmas.Option.{slice_get_within, get_or_from_slice_get}
use Rattle.np_bdd.specs.declared.views.Node.{Node}
use Rattle.np_bdd.specs.declared.views.View.{View}
use Rattle.np_bdd.specs.declared.views.View.TheVariants.{No, Yes, Test}
use Rattle.np_bdd.specs.Views.{Bits, view_at, sent_by, place_after, is_yes, leads_to_yes}
use Rattle.np_bdd.specs.Diagram.{bit_of, IsOrdered, IsOrderedTest, IsDiagram}
use Rattle.np_bdd.specs.Nodes.{KeepsNodes, StartsAt, IsSplit}
use Rattle.np_bdd.proofs.PlaceLemmas.{step, leads_at_test}
use Rattle.np_bdd.proofs.EqualityLemmas.{view_equal, view_same}
use Rattle.np_bdd.proofs.KeepingLemmas.{keeps_nodes_itself}
use Rattle.np_bdd.specs.contracts.views.ViewPartialEq.TheImpl.{ghosts}

view_stays : (old more : List View) (at : ℕ) → at < length old → view_at (old ++ more) at ≡ view_at old at
view_stays old more at there = get_or_append_left old more No at there

sent_there : (views : List View) → IsDiagram views → (bits : Bits) (at : ℕ) → at < length views → sent_by (view_at views at) bits at < length views
sent_there views d bits at there =
    elim (step views d bits at there) [ inl stays ↦ rw stays.0 there | inr goes ↦ goes.0 ]

abbrev SamePlace : List View → List View → Bits → ℕ → ℕ → Type 0
SamePlace old more bits n at = (place_after n (old ++ more) bits at ≡ place_after n old bits at) × (place_after n old bits at < length old)

same_place : (old more : List View) → IsDiagram old → (bits : Bits) (n at : ℕ) → at < length old → SamePlace old more bits n at
unfolding place_after
same_place old more d bits zero at there = (refl, there)
same_place old more d bits (suc n) at there =
    rw (view_stays old more at there) (same_place old more d bits n (sent_by (view_at old at) bits at) (sent_there old d bits at there))

leads_same : (old more : List View) → IsDiagram old → (x : ℕ) → x < length old → (bits : Bits) → leads_to_yes (old ++ more) bits x ≡ leads_to_yes old bits x
unfolding leads_to_yes
leads_same old more d x there bits =
    let s = same_place old more d bits 111 x there in
    ap (λ p. is_yes (view_at (old ++ more) p)) s.0 ∙ ap is_yes (view_stays old more (place_after 111 old bits x) s.1)

pub keeps_nodes_before : (old more : List View) → IsDiagram old → KeepsNodes old (old ++ more)
keeps_nodes_before old more d = record {
  views = record { more = more; appended = refl };
  there = λ x h. omega (arith, length-append old more);
  bit = λ x h. ap bit_of (view_stays old more x h);
  same = leads_same old more d;
}

-- a view's order stays where nodes are kept
ordered_stays : (old new : List View) → KeepsNodes old new → (v : View) → IsOrdered old v → IsOrdered new v
ordered_stays old new k No o = tt
ordered_stays old new k Yes o = tt
ordered_stays old new k (Test bit low high) o = record {
  bit_fits = o.bit_fits;
  low_there = k.there low.at o.low_there;
  high_there = k.there high.at o.high_there;
  low_greater = rw (k.bit low.at o.low_there) o.low_greater;
  high_greater = rw (k.bit high.at o.high_there) o.high_greater;
  differ = o.differ;
}

get_before : (old more : List View) (n : ℕ) (v : View) → slice_get old n ≡ Some v → slice_get (old ++ more) n ≡ Some v
get_before [] more n v e = cc
get_before (x ∷ xs) more zero v e = e
get_before (x ∷ xs) more (suc n) v e = get_before xs more n v e

-- one more view, which is not among the others
module _ (old : List View) (v : View) (d : IsDiagram old) (o : IsOrdered old v) (new : list_any (ghosts.eq v) old ≡ false) where
  abbrev kept_before : KeepsNodes old (old ++ v ∷ [])
  kept_before = keeps_nodes_before old (v ∷ []) d

  old_or_last : (at : ℕ) → at < length (old ++ v ∷ []) → (at < length old) ⊎ (at ≡ length old)
  old_or_last at there = at_or_below at (length old) (omega (arith, length-append old (v ∷ [])))
    where
      at_or_below : (a n : ℕ) → a < n + 1 → (a < n) ⊎ (a ≡ n)
      at_or_below a n h = grind arith

  last_is : (at : ℕ) → at ≡ length old → view_at (old ++ v ∷ []) at ≡ v
  last_is at e = get_or_at old v [] No at (sym e)

  not_among : (x : ℕ) → x < length old → view_at old x ≢ v
  not_among x there e =
      let found : list_any (ghosts.eq v) old ≡ true = list_any_at (ghosts.eq v) old x No there (rw e (view_same v)) in
      cc

  ordered_more : (at : ℕ) → at < length (old ++ v ∷ []) → IsOrdered (old ++ v ∷ []) (view_at (old ++ v ∷ []) at)
  ordered_more at there = elim (old_or_last at there) [
    | inl before ↦ rw (view_stays old (v ∷ []) at before) (ordered_stays old (old ++ v ∷ []) kept_before (view_at old at) (d.ordered at before))
    | inr last ↦ rw (last_is at last) (ordered_stays old (old ++ v ∷ []) kept_before v o)
  ]

  unique_more : (x y : ℕ) → x < length (old ++ v ∷ []) → y < length (old ++ v ∷ []) → view_at (old ++ v ∷ []) x ≡ view_at (old ++ v ∷ []) y → x ≡ y
  unique_more x y hx hy e = elim (old_or_last x hx) [
    | inl x_before ↦ elim (old_or_last y hy) [
      | inl y_before ↦ d.unique x y x_before y_before (sym (view_stays old (v ∷ []) x x_before) ∙ e ∙ view_stays old (v ∷ []) y y_before)
      | inr y_last ↦ absurd (not_among x x_before (sym (view_stays old (v ∷ []) x x_before) ∙ e ∙ last_is y y_last))
    ]
    | inr x_last ↦ elim (old_or_last y hy) [
      | inl y_before ↦ absurd (not_among y y_before (sym (view_stays old (v ∷ []) y y_before) ∙ sym e ∙ last_is x x_last))
      | inr y_last ↦ x_last ∙ sym y_last
    ]
  ]

  diagram_more : IsDiagram (old ++ v ∷ [])
  diagram_more = record {
    no_first = get_before old (v ∷ []) 0 No d.no_first;
    yes_next = get_before old (v ∷ []) 1 Yes d.yes_next;
    ordered = ordered_more;
    unique = unique_more;
  }

-- what an insert of a view gives
pub record IsAdded (old new : List View) : Type 0 where
  pub kept : KeepsNodes old new
  pub diagram : IsDiagram new

pub added : (old new : List View) (v : View) → IsDiagram old → IsOrdered old v → new ≡ (if list_any (ghosts.eq v) old then old else old ++ v ∷ []) → IsAdded old new
added old new v d o e = by (list_any (ghosts.eq v) old) refl
  where
    by : (b : Bool) → list_any (ghosts.eq v) old ≡ b → IsAdded old new
    by true found = let same : new ≡ old = rw found at e in rw same (record { kept = keeps_nodes_itself old; diagram = d })
    by false missing =
        let more : new ≡ old ++ v ∷ [] = rw missing at e in
        rw more (record { kept = keeps_nodes_before old (v ∷ []) d; diagram = diagram_more old v d o missing })

-- a place where a value equal to the view is stored is a place of the view
pub stands_at : (views : List View) (at : ℕ) (v w : View) → slice_get views at ≡ Some w → ghosts.eq v w ≡ true → (at < length views) × (view_at views at ≡ v)
stands_at views at v w e same = (slice_get_within views at w e, get_or_from_slice_get views at w No e ∙ sym (view_equal v w same))

-- a place of a test starts at its bit, and chooses by it
pub starts_at_test : (views : List View) (bit : ℕ) (low high : Node) (at : ℕ) → (at < length views) × (view_at views at ≡ Test bit low high) → StartsAt views bit at
starts_at_test views bit low high at s = record { there = s.0; from = rw s.1 (omega arith) }

-- what a new test needs
pub is_ordered_test : (views : List View) (bit : ℕ) (low high : Node) → bit < 111 → StartsAt views (1 + bit) low.at → StartsAt views (1 + bit) high.at → low.at ≢ high.at → IsOrdered views (Test bit low high)
is_ordered_test views bit low high fits l h apart = record {
  bit_fits = fits;
  low_there = l.there;
  high_there = h.there;
  low_greater = omega (arith, l.from);
  high_greater = omega (arith, h.from);
  differ = apart;
}

-- a test splits its place
pub split_at_test : (views : List View) (bit : ℕ) (low high : Node) (at : ℕ) → IsDiagram views → at < length views → view_at views at ≡ Test bit low high → IsSplit views bit low.at high.at at
split_at_test views bit low high at d there e =
    let o : IsOrderedTest views bit low high = subst (IsOrdered views) e (d.ordered at there) in
    record {
      low_starts = record { there = o.low_there; from = omega (arith, o.low_greater) };
      high_starts = record { there = o.high_there; from = omega (arith, o.high_greater) };
      chooses = λ bits. leads_at_test views d bits at bit low high there e;
    }

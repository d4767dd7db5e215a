-- Where bits lead: a step more or less, more views behind the others, and a new test.
use Rattle.std.proofs.Common.{◌≡◌, ℕ, zero, suc, ◌+◌, ◌<◌, ◌≤◌, Bool, true, false, List, length, refl, sym, ◌∙◌, ap, arith, if◌then◌else◌, ◌⊎◌, inl, inr}
use Rattle.np_bdd.specs.declared.views.Node.{Node}
use Rattle.np_bdd.specs.declared.views.View.{View}
use Rattle.np_bdd.specs.declared.views.View.TheVariants.{No, Yes, Test}
use Rattle.np_bdd.specs.Views.{Bits, view_at, sent_by, place_after, is_yes, leads_to_yes}
use Rattle.np_bdd.specs.Diagram.{bit_at_place, IsOrdered, IsDiagram}

-- a step that stays, from a place without a test
abbrev Stays : List View → Bits → ℕ → Type 0
Stays views bits at = (sent_by (view_at views at) bits at ≡ at) × (111 ≤ bit_at_place views at)

-- a step to a later test
abbrev Goes : List View → Bits → ℕ → Type 0
Goes views bits at =
    (sent_by (view_at views at) bits at < length views) × (bit_at_place views at < bit_at_place views (sent_by (view_at views at) bits at)) × (bit_at_place views at < 111)

step_of : (views : List View) (bits : Bits) (at : ℕ) (v : View) → view_at views at ≡ v → IsOrdered views v → Stays views bits at ⊎ Goes views bits at
step_of views bits at No e o = rw e (inl (refl, omega arith))
step_of views bits at Yes e o = rw e (inl (refl, omega arith))
step_of views bits at (Test bit low high) e o = rw e (chosen (bits bit))
  where
    chosen : (b : Bool) → ((if b then high.at else low.at) ≡ at) × (111 ≤ bit) ⊎ ((if b then high.at else low.at) < length views) × (bit < bit_at_place views (if b then high.at else low.at)) × (bit < 111)
    chosen true = inr (o.high_there, o.high_greater, o.bit_fits)
    chosen false = inr (o.low_there, o.low_greater, o.bit_fits)

pub step : (views : List View) → IsDiagram views → (bits : Bits) (at : ℕ) → at < length views → Stays views bits at ⊎ Goes views bits at
step views d bits at there = step_of views bits at (view_at views at) refl (d.ordered at there)

next_there : (views : List View) (bits : Bits) (at : ℕ) → at < length views → Stays views bits at ⊎ Goes views bits at → sent_by (view_at views at) bits at < length views
next_there views bits at there (inl stays) = rw stays.0 there
next_there views bits at there (inr goes) = goes.0

next_far : (views : List View) (bits : Bits) (n at : ℕ) → 111 ≤ bit_at_place views at + suc n → Stays views bits at ⊎ Goes views bits at → 111 ≤ bit_at_place views (sent_by (view_at views at) bits at) + n
next_far views bits n at far (inl stays) = rw stays.0 (omega (arith, stays.1))
next_far views bits n at far (inr goes) = omega (arith, goes.1, far)

last_stays : (views : List View) (bits : Bits) (at : ℕ) → 111 ≤ bit_at_place views at + zero → Stays views bits at ⊎ Goes views bits at → sent_by (view_at views at) bits at ≡ at
last_stays views bits at far (inl stays) = stays.0
last_stays views bits at far (inr goes) = absurd (omega (arith, goes.2, far))

-- once there is no test left, one step more changes nothing
pub one_more : (views : List View) → IsDiagram views → (bits : Bits) (n at : ℕ) → at < length views → 111 ≤ bit_at_place views at + n → place_after (suc n) views bits at ≡ place_after n views bits at
unfolding place_after
one_more views d bits zero at there far = last_stays views bits at far (step views d bits at there)
one_more views d bits (suc n) at there far =
    let taken = step views d bits at there in
    one_more views d bits n (sent_by (view_at views at) bits at) (next_there views bits at there taken) (next_far views bits n at far taken)

next_late : (views : List View) (bits : Bits) (at : ℕ) → Stays views bits at ⊎ Goes views bits at → 111 ≤ bit_at_place views (sent_by (view_at views at) bits at) + 110
next_late views bits at (inl stays) = rw stays.0 (omega (arith, stays.1))
next_late views bits at (inr goes) = omega (arith, goes.1)

-- from a place the bits lead where they lead from the place to which it sends them
pub leads_on : (views : List View) → IsDiagram views → (bits : Bits) (at : ℕ) → at < length views → leads_to_yes views bits at ≡ leads_to_yes views bits (sent_by (view_at views at) bits at)
unfolding leads_to_yes place_after
leads_on views d bits at there =
    let taken = step views d bits at there in
    ap (λ x. is_yes (view_at views x)) (sym (one_more views d bits 110 (sent_by (view_at views at) bits at) (next_there views bits at there taken) (next_late views bits at taken)))

-- what does not test leads nowhere else
stays_put : (n : ℕ) (views : List View) (bits : Bits) (at : ℕ) → sent_by (view_at views at) bits at ≡ at → place_after n views bits at ≡ at
unfolding place_after
stays_put zero views bits at e = refl
stays_put (suc n) views bits at e = rw e (stays_put n views bits at e)

pub leads_at_no : (views : List View) (bits : Bits) (at : ℕ) → view_at views at ≡ No → leads_to_yes views bits at ≡ false
unfolding leads_to_yes
leads_at_no views bits at e = rw (stays_put 111 views bits at (rw e refl), e) refl

pub leads_at_yes : (views : List View) (bits : Bits) (at : ℕ) → view_at views at ≡ Yes → leads_to_yes views bits at ≡ true
unfolding leads_to_yes
leads_at_yes views bits at e = rw (stays_put 111 views bits at (rw e refl), e) refl

-- a test chooses by its bit
pub leads_at_test : (views : List View) → IsDiagram views → (bits : Bits) (at bit : ℕ) (low high : Node) → at < length views → view_at views at ≡ Test bit low high
    → leads_to_yes views bits at ≡ (if bits bit then leads_to_yes views bits high.at else leads_to_yes views bits low.at)
leads_at_test views d bits at bit low high there e = leads_on views d bits at there ∙ rw e (chosen (bits bit))
  where
    chosen : (b : Bool) → leads_to_yes views bits (if b then high.at else low.at) ≡ (if b then leads_to_yes views bits high.at else leads_to_yes views bits low.at)
    chosen true = refl
    chosen false = refl

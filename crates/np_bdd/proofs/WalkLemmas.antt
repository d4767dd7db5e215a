-- The steps of bits through a diagram.
use Rattle.std.proofs.Common.{◌≡◌, ℕ, ◌<◌, ◌≤◌, List, length, refl, sym, ◌∙◌, ap, arith, ◌⊎◌, inl, inr}
use Rattle.np_bdd.specs.declared.views.View.{View}
use Rattle.np_bdd.specs.declared.views.View.TheVariants.{No, Yes, Test}
use Rattle.np_bdd.specs.Views.{Bits, view_at, sent_by, is_yes, leads_to_yes}
use Rattle.np_bdd.specs.Diagram.{bit_of, bit_at_place, IsOrdered, IsDiagram}
use Rattle.np_bdd.proofs.PlaceLemmas.{step, leads_at_no, leads_at_yes}

-- a step that stays, from a place without a test
abbrev Stays : List View → Bits → ℕ → Type 0
Stays views bits at = (sent_by (view_at views at) bits at ≡ at) × (111 ≤ bit_at_place views at)

-- a step to a later test
abbrev Goes : List View → Bits → ℕ → Type 0
Goes views bits at =
    (sent_by (view_at views at) bits at < length views) × (bit_at_place views at < bit_at_place views (sent_by (view_at views at) bits at)) × (bit_at_place views at < 111)

-- a step from a place leads to a place
pub sent_there : (views : List View) → IsDiagram views → (bits : Bits) (at : ℕ) → at < length views → sent_by (view_at views at) bits at < length views
sent_there views d bits at there = by (step views d bits at there)
  where
    by : Stays views bits at ⊎ Goes views bits at → sent_by (view_at views at) bits at < length views
    by (inl stays) = rw stays.0 there
    by (inr goes) = goes.0

-- from a test it leads to a later one
pub sent_later : (views : List View) → IsDiagram views → (bits : Bits) (at : ℕ) → at < length views → bit_at_place views at < 111 → bit_at_place views at < bit_at_place views (sent_by (view_at views at) bits at)
sent_later views d bits at there tests = by (step views d bits at there)
  where
    by : Stays views bits at ⊎ Goes views bits at → bit_at_place views at < bit_at_place views (sent_by (view_at views at) bits at)
    by (inl stays) = absurd (omega (arith, stays.1, tests))
    by (inr goes) = goes.1

-- where nothing is tested the view says whether the bits lead to Yes
pub at_end : (views : List View) → IsDiagram views → (bits : Bits) (at : ℕ) → at < length views → 111 ≤ bit_at_place views at → leads_to_yes views bits at ≡ is_yes (view_at views at)
at_end views d bits at there ends = by (view_at views at) refl (d.ordered at there)
  where
    by : (v : View) → view_at views at ≡ v → IsOrdered views v → leads_to_yes views bits at ≡ is_yes (view_at views at)
    by No e o = leads_at_no views bits at e ∙ sym (ap is_yes e)
    by Yes e o = leads_at_yes views bits at e ∙ sym (ap is_yes e)
    by (Test bit low high) e o = absurd (omega (arith, ap bit_of e, o.bit_fits, ends))

use Rattle.std.proofs.Common.{◌≡◌, ◌<◌, ◌+◌, List, length, subst, sym}
use Rattle.std.proofs.lemmas.Bool.{eqb-false}
use Rattle.np_bdd.specs.declared.views.View.{View}
use Rattle.np_bdd.specs.declared.views.View.TheVariants.{Test}
use Rattle.np_bdd.specs.Views.{view_at}
use Rattle.np_bdd.specs.Nodes.{KeepsNodes, StartsAt}
use Rattle.np_bdd.proofs.PlaceLemmas.{leads_at_test}
use Rattle.np_bdd.proofs.AddingLemmas.{IsAdded, added, stands_at, starts_at_test, is_ordered_test}
use Rattle.np_bdd.proofs.nodes.Nodes.node.Goals as goal

-- the views after the insert
added_here : (c : goal.In_ok-at) → IsAdded c.self.inside.views.keys c.insert_full.new.self.keys
added_here c =
    let e : c.args.self.now ≡ c.self.inside.views.keys = sym c.self.view_is in
    let low = subst (λ (views : List View). StartsAt views (1 + c.args.bit) c.args.low.at) e c.requires.low in
    let high = subst (λ (views : List View). StartsAt views (1 + c.args.bit) c.args.high.at) e c.requires.high in
    let apart = eqb-false c.args.low.at c.args.high.at (sym c.if-eq.ensures) in
    added _ _ (Test c.args.bit c.args.low c.args.high) c.self.invariant (is_ordered_test _ c.args.bit c.args.low c.args.high c.requires.bit low high apart) c.in_ok-at.ensures.keys

-- and the place of the test
stands_here : (c : goal.In_ok-at) → (c.in_ok-at.at < length c.insert_full.new.self.keys) × (view_at c.insert_full.new.self.keys c.in_ok-at.at ≡ Test c.args.bit c.args.low c.args.high)
stands_here c = let s = c.in_ok-at.ensures.stored in stands_at _ _ _ s.0 s.1 s.2

pub invariant_of-self-2 : goal.invariant_of-self-2
invariant_of-self-2 c = (added_here c).diagram

pub returns-clause-kept : goal.returns-clause-kept
returns-clause-kept c =
    let e : c.self.inside.views.keys ≡ c.args.self.now = c.self.view_is in
    subst (λ (views : List View). KeepsNodes views c.insert_full.new.self.keys) e (added_here c).kept

pub returns-clause-starts : goal.returns-clause-starts
returns-clause-starts c = starts_at_test _ c.args.bit c.args.low c.args.high _ (stands_here c)

pub returns-clause-chooses : goal.returns-clause-chooses
returns-clause-chooses c bits =
    let s = stands_here c in
    leads_at_test _ (added_here c).diagram bits c.in_ok-at.at c.args.bit c.args.low c.args.high s.0 s.1

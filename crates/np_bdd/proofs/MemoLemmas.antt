-- What a memo keeps: after one more pair, and after the list has grown.
use Rattle.std.proofs.Common.{◌≡◌, ℕ, ◌<◌, Bool, true, false, List, length, Some, refl, sym, ◌∙◌, ◌⊎◌, inl, inr}
use Rattle.std.specs.Prelude.{◌==◌, cond}
use Rattle.std.specs.HashMap.{get}
use Rattle.std.proofs.lemmas.Bool.{eqb-true}
use Rattle.np_bdd.specs.declared.views.Node.{Node}
use Rattle.np_bdd.specs.declared.views.View.{View}
use Rattle.np_bdd.specs.declared.combining.Operation.{Operation}
use Rattle.np_bdd.specs.declared.memo.Memo.{Memo}
use Rattle.np_bdd.specs.Nodes.{KeepsNodes}
use Rattle.np_bdd.specs.Combining.{IsCombined}
use Rattle.np_bdd.specs.Memo.{same_pair, answer, IsMemo, Learns}
use Rattle.np_bdd.proofs.EqualityLemmas.{both_true, same_node}

-- a pair that is put into the map is the only one that is new
pub learned : (old new : Memo) (x y z : Node) → ((q : Node × Node) → get same_pair new.pairs q ≡ cond (same_pair (x, y) q) (Some z) (get same_pair old.pairs q)) → Learns old new x y z
learned old new x y z each = record { only = λ p q r e. by p q r (same_pair (x, y) (p, q)) refl (sym (each (p, q)) ∙ e) }
  where
    by : (p q r : Node) (b : Bool) → same_pair (x, y) (p, q) ≡ b → cond b (Some z) (answer old p q) ≡ Some r → (answer old p q ≡ Some r) ⊎ ((p ≡ x) × (q ≡ y) × (r ≡ z))
    by p q r true same e =
        let both = both_true (x.at == p.at) (y.at == q.at) same in
        let a : x ≡ p = same_node x p (eqb-true x.at p.at both.0) in
        let b : y ≡ q = same_node y q (eqb-true y.at q.at both.1) in
        let s : r ≡ z = cc in
        inr (sym a, sym b, s)
    by p q r false same e = inl e

-- a node stays combined where nodes are kept
pub combined_stays : (operation : Operation) (old new : List View) (x y z : ℕ) → KeepsNodes old new → x < length old → y < length old → IsCombined operation old x y z → IsCombined operation new x y z
combined_stays operation old new x y z k hx hy c = record {
  there = k.there z c.there;
  from = λ bit a b. rw (k.bit z c.there) (c.from bit (rw (k.bit x hx) at a) (rw (k.bit y hy) at b));
  exact = λ bits. rw (k.same z c.there bits, k.same x hx bits, k.same y hy bits) (c.exact bits);
}

pub memo_stays : (operation : Operation) (old new : List View) (memo : Memo) → KeepsNodes old new → IsMemo operation old memo → IsMemo operation new memo
memo_stays operation old new memo k m = record {
  first = λ x y z e. k.there x.at (m.first x y z e);
  second = λ x y z e. k.there y.at (m.second x y z e);
  exact = λ x y z e. combined_stays operation old new x.at y.at z.at k (m.first x y z e) (m.second x y z e) (m.exact x y z e);
}

-- what is true of one pair
record IsAnswer (operation : Operation) (views : List View) (x y z : ℕ) : Type 0 where
  first : x < length views
  second : y < length views
  exact : IsCombined operation views x y z

pub memo_learns : (operation : Operation) (views : List View) (old new : Memo) (x y z : Node) → IsMemo operation views old → Learns old new x y z
    → x.at < length views → y.at < length views → IsCombined operation views x.at y.at z.at → IsMemo operation views new
memo_learns operation views old new x y z m l hx hy c = record {
  first = λ p q r e. (holds p q r e).first;
  second = λ p q r e. (holds p q r e).second;
  exact = λ p q r e. (holds p q r e).exact;
}
  where
    of : (p q r : Node) → (answer old p q ≡ Some r) ⊎ ((p ≡ x) × (q ≡ y) × (r ≡ z)) → IsAnswer operation views p.at q.at r.at
    of p q r (inl e) = record { first = m.first p q r e; second = m.second p q r e; exact = m.exact p q r e }
    of p q r (inr same) = rw (same.0, same.1, same.2) (record { first = hx; second = hy; exact = c })

    holds : (p q r : Node) → answer new p q ≡ Some r → IsAnswer operation views p.at q.at r.at
    holds p q r e = of p q r (l.only p q r e)

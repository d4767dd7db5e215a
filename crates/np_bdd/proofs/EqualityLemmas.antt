-- What `==` says of two views.
use Rattle.std.proofs.Common.{◌≡◌, Bool, true, false, refl, eq-eqb}
use Rattle.std.specs.Prelude.{◌&&◌}
use Rattle.std.proofs.lemmas.Bool.{eqb-true}
use Rattle.np_bdd.specs.declared.views.Node.{Node}
use Rattle.np_bdd.specs.declared.views.View.{View}
use Rattle.np_bdd.specs.declared.views.View.TheVariants.{No, Yes, Test}
use Rattle.np_bdd.specs.contracts.views.ViewPartialEq.TheImpl.{ghosts}

pub both_true : (a b : Bool) → (a && b) ≡ true → (a ≡ true) × (b ≡ true)
both_true true b e = (refl, e)
both_true false b e = cc

pub same_node : (x y : Node) → x.at ≡ y.at → x ≡ y
same_node x y e = λ i. record { at = e i }

pub view_equal : (v w : View) → ghosts.eq v w ≡ true → v ≡ w
view_equal No No e = refl
view_equal No Yes e = cc
view_equal No (Test bit low high) e = cc
view_equal Yes No e = cc
view_equal Yes Yes e = refl
view_equal Yes (Test bit low high) e = cc
view_equal (Test bit low high) No e = cc
view_equal (Test bit low high) Yes e = cc
view_equal (Test bit low high) (Test bit' low' high') e =
    let p = both_true _ _ e in
    let q = both_true _ _ p.1 in
    let a : bit ≡ bit' = eqb-true bit bit' p.0 in
    let l : low ≡ low' = same_node low low' (eqb-true low.at low'.at q.0) in
    let h : high ≡ high' = same_node high high' (eqb-true high.at high'.at q.1) in
    cc

pub view_same : (v : View) → ghosts.eq v v ≡ true
view_same No = refl
view_same Yes = refl
view_same (Test bit low high) = rw (eq-eqb bit bit refl, eq-eqb low.at low.at refl, eq-eqb high.at high.at refl) refl

-- What a memo says of pairs of nodes.
use Rattle.std.specs.Prelude.{◌≡◌, ◌<◌, Bool, ◌==◌, ◌&&◌, List, length, Option, Some, ◌⊎◌}
use Rattle.std.specs.HashMap.{get}
use Rattle.np_bdd.specs.declared.views.Node.{Node}
use Rattle.np_bdd.specs.declared.views.View.{View}
use Rattle.np_bdd.specs.declared.combining.Operation.{Operation}
use Rattle.np_bdd.specs.declared.memo.Memo.{Memo}
use Rattle.np_bdd.specs.Combining.{IsCombined}

-- the same first node, and the same second one
abbrev pub same_pair : Node × Node → Node × Node → Bool
same_pair p q = (p.0.at == q.0.at) && (p.1.at == q.1.at)

-- what the memo keeps of a pair
abbrev pub answer : Memo → Node → Node → Option Node
answer memo x y = get same_pair memo.pairs (x, y)

-- each pair of the memo stands in the list, and is combined to the node that it has there
pub record IsMemo (operation : Operation) (views : List View) (memo : Memo) : Type 0 where
  pub first : (x y z : Node) → answer memo x y ≡ Some z → x.at < length views
  pub second : (x y z : Node) → answer memo x y ≡ Some z → y.at < length views
  pub exact : (x y z : Node) → answer memo x y ≡ Some z → IsCombined operation views x.at y.at z.at

-- the memo keeps no answer but those that it had, and perhaps this one
pub record Learns (old new : Memo) (x y z : Node) : Type 0 where
  pub only : (p q r : Node) → answer new p q ≡ Some r → (answer old p q ≡ Some r) ⊎ ((p ≡ x) × (q ≡ y) × (r ≡ z))

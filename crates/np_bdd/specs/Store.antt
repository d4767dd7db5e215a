-- What the store's calls keep, and what its node of the valid headers is.
use Rattle.std.specs.Prelude.{List}
use Rattle.np_space.specs.Header.{is_valid_header}
use Rattle.np_bdd.specs.declared.views.Node.{Node}
use Rattle.np_bdd.specs.declared.views.View.{View}
use Rattle.np_bdd.specs.Nodes.{StartsAt}
use Rattle.np_bdd.specs.Fields.{HasHeaders}

-- the node has exactly the valid headers, and tests no bit of an address
pub record IsValidNode (views : List View) (x : Node) : Type 0 where
  pub starts : StartsAt views 64 x.at
  pub exact : HasHeaders is_valid_header views x.at

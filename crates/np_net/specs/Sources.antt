-- The areas of a network as predicates name them.
use Rattle.std.specs.Prelude.{List, map}
use Rattle.np_pred.specs.Areas.{AreaList}
use Rattle.np_net.specs.declared.filtering.Area.{Area}

-- the areas, each by its name, with its source addresses
abbrev pub source_list : List Area → AreaList
source_list areas = map (λ area. (area.name, area.sources)) areas

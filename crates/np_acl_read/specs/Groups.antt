-- Which list is applied at an interface.
use Rattle.std.specs.Prelude.{ℕ, List, []}
use Rattle.std.specs.Str.{bytes_eq}
use Rattle.indexmap.specs.IndexMap.{insert_entry as put}
use Rattle.np_acl.specs.declared.kinds.Way.{Way}
use Rattle.np_acl.specs.declared.kinds.Way.TheVariants.{Inward, Outward}
use Rattle.np_acl_read.specs.Applied.{Applied}

-- no list is applied
abbrev pub no_groups : Applied
no_groups = record { inward = []; outward = [] }

-- the lists that are applied in this way, by the names of the interfaces
abbrev pub applied : Applied → Way → List (List ℕ × List ℕ)
applied groups Inward = groups.inward
applied groups Outward = groups.outward

-- a list is applied at an interface in this way, in the place of one that is applied there
abbrev pub with_group : Applied → Way → List ℕ → List ℕ → Applied
with_group groups Inward interface list = record groups { inward = put bytes_eq groups.inward interface list }
with_group groups Outward interface list = record groups { outward = put bytes_eq groups.outward interface list }

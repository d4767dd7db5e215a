use Rattle.std.proofs.Common.{sym}
use Rattle.std.specs.Str.{bytes_eq}
use Rattle.np_pred.proofs.AreaLaws.{are_prefixes-named}
use Rattle.np_pred.proofs.area_names.Areas.sources.Goals as goal

pub returns-in-Some-clause-prefixes : goal.returns-in-Some-clause-prefixes
returns-in-Some-clause-prefixes c =
    rw c.in_ok-share-in-Some.ensures
    (are_prefixes-named (bytes_eq c.in_ok-name.name) c.self.inside.sources.entries c.in-Some.sources.now c.self.invariant (sym c.in-Some.ensures.value))

use Rattle.std.proofs.Common.{rules, ◌∙◌, List, ℕ, Option, Some, set, ap}
use Rattle.np_flow.specs.Postures.{lets_atom}
use Rattle.np_flow.proofs.DistanceLaws.{known_first}
use Rattle.np_flow.proofs.distances.distances_to.Goals as goal

pub go_back-requires-clause-known : goal.go_back-requires-clause-known
go_back-requires-clause-known c =
    known_first c.args.interfaces.now (lets_atom c.args.slots.now c.args.atom) c.args.to c.args.areas c.as_mut_slice.result.now c.requires.to
    (c.as_mut_slice.ensures.value ∙ ap (λ (xs : List (Option ℕ)). set xs c.args.to (Some 0)) (c.in_ok-distances.ensures.items_if_clones_equal (search rules)))

use Rattle.std.proofs.Common.{◌≡◌, List, [], ◌∷◌, subst}
use Rattle.std.specs.Prelude.{Bool}
use Rattle.np_space.specs.Header.{is_valid_header}
use Rattle.np_space.specs.declared.headers.Header.{Header}
use Rattle.np_region.specs.Keeping.{tests_of}
use Rattle.np_bdd.specs.Diagram.{IsRegion}
use Rattle.np_bdd.specs.Views.{node_has}
use Rattle.np_partition.specs.Partition.{IsPartition}
use Rattle.np_region.proofs.KeepingLemmas.{tests_kept}
use Rattle.np_atomizer.proofs.diagrams.partition_of.Goals as goal

pub returns-clause-partition : goal.returns-clause-partition
returns-clause-partition c =
    let old = c.args.store.now in
    let new = c.whole.new.self in
    let cuts = c.args.cuts.now in
    let same : node_has new c.in_ok-whole.whole ∷ tests_of node_has new cuts ≡ is_valid_header ∷ tests_of node_has old cuts =
    λ i. (λ h. c.in_ok-whole.ensures.exact h i) ∷ tests_kept IsRegion node_has old new cuts c.whole.ensures.kept c.requires i in
    subst (λ (tests : List (Header → Bool)). IsPartition tests c.in_ok-both.both) same
    (c.in_ok-both.ensures (node_has new c.in_ok-whole.whole ∷ []) (tests_of node_has new cuts) c.in_ok-valid.ensures c.in_ok-cuts.ensures)

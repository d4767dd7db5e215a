use Rattle.np_partition.proofs.ListedLaws.{partition_again, places_within}
use Rattle.np_partition.proofs.partition.Partition.of_regions.Goals as goal

pub with_sets_at-requires : goal.with_sets_at-requires
with_sets_at-requires c = rw c.as_slice-2.ensures.value (places_within c.args.store.now c.args.xs.now c.in_ok-listed.listed.nodes.items c.in_ok-listed.listed.places.items c.in_ok-all.all c.in_ok-listed.ensures (rw c.as_slice.ensures.value at c.in_ok-all.ensures))

pub returns : goal.returns
returns c = rw (c.in_ok-with_sets_at.ensures, c.as_slice-2.ensures.value) (partition_again c.args.store.now c.args.xs.now c.in_ok-listed.listed.nodes.items c.in_ok-listed.listed.places.items c.in_ok-all.all c.in_ok-listed.ensures (rw c.as_slice.ensures.value at c.in_ok-all.ensures))

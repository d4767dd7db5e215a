use Rattle.std.proofs.Common.{◌∙◌, ◌++◌, ap, slice_get, List}
use Rattle.np_partition.specs.Diagram.{class_at}
use Rattle.np_partition.specs.declared.shows.Show.{Show}
use Rattle.np_partition.specs.Product.{sets_at, firsts, seconds}
use Rattle.np_partition.proofs.ProductLaws.{pairs_unique}
use Rattle.np_partition.proofs.product.paired.Goals as goal

pub returns : goal.returns
returns c = record {
  diagram = c.finish.ensures.diagram;
  there = rw (c.finish.ensures.same) c.requires.paired.there;
  exact = λ bits. ap (λ (shows : List Show). slice_get c.args.pairing.pairs.keys (class_at bits shows c.args.root)) c.finish.ensures.same ∙ c.requires.paired.exact bits;
  reached = c.requires.reached.each;
  unique = pairs_unique c.args.pairing.pairs.keys c.len.ensures.unique;
  classes = c.len.ensures.len;
  sets = c.in_ok-sets.ensures ∙ (λ i. sets_at (c.as_slice-2.ensures i) (firsts (c.as_slice.ensures.keys i)) ++ sets_at (c.as_slice-3.ensures i) (seconds (c.as_slice.ensures.keys i)));
}

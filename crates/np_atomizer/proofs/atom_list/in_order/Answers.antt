use Rattle.std.proofs.Common.{◌≡◌, ap, rules}
use Rattle.std.specs.Ordering.{is_lt}
use Rattle.std.proofs.lemmas.List.Sorted.{answers_always, ranks_by}
use Rattle.np_space.specs.Header.{header_order}
use Rattle.np_space.proofs.HeaderLemmas.{order_total}
use Rattle.np_atomizer.specs.AtomList.{is_before}
use Rattle.np_atomizer.specs.declared.atom_list.Atom.{Atom}
use Rattle.np_atomizer.proofs.atom_list.in_order.Goals as goal

pub returns-clause-sorted : goal.returns-clause-sorted
returns-clause-sorted g c =
    c.sort_unstable_by.ensures.sorted is_before (ranks_by order_total (λ (x : Atom g.row.R.Denot). x.least)) (answers_always _ _ _ (λ f a r f' k. let e : r ≡ header_order a.0.now.least a.1.0.now.least = search rules in ap is_lt e))

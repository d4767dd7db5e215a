use Rattle.std.proofs.Common.{◌∙◌}
use Rattle.std.proofs.lemmas.Slice.Eq.{slice_eq-Decides}
use Rattle.std.specs.Cmp.Lexicographic.{pointwise}
use Rattle.np_acl.specs.Same.{equal_entries}
use Rattle.np_acl.proofs.SameLaws.{entries_decide}
use Rattle.np_acl.proofs.lists.List.same_as.Goals as goal

pub returns : goal.returns
returns c =
    let is = c.eq.ensures ∙ (λ i. pointwise equal_entries (c.as_slice.ensures i) (c.as_slice-2.ensures i)) in
    slice_eq-Decides entries_decide c.args.self.now c.args.other.now c.eq.result is

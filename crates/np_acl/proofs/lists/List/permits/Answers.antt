use Rattle.std.proofs.Common.{◌∙◌, ap}
use Rattle.np_acl.specs.Entries.{list_permits}
use Rattle.np_acl.proofs.ListLaws.{permits_some, permits_none}
use Rattle.np_acl.proofs.lists.List.permits.Goals as goal

pub returns-in-Some : goal.returns-in-Some
returns-in-Some c =
    permits_some c.as_slice-entries.result.now c.args.h.now c.in-Some.entry.now c.in-Some.ensures
    ∙ ap (λ l. list_permits l c.args.h.now) (c.as_slice-entries.ensures.value ∙ c.self.view_is)

pub returns-in-None : goal.returns-in-None
returns-in-None c =
    c.is_empty.ensures
    ∙ permits_none c.as_slice-entries.result.now c.args.h.now c.in-None.ensures
    ∙ ap (λ l. list_permits l c.args.h.now) (c.as_slice-entries.ensures.value ∙ c.self.view_is)

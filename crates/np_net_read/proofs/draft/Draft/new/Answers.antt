use Rattle.std.proofs.Common.{refl, rules}
use Rattle.np_net_read.proofs.DraftLaws.{draft_first}
use Rattle.np_net_read.proofs.draft.Draft.new.Goals as goal

pub returns-clause-draft : goal.returns-clause-draft
returns-clause-draft c = draft_first _ c.nothing_declared.ensures c.new.ensures c.new-2.ensures c.new-3.ensures c.new-4.ensures (search rules) c.new-6.ensures refl

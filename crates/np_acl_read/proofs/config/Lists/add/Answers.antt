use Rattle.std.specs.Str.{bytes_eq}
use Rattle.std.proofs.Common.{◌∙◌, rules}
use Rattle.indexmap.proofs.CallerLemmas.{insert_entry-new}
use Rattle.np_acl_read.proofs.config.Lists.add.Goals as goal

pub returns-clause-ok : goal.returns-clause-ok
returns-clause-ok c =
    c.in_ok-insert.ensures.entries ∙ insert_entry-new bytes_eq c.self.inside.lists c.args.name _ (rw c.self.view_is c.requires) ∙ rw c.self.view_is (search rules)

use Rattle.std.specs.Str.{bytes_eq}
use Rattle.std.proofs.Common.{◌∙◌, rules}
use Rattle.indexmap.proofs.CallerLemmas.{insert_entry-new}
use Rattle.np_pred.proofs.AreaLaws.{AreSourcesPrefixes-more}
use Rattle.np_pred.proofs.area_names.Areas.add.Goals as goal

pub invariant_of-self-2 : goal.invariant_of-self-2
invariant_of-self-2 c =
    rw (c.in_ok-insert.ensures.entries, insert_entry-new bytes_eq c.self.inside.sources c.args.name _ (rw c.self.view_is c.requires.new), c.in_ok-sources.ensures)
    (AreSourcesPrefixes-more c.self.inside.sources.entries c.args.name c.args.sources c.self.invariant c.requires.prefixes)

pub returns-clause-ok : goal.returns-clause-ok
returns-clause-ok c =
    c.in_ok-insert.ensures.entries ∙ insert_entry-new bytes_eq c.self.inside.sources c.args.name _ (rw c.self.view_is c.requires.new)
    ∙ rw (c.in_ok-sources.ensures, c.self.view_is) (search rules)

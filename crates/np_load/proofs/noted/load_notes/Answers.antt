use Rattle.std.proofs.Common.{◌∙◌}
use Rattle.np_outside.proofs.Counting.{Rose_earlier}
use Rattle.np_load.proofs.NotedLaws.{noted_in_net, some_in_net}
use Rattle.np_load.proofs.noted.load_notes.Goals as goal

pub returns-clause-says : goal.returns-clause-says
returns-clause-says g c = λ files told.
    noted_in_net files c.args.file.now _ _ (c.in_ok-net.ensures.says files told) (c.load_all_notes.ensures.says files (c.load_net.ensures.kept.files ∙ told))

pub returns-clause-broken : goal.returns-clause-broken
returns-clause-broken g c = λ failed files told some.
    Rose_earlier _ _ _ c.load_net.ensures.kept.breaks_grow
    (c.load_all_notes.ensures.broken failed files (c.load_net.ensures.kept.files ∙ told) (some_in_net files c.args.file.now _ (c.in_ok-net.ensures.says files told) some))

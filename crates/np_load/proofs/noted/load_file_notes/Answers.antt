use Rattle.np_load.specs.Loading.{noted_in}
use Rattle.np_load.proofs.NotedLaws.{noted_says}
use Rattle.np_load.proofs.noted.load_file_notes.Goals as goal

pub returns-in_ok-notes_on-in-Some-clause-says : goal.returns-in_ok-notes_on-in-Some-clause-says
returns-in_ok-notes_on-in-Some-clause-says g c = λ files told had.
    noted_says files c.args.net.now c.args.device c.args.file.now c.in-Some.one.now (noted_in c.in_ok-notes_on-in-Some.field-0) (c.in-Some.ensures.read files (rw c.as_slice.ensures.value had.each)) c.in-Some.ensures.file c.in_ok-notes_on-in-Some.ensures

use Rattle.std.proofs.lemmas.Result.{err_from_is_err_and}
use Rattle.np_load.specs.Loading.{noted_in}
use Rattle.np_load.proofs.NotedLaws.{noted_says, read_more}
use Rattle.np_load.proofs.noted.load_new_notes.Goals as goal

pub returns-in_err-noted-clause-says : goal.returns-in_err-noted-clause-says
returns-in_err-noted-clause-says g c = λ files told.
    let p = err_from_is_err_and c.from_residual-in_err-noted.result c.from_residual-in_err-noted.ensures.1 in rw (p.1, p.2) tt

pub returns-clause-says : goal.returns-clause-says
returns-clause-says g c = λ files told.
    let one = c.in_ok-one.ensures.read in
    noted_says files c.args.net.now c.args.device c.args.file.now c.in_ok-one.one (noted_in c.in_ok-noted.noted) (one.1 files told) one.0 c.in_ok-noted.ensures

pub returns-clause-read : goal.returns-clause-read
returns-clause-read g c = λ files told had.
    rw c.in_ok-push.ensures.items (read_more files c.args.read.now.items c.in_ok-one.one had (c.in_ok-one.ensures.read.1 files told))

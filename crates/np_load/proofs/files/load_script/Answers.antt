use Rattle.std.proofs.lemmas.Result.{err_from_is_err_and}
use Rattle.np_script.specs.Reading.{script_of}
use Rattle.np_report.specs.declared.refusals.Refusal.TheVariants.{Script}
use Rattle.np_load.proofs.Loads.{bytes_halt}
use Rattle.np_load.proofs.files.load_script.Goals as goal

pub returns-in_err-bytes-clause-says : goal.returns-in_err-bytes-clause-says
returns-in_err-bytes-clause-says g c = λ files told.
    let p = err_from_is_err_and c.from_residual.result c.from_residual.ensures.1 in
    rw (p.1, p.2) (bytes_halt Script (script_of c.args.net.now) files c.args.file.now _ (λ text is. c.in_err-bytes.ensures.refused text is files told))

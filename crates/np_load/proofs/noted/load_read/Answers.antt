use Rattle.std.proofs.Common.{arith, length}
use Rattle.std.specs.Prelude.{◌≤◌}
use Rattle.std.proofs.lemmas.Result.{err_from_is_err_and}
use Rattle.np_acl_read.specs.Reading.{config_of}
use Rattle.np_report.specs.declared.refusals.Refusal.TheVariants.{Config}
use Rattle.np_load.specs.Limits.{file_limit}
use Rattle.np_load.proofs.Loads.{bytes_halt}
use Rattle.np_load.proofs.NotedLaws.{read_says}
use Rattle.np_load.proofs.noted.load_read.Goals as goal

pub returns-in_err-bytes-clause-halts : goal.returns-in_err-bytes-clause-halts
returns-in_err-bytes-clause-halts g c =
    let p = err_from_is_err_and c.from_residual.result c.from_residual.ensures.1 in
    rw (p.1, p.2) (λ files told. bytes_halt Config config_of files c.args.file.now _ (λ text is. c.in_err-bytes.ensures.refused text is files told))

pub returns-in-Ok-clause-read : goal.returns-in-Ok-clause-read
returns-in-Ok-clause-read g c =
    let short : length c.in_ok-bytes.bytes.items ≤ file_limit = omega (arith, c.in_ok-bytes.ensures.within, c.in_ok-bytes.bytes.ok) in (
      c.in_ok-of-in-Ok.ensures,
      λ files told.
          read_says files c.args.file.now c.in_ok-bytes.bytes.items (record { file = c.in_ok-of-in-Ok.field-0; passed = c.in-Ok.passed }) (c.in_ok-bytes.ensures.ok files told) short
          (rw c.as_slice.ensures.value at c.in-Ok.ensures.accepted) c.in_ok-of-in-Ok.ensures (rw c.as_slice.ensures.value at c.in-Ok.ensures.passed),
    )

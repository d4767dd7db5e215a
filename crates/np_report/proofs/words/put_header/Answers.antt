use Rattle.std.proofs.Common.{[], ◌∷◌, ◌++◌}
use Rattle.std.specs.Fmt.{decimal}
use Rattle.std.proofs.lemmas.Result.{on_err_weaker}
use Rattle.np_space.specs.Flag.{flag_number}
use Rattle.np_text.specs.Addresses.{dotted}
use Rattle.np_text.specs.Appending.{AppendsFront}
use Rattle.np_text.proofs.AppendLaws.{OnErr-from}
use Rattle.np_net_text.specs.CanonicalText.{spaced}
use Rattle.np_script.specs.Written.{header_words}
use Rattle.np_report.proofs.HeaderLaws.{ends_front, numbers_front, dscp_front}
use Rattle.np_report.proofs.words.put_header.Goals as goal

pub returns-in_err-put_ends-clause-err : goal.returns-in_err-put_ends-clause-err
returns-in_err-put_ends-clause-err c =
    let front : AppendsFront c.args.text.now.items c.put_ends.new.text.items (spaced (header_words c.args.h.now)) = ends_front c.args.h.now _ _ c.in_err-put_ends.ensures.err in
    OnErr-from _ front

pub returns-in_err-put_numbers-clause-err : goal.returns-in_err-put_numbers-clause-err
returns-in_err-put_numbers-clause-err c =
    let front : AppendsFront c.args.text.now.items c.put_numbers.new.text.items (spaced (header_words c.args.h.now)) =
    numbers_front c.args.h.now _ _ _ c.in_ok-put_ends.ensures.ok c.in_err-put_numbers.ensures.err in
    OnErr-from _ front

pub returns-clause-err : goal.returns-clause-err
returns-clause-err c =
    on_err_weaker c.put_dscp.result (dscp_front c.args.h.now _ _ _ _ c.in_ok-put_ends.ensures.ok c.in_ok-put_numbers.ensures.ok) c.put_dscp.ensures.err

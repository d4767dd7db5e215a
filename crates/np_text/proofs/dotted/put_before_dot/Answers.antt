use Rattle.std.proofs.Common.{◌++◌, ◌∷◌, []}
use Rattle.std.specs.Fmt.{decimal}
use Rattle.np_text.specs.Appending.{AppendsFront}
use Rattle.np_text.proofs.AppendLaws.{AppendsFront-more, OnErr-from}
use Rattle.np_text.proofs.dotted.put_before_dot.Goals as goal

pub returns-in_err-put_number-clause-err : goal.returns-in_err-put_number-clause-err
returns-in_err-put_number-clause-err c =
    let front : AppendsFront c.args.out.now.items c.put_number.new.out.items (decimal c.args.octet ++ 46 ∷ []) =
    rw (← c.from.ensures) (AppendsFront-more (46 ∷ []) c.in_err-put_number.ensures.err) in
    OnErr-from _ front

use Rattle.std.proofs.Common.{Some, ap, ◌∙◌, arith, length-take, length-drop}
use Rattle.np_outside.proofs.Pieces.{written_further}
use Rattle.np_outside.proofs.sink.write_all.Goals as goal

pub loop-done-preserved : goal.loop-done-preserved
loop-done-preserved g c =
    let before = c.loop-done.invariant in
    let call = c.in_ok-done.ensures in
    let bytes = c.args.bytes.now in
    let done = c.loop-done.done in
    record {
      within = omega (arith, simp (length-take, length-drop) at call.count.0);
      taken = λ b told. call.taken _ (before.taken b told) ∙ ap Some (written_further b bytes done c.in_ok-done.field-0);
      grown = omega arith;
      cap = cc;
      room = cc;
    }

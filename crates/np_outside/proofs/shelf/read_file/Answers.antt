use Rattle.std.proofs.Common.{arith, ℕ, length-take, ◌∙◌}
use Rattle.std.proofs.lemmas.List.{take-append-le}
use Rattle.np_outside.proofs.Reading.{behind_nothing, behind_piece, left_behind, left_further}
use Rattle.np_outside.proofs.shelf.read_file.Goals as goal

pub loop-piece-init : goal.loop-piece-init
loop-piece-init g c =
    let call = c.in_ok-begin.ensures in
    record {
      within = omega arith;
      told = λ m told. behind_nothing _ _ _ c.new-bytes.ensures.items (call.ok m told).0 (call.ok m told).1;
      files = cc;
      cap = cc;
      grown = omega arith;
      breaks_grown = omega arith;
    }

pub returns-in_err-count-clause-left : goal.returns-in_err-count-clause-left
returns-in_err-count-clause-left g c = λ m told.
    let before = c.loop-piece.invariant.told m told in
    left_behind _ _ _ before.0 _ before.2 (c.in_err-count.ensures.err ∙ before.1) (omega (arith, c.loop-piece.bytes.ok.0))

pub returns-then-count-eq0-clause-left : goal.returns-then-count-eq0-clause-left
returns-then-count-eq0-clause-left g c = λ m told.
    let before = c.loop-piece.invariant.told m told in
    left_further _ _ _ before.0 _ _ before.2 (c.in_ok-count.ensures.given before.0 before.1).2
    (omega (arith, c.loop-piece.bytes.ok.0, length-take {A = ℕ}, c.in_ok-count.ensures.count))

pub loop-piece-preserved : goal.loop-piece-preserved
loop-piece-preserved g c =
    let call = c.in_ok-count.ensures in
    record {
      within = omega (arith, c.loop-piece.bytes.ok.0, length-take {A = ℕ}, call.count, c.in_ok-extend_from_slice.ensures.len);
      told = λ m told.
          let before = c.loop-piece.invariant.told m told in
          let given = call.given before.0 before.1 in
          rw c.in_ok-extend_from_slice.ensures.items (behind_piece _ _ before.0 _ _ before.2 (take-append-le _ _ _ (omega (arith, call.count, c.read.auto.buf)) ∙ given.1) _ given.2);
      files = cc;
      cap = cc;
      grown = omega arith;
      breaks_grown = omega arith;
    }

pub returns-in_err-extend_from_slice-clause-left :
    goal.returns-in_err-extend_from_slice-clause-left
returns-in_err-extend_from_slice-clause-left g c = λ m told.
    let before = c.loop-piece.invariant.told m told in
    left_further _ _ _ before.0 _ _ before.2 (c.in_ok-count.ensures.given before.0 before.1).2
    (omega (arith, c.loop-piece.bytes.ok.0, length-take {A = ℕ}, c.in_ok-count.ensures.count))

use Rattle.std.proofs.Common.{arith, refl}
use Rattle.np_outside.proofs.Kept.{bytes_at-maybe, pushed}
use Rattle.np_outside.proofs.mem_shelf.MemShelf.put.Goals as goal

pub invariant_of-self-clause-begun_within : goal.invariant_of-self-clause-begun_within
invariant_of-self-clause-begun_within c = λ p is.
    let shelf = c.args.self.now in
    rw (c.push.ensures.items, bytes_at-maybe _ shelf.files.items _ p.file (omega (arith, shelf.files.ok.0, shelf.begun_there p is))) (shelf.begun_within p is)

pub returns-clause-ok : goal.returns-clause-ok
returns-clause-ok c =
    let shelf = c.args.self.now in
    let kept = pushed shelf.files.items _ _ shelf.begun _ _ c.in_ok-push.ensures.items c.in_ok-from_slice.ensures.items c.in_ok-from_slice-2.ensures.items
    (λ p is. omega (arith, shelf.files.ok.0, shelf.begun_there p is)) in
    rw (kept.0, kept.1) refl

use Rattle.std.proofs.Common.{◌∙◌, ap, arith, true, false}
use Rattle.std.specs.FinMap.{get, get-empty}
use Rattle.np_outside.specs.Files.{Files}
use Rattle.np_outside.proofs.Kept.{files_of-nil, found_further, below_next}
use Rattle.np_outside.proofs.mem_shelf.newest.Goals as goal
use Rattle.np_outside.proofs.mem_shelf.newest.Goals.{then-eq, else-eq}

pub loop-i-init : goal.loop-i-init
loop-i-init c = record {
  there = tt;
  found = ap (λ (m : Files). get m c.args.name.now) files_of-nil ∙ get-empty _ c.args.name.now;
}

pub loop-i-preserved : goal.loop-i-preserved
loop-i-preserved c =
    let before = c.loop-i.invariant in
    elim c.if-eq.branch [
      | then-eq w ↦ rw w.found-is (record {
        there = omega arith;
        found = found_further _ _ _ _ c.loop-i.found true _ (omega arith) c.index-files-i.is w.if-eq.ensures c.as_slice.ensures.value before.found;
      })
      | else-eq w ↦ rw w.found-is (record {
        there = below_next _ _ before.there;
        found = found_further _ _ _ _ c.loop-i.found false _ (omega arith) c.index-files-i.is w.if-eq.ensures c.as_slice.ensures.value before.found;
      })
    ]

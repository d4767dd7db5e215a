use Rattle.std.proofs.Common.{◌≡◌, ℕ, ◌+◌, ◌-◌, ◌≤◌, List, ◌++◌, Some, vec_len}
use Rattle.std.specs.FinMap.{get}
use Rattle.np_outside.specs.Files.{Files}
use Rattle.np_outside.proofs.shelf.read_file.Given as goal

abbrev pub invariant-loop-piece : goal.invariant-loop-piece
invariant-loop-piece g l =
    let shelf = g.S.Shelf in
    record {
      within : vec_len l.bytes ≤ l.limit + 1;
      told : (m : Files) → shelf.files l.fn.shelf ≡ Some m →
          (r : List ℕ) × (shelf.rest l.shelf ≡ Some r) × (get m l.name ≡ Some (l.bytes.items ++ r));
      files : shelf.files l.shelf ≡ shelf.files l.fn.shelf;
      cap : shelf.cap l.shelf ≡ shelf.cap l.fn.shelf;
      grown : shelf.faults l.fn.shelf ≤ shelf.faults l.shelf;
      breaks_grown : shelf.breaks l.fn.shelf ≤ shelf.breaks l.shelf;
    }

abbrev pub decreases-loop-piece : goal.decreases-loop-piece
decreases-loop-piece g l = l.limit + 1 - vec_len l.bytes

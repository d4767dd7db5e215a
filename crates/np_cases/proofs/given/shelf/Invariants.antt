use Rattle.std.proofs.Common.{◌≡◌, drop}
use Rattle.std.specs.FinMap.{empty}
use Rattle.np_outside.specs.MemShelf.{state}
use Rattle.np_cases.specs.Given.{fresh_with, with_files}
use Rattle.np_cases.proofs.given.shelf.Given as goal

abbrev pub invariant-loop-name : goal.invariant-loop-name
invariant-loop-name l = record {
  fresh : state l.shelf ≡ fresh_with (state l.shelf).files;
  files : with_files (state l.shelf).files (drop l.name-index l.files) ≡ with_files empty l.files;
}

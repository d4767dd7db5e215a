use Rattle.std.proofs.Common.{◌≡◌, Some, drop}
use Rattle.np_outside.specs.Files.{Files}
use Rattle.np_load.specs.Keeping.{KeepsShelf}
use Rattle.np_load.specs.Loading.{AreReadOf, noted_in, notes_say}
use Rattle.np_load.proofs.NotedLaws.{behind_noted}
use Rattle.np_load.proofs.noted.load_each_notes.Given as goal

-- the notes so far, with those on the devices that are left, are those on all
abbrev pub invariant-loop-n : goal.invariant-loop-n
invariant-loop-n g l = record {
  says : (files : Files) → g.S.Shelf.files l.fn.shelf ≡ Some files → AreReadOf files l.fn.read.items → behind_noted (noted_in l.noted) (notes_say files l.net l.n (drop l.n l.devices)) ≡ notes_say files l.net 0 l.devices;
  read : (files : Files) → g.S.Shelf.files l.fn.shelf ≡ Some files → AreReadOf files l.fn.read.items → AreReadOf files l.read.items;
  kept : KeepsShelf g.S.Shelf.files g.S.Shelf.cap g.S.Shelf.faults g.S.Shelf.breaks l.fn.shelf l.shelf;
}

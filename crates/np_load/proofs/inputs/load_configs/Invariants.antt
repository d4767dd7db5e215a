use Rattle.std.proofs.Common.{◌≡◌, Some, drop, take, vec_len}
use Rattle.np_outside.specs.Files.{Files}
use Rattle.np_load.specs.Keeping.{KeepsShelf}
use Rattle.np_load.specs.Inputs.{configs_say}
use Rattle.np_load.specs.Loaded.{AreLoaded}
use Rattle.np_load.proofs.Loads.{behind}
use Rattle.np_load.proofs.inputs.load_configs.Given as goal

abbrev pub invariant-loop-device : goal.invariant-loop-device
invariant-loop-device g l = record {
  as_many : vec_len l.configs ≡ l.device-index;
  loaded : (files : Files) → g.S.Shelf.files l.fn.shelf ≡ Some files → AreLoaded files (take l.device-index l.devices) l.configs.items;
  says : (files : Files) → g.S.Shelf.files l.fn.shelf ≡ Some files → behind l.configs.items (configs_say files (drop l.device-index l.devices)) ≡ configs_say files l.devices;
  kept : KeepsShelf g.S.Shelf.files g.S.Shelf.cap g.S.Shelf.faults g.S.Shelf.breaks l.fn.shelf l.shelf;
}

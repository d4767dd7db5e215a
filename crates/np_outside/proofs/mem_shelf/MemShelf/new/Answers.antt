use Rattle.std.proofs.Common.{refl}
use Rattle.np_outside.proofs.Kept.{files_of-nil}
use Rattle.np_outside.proofs.mem_shelf.MemShelf.new.Goals as goal

pub returns : goal.returns
returns c = rw (c.new.ensures.items, files_of-nil, c.new-2.ensures.made, c.new-2.ensures.named) refl

use Rattle.std.proofs.Common.{◌∙◌, sym}
use Rattle.np_outside.proofs.Kept.{bytes_at-get_or}
use Rattle.np_outside.proofs.mem_shelf.bytes_of.Goals as goal

pub returns : goal.returns
returns c = c.as_slice.ensures.value ∙ sym (bytes_at-get_or c.args.files.now c.args.index c.index-files-index.result c.requires)

use Rattle.std.proofs.Common.{sym}
use Rattle.np_pred.proofs.PatternLaws.{prefix_of-length}
use Rattle.np_pred.proofs.address_lists.pattern.Goals as goal

pub prefix-requires-2 : goal.prefix-requires-2
prefix-requires-2 c = prefix_of-length c.args.word.now (c.in_ok-address.address, c.in_ok-address.length) (sym c.in_ok-address.ensures)

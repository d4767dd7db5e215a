use Rattle.std.proofs.Common.{arith}
use Rattle.np_bdd.proofs.SetBits.{est_set}
use Rattle.np_bdd.proofs.header_bits.with_bit_set.Goals as goal

pub returns-in-104 : goal.returns-in-104
returns-in-104 c = est_set c.args.h c.args.bit (omega arith) c.requires.widths

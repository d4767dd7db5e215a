use Rattle.np_bdd.proofs.FieldLemmas.{src_bits, dst_bits}
use Rattle.np_bdd.proofs.valid.first_bit.Goals as goal

pub returns-in-Src-clause-bits : goal.returns-in-Src-clause-bits
returns-in-Src-clause-bits c = rw c.in-Src.is src_bits

pub returns-in-Dst-clause-bits : goal.returns-in-Dst-clause-bits
returns-in-Dst-clause-bits c = rw c.in-Dst.is dst_bits

use Rattle.std.proofs.Common.{◌≡◌, ◌∙◌, ap, arith}
use Rattle.np_space.proofs.MadeLemmas.{high-span_from}
use Rattle.np_cut.proofs.field_blocks.protocol.Goals as goal

pub returns-clause-high : goal.returns-clause-high
returns-clause-high c =
    let high = ap (λ s. s.high) c.only.ensures.is ∙ high-span_from c.from.result c.from.result (omega (arith, c.from.ensures)) in
    omega (arith, c.from.ensures)

use Rattle.std.proofs.Common.{sym, subst, arith}
use Rattle.np_space.specs.Header.{HasWidths}
use Rattle.np_space.specs.declared.headers.Header.{Header}
use Rattle.np_bdd.specs.Views.{bits_of_header}
use Rattle.np_bdd.specs.Walking.{IsWay}
use Rattle.np_bdd.proofs.LeastLaws.{zeros_start, least_at_end}
use Rattle.np_bdd.proofs.SetBits.{zeros_widths}
use Rattle.np_bdd.proofs.nodes.Nodes.least_from.Goals as goal

pub loop-at-init : goal.loop-at-init
loop-at-init c =
    let P : Header → Type 0 = λ h. HasWidths h × IsWay c.args.self.now c.args.x.at c.args.x.at (bits_of_header h) in
    subst P (sym c.zeros-h.ensures) (zeros_widths, zeros_start c.args.self.now c.is_diagram.ensures c.args.x.at c.requires.there c.requires.some)

pub loop-at-preserved : goal.loop-at-preserved
loop-at-preserved c = (c.least_branch-at.ensures.widths, c.least_branch-at.ensures.way c.args.x.at c.loop-at.invariant.1)

pub returns : goal.returns
returns c = least_at_end c.args.self.now c.is_diagram.ensures c.args.x c.loop-at.at.at c.loop-at.h c.loop-at.invariant.0 c.loop-at.invariant.1 (omega (arith, c.bit.ensures.bit, c.loop-at-test.false))

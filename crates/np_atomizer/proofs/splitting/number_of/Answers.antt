use Rattle.std.proofs.Common.{sym, ◌∙◌, arith}
use Rattle.np_atomizer.proofs.AtomLaws.{first_is, first_is_none}
use Rattle.np_atomizer.proofs.splitting.number_of.Goals as goal

pub returns-then-has : goal.returns-then-has
returns-then-has g c =
    first_is g.S.Regions.fits g.S.Regions.has_header c.args.store.now c.args.regions.now c.loop-n.n c.index-regions-n.result c.args.h.now (omega arith) c.loop-n.invariant c.index-regions-n.is (sym c.has.ensures ∙ c.if-has.true)

pub returns : goal.returns
returns g c =
    first_is_none g.S.Regions.fits g.S.Regions.has_header c.args.store.now c.args.regions.now c.loop-n.n c.args.h.now (omega arith) c.loop-n.invariant

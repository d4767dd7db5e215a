use Rattle.std.proofs.Common.{subst}
use Rattle.np_conf.specs.Sets.{FindsOutlet}
use Rattle.np_conf.proofs.OutletLaws.{outlet_first, outlet_least, outlet_none}
use Rattle.np_conf.proofs.checking.bare.Goals as goal

pub returns-clause-none : goal.returns-clause-none
returns-clause-none c =
    outlet_none c.args.net.now c.args.from c.args.pred.now c.requires.from c.requires.goal c.args.leasts.now c.requires.leasts c.args.outlets.now.ways c.requires.outlets.ways c.first_outlet.result
    (subst (λ list. FindsOutlet list c.args.net.now c.args.from c.args.pred.now c.args.leasts.now c.first_outlet.result) c.as_slice.ensures c.first_outlet.ensures)

pub returns-clause-first : goal.returns-clause-first
returns-clause-first c =
    outlet_first c.args.net.now c.args.from c.args.pred.now c.requires.from c.requires.goal c.args.leasts.now c.requires.leasts c.args.outlets.now.ways c.requires.outlets.ways c.first_outlet.result
    (subst (λ list. FindsOutlet list c.args.net.now c.args.from c.args.pred.now c.args.leasts.now c.first_outlet.result) c.as_slice.ensures c.first_outlet.ensures)

pub returns-clause-least : goal.returns-clause-least
returns-clause-least c =
    outlet_least c.args.net.now c.args.from c.args.pred.now c.requires.from c.requires.goal c.args.leasts.now c.requires.leasts c.args.outlets.now.ways c.requires.outlets.ways c.first_outlet.result
    (subst (λ list. FindsOutlet list c.args.net.now c.args.from c.args.pred.now c.args.leasts.now c.first_outlet.result) c.as_slice.ensures c.first_outlet.ensures)

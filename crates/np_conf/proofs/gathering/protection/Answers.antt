use Rattle.std.proofs.Common.{◌∙◌, subst, sym}
use Rattle.np_net.specs.Network.{IsNetwork}
use Rattle.np_conf.proofs.RangeLaws.{protection_in_range}
use Rattle.np_conf.proofs.gathering.protection.Goals as goal

pub returns-in-Protect-clause-within : goal.returns-in-Protect-clause-within
returns-in-Protect-clause-within c =
    let is : IsNetwork c.args.net.now = subst IsNetwork c.net.view_is c.net.invariant in
    protection_in_range c.args.net.now is c.args.i c.args.top.now c.in-Protect.k c.requires.interface (sym c.in-Protect.is ∙ c.requires.action)

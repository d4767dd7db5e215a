use Rattle.np_atomizer.proofs.AtomLaws.{atoms_sorted}
use Rattle.np_atomizer.proofs.splitting.atoms_of.Goals as goal

pub returns : goal.returns
returns g c =
    atoms_sorted g.S.Regions.fits g.S.Regions.has_header g.met.S.Regions.only_valid c.args.store.now c.args.classes.items c.in_ok-atoms.atoms.items c.in_order.result.items c.in_ok-atoms.ensures.regions c.in_ok-atoms.ensures.read c.in_order.ensures.same c.in_order.ensures.sorted

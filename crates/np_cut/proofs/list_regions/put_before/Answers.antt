use Rattle.np_cut.proofs.CuttingLaws.{parts_together}
use Rattle.np_cut.proofs.list_regions.put_before.Goals as goal

pub returns-clause-part : goal.returns-clause-part
returns-clause-part g c =
    λ xs ys first second. parts_together g.S.Regions.fits g.S.Regions.has_header xs ys c.args.store.now c.permitted_before.new.store c.join.new.self c.args.first.now.matched c.args.first.now.permitted c.args.second.now.matched c.args.second.now.permitted c.in_ok-matched.matched c.in_ok-permitted.permitted c.permitted_before.ensures.kept c.join.ensures.kept first second c.in_ok-matched.ensures.fits c.in_ok-permitted.ensures.fits c.in_ok-matched.ensures.exact c.in_ok-permitted.ensures.exact

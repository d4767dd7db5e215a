use Rattle.np_atomizer.proofs.SplitLaws.{whole_class}
use Rattle.np_atomizer.proofs.splitting.one_class.Goals as goal

pub returns-clause-classes : goal.returns-clause-classes
returns-clause-classes g c =
    rw (c.in_ok-push.ensures.items, c.new-classes.ensures.items) (whole_class g.S.Regions.fits g.S.Regions.has_header c.whole.new.self c.in_ok-whole.whole c.in_ok-whole.ensures.fits c.in_ok-whole.ensures.exact)

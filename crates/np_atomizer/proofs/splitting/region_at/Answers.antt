use Rattle.std.proofs.Common.{◌∙◌, ap}
use Rattle.np_space.proofs.AlgebraLemmas.{if_ok}
use Rattle.np_atomizer.proofs.AtomLaws.{numbered_region}
use Rattle.np_atomizer.proofs.splitting.region_at.Goals as goal

pub returns-clause-exact : goal.returns-clause-exact
returns-clause-exact g c =
    let s = c.args.store.now in
    let has = g.S.Regions.has_header s in
    let r = c.index-regions-n.result in
    if_ok c.copy.result (λ x exact h. exact h ∙ ap (λ y. has y h) c.index-regions-n.is ∙ numbered_region (g.S.Regions.fits s) has (g.met.S.Regions.only_valid s) c.args.regions.now c.args.n r h c.requires.divide c.requires.within) c.copy.ensures.exact

use Rattle.std.proofs.Common.{◌≡◌, true, false, sym, ◌∙◌, refl, arith}
use Rattle.std.proofs.lemmas.Bool.{OnTrue_from}
use Rattle.np_flow.specs.Postures.{lets_atom}
use Rattle.np_flow.proofs.DistanceLaws.{news_fewer, news_nearer, no_news}
use Rattle.np_flow.proofs.distances.approach.Goals as goal

pub returns-then-news-clause-nearer : goal.returns-then-news-clause-nearer
returns-then-news-clause-nearer c =
    news_nearer c.args.interfaces.now _ c.args.devices.now c.args.far c.args.n c.area_of.result c.args.distances.now c.area_of.ensures
    (omega (arith, (c.requires.within c.args.n c.requires.place).1)) (c.is_news-news.ensures.0 c.if-news.true)

pub returns-then-news-clause-grew : goal.returns-then-news-clause-grew
returns-then-news-clause-grew c =
    OnTrue_from c.is_news-news.result _ (λ t.
    news_fewer c.args.interfaces.now (lets_atom c.args.slots.now c.args.atom) c.args.devices.now c.args.far c.args.n c.area_of.result c.args.distances.now c.area_of.ensures
    (omega (arith, (c.requires.within c.args.n c.requires.place).1)) (c.is_news-news.ensures.0 c.if-news.true))

pub returns-else-news-clause-nearer : goal.returns-else-news-clause-nearer
returns-else-news-clause-nearer c =
    no_news c.args.interfaces.now _ c.args.devices.now c.args.far c.args.n _ c.args.distances.now refl
    (λ both. let no : false ≡ true = sym c.if-news.false ∙ c.is_news-news.ensures.1 both in cc)

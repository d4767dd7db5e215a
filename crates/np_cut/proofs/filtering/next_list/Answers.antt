use Rattle.std.proofs.Common.{◌≡◌, map, sym, ap, ◌∙◌}
use Rattle.std.specs.Borrow.{Bor}
use Rattle.std.specs.Prelude.{List}
use Rattle.std.proofs.lemmas.Result.{IfOk-weaker}
use Rattle.np_acl.specs.declared.entries.Entry.{Entry}
use Rattle.np_cut.specs.FilterCuts.{list_test}
use Rattle.np_cut.proofs.FilterLaws.{cut_at}
use Rattle.np_cut.proofs.filtering.next_list.Goals as goal

pub returns-in-Some-clause-exact : goal.returns-in-Some-clause-exact
returns-in-Some-clause-exact g c =
    let has = g.S.Regions.has_header in
    let there = cut_at g.S.Regions.fits has list_test c.args.store.now (map (λ (l : Bor (List Entry)). l.now) c.args.before.now) c.args.cuts.now c.in-Some.place c.args.list.now c.requires.exact c.in-Some.ensures in
    IfOk-weaker c.copy.result _ _ (λ z exact h. exact h ∙ ap (λ x. has c.args.store.now x h) c.index-cuts-place.is ∙ there.1 c.index-cuts-place.result h) c.copy.ensures.exact

use Rattle.std.proofs.Common.{◌≡◌, ◌+◌, ◌<◌, [], length, map, take, ap, sym, ◌∙◌, arith}
use Rattle.std.specs.Borrow.{Bor}
use Rattle.std.specs.Prelude.{List}
use Rattle.np_acl.specs.declared.entries.Entry.{Entry}
use Rattle.np_net.proofs.ListLaws.{map_next}
use Rattle.np_cut.specs.FilterCuts.{list_test}
use Rattle.np_cut.proofs.FilterLaws.{cuts_more}
use Rattle.np_cut.proofs.filtering.list_cuts.Goals as goal

pub loop-n-preserved : goal.loop-n-preserved
loop-n-preserved g c =
    let xs = c.args.lists.now in
    let n = c.loop-n.n in
    let within : n < length xs = omega arith in
    let more = map_next (λ (l : Bor (List Entry)). l.now) xs n c.index-lists-n.result within c.index-lists-n.is in
    rw c.in_ok-push.ensures.items (cuts_more g.S.Regions.fits g.S.Regions.has_header list_test [] c.args.store.now c.loop-n.store c.next_list.new.store (map (λ (l : Bor (List Entry)). l.now) (take n xs)) (map (λ (l : Bor (List Entry)). l.now) (take (n + 1) xs)) c.index-lists-n.result.now c.loop-n.cuts.items c.in_ok-cut.cut c.loop-n.invariant c.next_list.ensures.kept c.in_ok-cut.ensures.fits c.in_ok-cut.ensures.exact more)

use Rattle.std.proofs.Common.{◌≡◌, ◌+◌, ◌<◌, [], ◌∷◌, ◌++◌, length, get_or, take, ap, sym, ◌∙◌, arith}
use Rattle.std.specs.Prelude.{◌&&◌}
use Rattle.std.proofs.lemmas.List.{take_more}
use Rattle.np_space.specs.Header.{is_valid_header}
use Rattle.np_region.proofs.KeepingLemmas.{keeps_itself}
use Rattle.np_cut.specs.Cutting.{matches_with}
use Rattle.np_cut.proofs.CuttingLaws.{no_ports, ports_step, or_nothing}
use Rattle.np_cut.proofs.list_regions.with_source.Goals as goal

pub loop-b-init : goal.loop-b-init
loop-b-init g c =
    record {
      kept = keeps_itself g.S.Regions.fits g.S.Regions.has_header c.args.store.now;
      fit = c.requires;
      exact = λ h.
          or_nothing (g.S.Regions.has_header c.args.store.now c.args.region h) (is_valid_header h) (matches_with c.args.entry.now (c.args.a ∷ []) [] h)
          (ap (λ t. is_valid_header h && t) (sym (no_ports c.args.entry.now (c.args.a ∷ []) h)));
    }

pub loop-b-preserved : goal.loop-b-preserved
loop-b-preserved g c =
    let bs = c.args.entry.now.b in
    let i = c.loop-b.b-index in
    let same = c.as_slice-b-items.ensures in
    let within : i < length bs = omega (arith, ap length same) in
    let more : take (i + 1) bs ≡ take i bs ++ c.span.result ∷ [] =
    take_more bs i c.b-item.result within
    ∙ ap (λ x. take i bs ++ x ∷ []) (sym (c.b-item.is ∙ ap (λ l. get_or l i c.b-item.result) same) ∙ sym c.span.ensures) in
    ports_step g.S.Regions.fits g.S.Regions.has_header c.args.store.now c.loop-b.store c.with_block.new.store c.args.region c.loop-b.all c.in_ok-all.all c.args.entry.now (c.args.a ∷ []) (take i bs) (take (i + 1) bs) c.span.result c.loop-b.invariant c.with_block.ensures.kept c.in_ok-all.ensures.fits c.in_ok-all.ensures.exact more

use Rattle.std.proofs.Common.{◌≡◌, ◌+◌, ◌<◌, [], ◌∷◌, ◌++◌, length, get_or, take, ap, sym, ◌∙◌, arith}
use Rattle.std.proofs.lemmas.Bool.{and_right}
use Rattle.std.proofs.lemmas.List.{take_more}
use Rattle.np_space.specs.Header.{is_valid_header}
use Rattle.np_cut.specs.Cutting.{matches_with}
use Rattle.np_cut.proofs.CuttingLaws.{no_sources, sources_step}
use Rattle.np_cut.proofs.list_regions.entry_region.Goals as goal

pub loop-a-init : goal.loop-a-init
loop-a-init g c =
    record {
      kept = c.none-all.ensures.kept;
      fit = c.none-all.ensures.fits;
      exact = λ h.
          c.none-all.ensures.exact h
          ∙ sym (and_right (is_valid_header h) (matches_with c.args.entry.now [] c.args.entry.now.b h) (no_sources c.args.entry.now c.args.entry.now.b h));
    }

pub loop-a-preserved : goal.loop-a-preserved
loop-a-preserved g c =
    let spans = c.args.entry.now.a in
    let i = c.loop-a.a-index in
    let same = c.as_slice-a-items.ensures in
    let within : i < length spans = omega (arith, ap length same) in
    let more : take (i + 1) spans ≡ take i spans ++ c.span.result ∷ [] =
    take_more spans i c.a-item.result within
    ∙ ap (λ x. take i spans ++ x ∷ []) (sym (c.a-item.is ∙ ap (λ l. get_or l i c.a-item.result) same) ∙ sym c.span.ensures) in
    sources_step g.S.Regions.fits g.S.Regions.has_header c.args.store.now c.loop-a.store c.with_source.new.store c.loop-a.all c.in_ok-all.all c.args.entry.now (take i spans) (take (i + 1) spans) c.args.entry.now.b c.span.result c.loop-a.invariant c.with_source.ensures.kept c.in_ok-all.ensures.fits c.in_ok-all.ensures.exact more

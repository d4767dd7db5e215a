use Rattle.np_cut.proofs.CuttingLaws.{part_kept}
use Rattle.np_cut.proofs.list_regions.+part_of.Goals as goal

pub returns-clause-part : goal.returns-clause-part
returns-clause-part g n c =
    let fits = g.S.Regions.fits in
    let has = g.S.Regions.has_header in
    rw (c.split_at.ensures.by_index.0) (c.in_ok-put_before.ensures.part c.split_at.result.0.now c.split_at.result.1.now (part_kept fits has c.split_at.result.0.now c.part_of.new.store c.part_of-2.new.store c.in_ok-first.first.matched c.in_ok-first.first.permitted c.part_of-2.ensures.kept c.in_ok-first.ensures.part) c.in_ok-second.ensures.part)

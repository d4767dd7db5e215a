use Rattle.std.proofs.Common.{[], length, ◌∙◌, ap}
use Rattle.std.proofs.lemmas.List.{get_or_default}
use Rattle.np_region.specs.Keeping.{tests_of}
use Rattle.np_atoms.proofs.AtomLaws.{sets_counted}
use Rattle.np_region_cases.proofs.atoms.table.Goals as goal

pub line-requires-clause-sets : goal.line-requires-clause-sets
line-requires-clause-sets g c = λ k d l.
    let atoms = c.in_ok-made.made.atoms in
    ap length (get_or_default atoms.cuts k d [] l)
    ∙ (sets_counted (tests_of g.S.Regions.has_header c.args.store.now c.args.cuts.now) atoms c.in_ok-made.ensures.atoms).1 k l

use Rattle.std.proofs.Common.{List, sym, ◌∙◌, ap, subst}
use Rattle.np_region.specs.Keeping.{tests_of}
use Rattle.np_atoms.specs.Atoms.{cut_sets}
use Rattle.np_atomizer.specs.Splitting.{DivideValid}
use Rattle.np_atomizer.specs.AtomList.{leasts_of}
use Rattle.np_atomizer.specs.declared.atom_list.Atom.{Atom}
use Rattle.np_atomizer.proofs.AtomLaws.{atoms_with_sets}
use Rattle.np_atomizer.proofs.splitting.split.Goals as goal

pub returns-clause-atoms : goal.returns-clause-atoms
returns-clause-atoms g c =
    let has = g.S.Regions.has_header in
    let cuts = c.args.cuts.now in
    let after = c.classes_of.new.store in
    atoms_with_sets g.S.Regions.fits has c.args.store.now after cuts c.in_ok-atoms.atoms.items c.from_vec-leasts.result c.in_ok-cuts.cuts c.requires c.classes_of.ensures.kept
    (c.in_ok-atoms.ensures (tests_of has c.args.store.now cuts) c.in_ok-classes.ensures.classes)
    (c.from_vec-leasts.ensures ∙ c.in_ok-least_members.ensures ∙ ap (λ (xs : List (Atom g.row.S-R.Denot)). leasts_of xs) c.deref.ensures.value)
    (c.in_ok-cuts.ensures ∙ ap (cut_sets (tests_of has after cuts)) c.as_slice.ensures)

pub returns-clause-classes : goal.returns-clause-classes
returns-clause-classes g c =
    let s = c.classes_of.new.store in
    let has = g.S.Regions.has_header in
    subst (DivideValid (g.S.Regions.fits s) (has s)) (sym c.in_ok-classes-2.ensures) (c.in_ok-atoms.ensures (tests_of has c.args.store.now c.args.cuts.now) c.in_ok-classes.ensures.classes).regions

use Rattle.std.proofs.Common.{◌≡◌, ◌+◌, List, length, ap, sym, ◌∙◌, subst, arith}
use Rattle.std.specs.Prelude.{Bool}
use Rattle.np_partition.specs.Partition.{AreLeastMembers}
use Rattle.np_atomizer.specs.ClassAtoms.{AreListed}
use Rattle.np_atomizer.proofs.ClassLaws.{sets_counted, valid_counted, class_atoms_sorted, first_set}
use Rattle.np_atomizer.proofs.diagrams.atoms_of.Goals as goal

pub bounds-sets-0 : goal.bounds-sets-0
bounds-sets-0 c =
    let counted : length c.args.partition.now.sets ≡ 1 + length c.requires.tests = sets_counted c.args.partition.now c.requires.tests c.requires.is in
    omega (arith, ap length c.sets.ensures)

pub listed-requires : goal.listed-requires
listed-requires c =
    let p = c.args.partition.now in
    ap length (first_set p c.requires.tests c.requires.is c.sets.result.now c.index-sets-0.result c.sets.ensures c.index-sets-0.is)
    ∙ valid_counted p c.requires.tests c.requires.is
    ∙ sym c.in_ok-leasts.ensures.count
    ∙ sym (ap length c.as_slice.ensures)

pub returns : goal.returns
returns c = λ tests is.
    let p = c.args.partition.now in
    let leasts = c.as_slice.result.now in
    let set = first_set p tests is c.sets.result.now c.index-sets-0.result c.sets.ensures c.index-sets-0.is in
    class_atoms_sorted p tests is leasts (subst (AreLeastMembers p) (sym c.as_slice.ensures) c.in_ok-leasts.ensures) c.in_ok-atoms.atoms.items
    (subst (λ (of : List Bool). AreListed of leasts (length leasts) c.in_ok-atoms.atoms.items) set c.in_ok-atoms.ensures) c.in_order.result.items c.in_order.ensures.same c.in_order.ensures.sorted

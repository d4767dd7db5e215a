use Rattle.std.proofs.Common.{ℕ, ◌<◌, List, drop, length, ap, sym, ◌∙◌, subst}
use Rattle.std.specs.List.{All}
use Rattle.np_partition.specs.Product.{sets_at}
use Rattle.np_atomizer.specs.AtomList.{regions_of, leasts_of}
use Rattle.np_atomizer.specs.ClassAtoms.{StandsOnce, AreNumbered}
use Rattle.np_atomizer.specs.declared.atom_list.Atom.{Atom}
use Rattle.np_atomizer.proofs.KeepingAtoms.{within_partition, classes_once, read_all}
use Rattle.np_atomizer.proofs.diagrams.read.Goals as goal

pub places-requires-clause-within : goal.places-requires-clause-within
places-requires-clause-within c =
    let atoms = c.in_ok-atoms.atoms.items in
    let inside = within_partition c.args.partition c.requires.tests c.requires.is atoms (c.in_ok-atoms.ensures c.requires.tests c.requires.is) in
    subst (λ (ks : List ℕ). All (λ k. k < c.classes.result) ks) (sym (c.deref-3.ensures.value ∙ c.in_ok-classes.ensures))
    (subst (λ (m : ℕ). All (λ k. k < m) (regions_of atoms)) (sym c.classes.ensures) inside)

pub places-requires-clause-once : goal.places-requires-clause-once
places-requires-clause-once c =
    subst StandsOnce (sym (c.deref-3.ensures.value ∙ c.in_ok-classes.ensures))
    (classes_once c.args.partition c.requires.tests c.requires.is c.in_ok-atoms.atoms.items (c.in_ok-atoms.ensures c.requires.tests c.requires.is))

pub returns : goal.returns
returns c = λ tests is.
    let atoms = c.in_ok-atoms.atoms.items in
    read_all
    (record {
      atoms = record { leasts = c.from_vec-leasts.result; cuts = c.in_ok-cuts.cuts };
      classes = record { partition = c.args.partition; classes = c.in_ok-classes.classes; numbers = c.in_ok-numbers.numbers };
    })
    tests is atoms (c.in_ok-atoms.ensures tests is)
    (c.from_vec-leasts.ensures ∙ c.in_ok-least_members.ensures ∙ ap (λ (xs : List (Atom ℕ)). leasts_of xs) c.deref.ensures.value)
    c.in_ok-classes.ensures
    (c.in_ok-cuts.ensures ∙ ap (sets_at (drop 1 c.args.partition.sets)) (c.deref-2.ensures.value ∙ c.in_ok-classes.ensures))
    (c.in_ok-numbers.ensures.count ∙ c.classes.ensures)
    (subst (λ (ks : List ℕ). AreNumbered ks (length ks) c.in_ok-numbers.numbers.items) (c.deref-3.ensures.value ∙ c.in_ok-classes.ensures) c.in_ok-numbers.ensures.numbers)

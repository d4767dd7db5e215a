use Rattle.std.proofs.Common.{ℕ, ◌<◌, List, length, get_or, ap, sym, ◌∙◌, subst}
use Rattle.np_space.proofs.HeaderLemmas.{valid_widths}
use Rattle.np_partition.specs.Partition.{class_of}
use Rattle.np_atomizer.proofs.diagrams.DiagramsAtomizer.atom_of.Goals as goal

pub number_at-requires : goal.number_at-requires
number_at-requires c =
    let h = c.args.h.now in
    subst (λ (n : ℕ). n < length c.deref.result.now) (sym c.class_of.ensures)
    (subst (λ (ks : List ℕ). class_of c.args.classes.now.partition h < length ks) (sym c.deref.ensures.value) (c.requires.classes.within h (valid_widths h c.requires.valid)))

pub returns : goal.returns
returns c =
    c.number_at.ensures
    ∙ ap (λ (ks : List ℕ). get_or ks c.class_of.result 0) c.deref.ensures.value
    ∙ ap (λ n. get_or c.args.classes.now.numbers.items n 0) c.class_of.ensures

use Rattle.std.proofs.Common.{ℕ, List, ◌∙◌, ap, get_or}
use Rattle.std.specs.Prelude.{◌==◌, ◌&&◌}
use Rattle.np_space.proofs.AlgebraLemmas.{if_ok}
use Rattle.np_space.specs.Header.{has_widths}
use Rattle.np_partition.specs.Partition.{class_of}
use Rattle.np_atomizer.proofs.KeepingAtoms.{class_valid, class_exact}
use Rattle.np_atomizer.proofs.diagrams.DiagramsAtomizer.region.Goals as goal

pub region-requires-clause-valid : goal.region-requires-clause-valid
region-requires-clause-valid c =
    λ h w e.
    class_valid c.args.classes.now c.requires.classes c.args.n c.requires.within h w (e ∙ ap (λ (ks : List ℕ). get_or ks c.args.n 0) c.as_slice.ensures.value)

pub returns-clause-exact : goal.returns-clause-exact
returns-clause-exact c =
    let p = c.args.classes.now.partition in
    if_ok c.region.result
    (λ z exact h. exact h ∙ ap (λ (ks : List ℕ). has_widths h && (class_of p h == get_or ks c.args.n 0)) c.as_slice.ensures.value ∙ class_exact c.args.classes.now c.requires.classes c.args.n c.requires.within h) c.region.ensures.exact

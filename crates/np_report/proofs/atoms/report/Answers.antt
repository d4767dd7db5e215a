use Rattle.std.proofs.Common.{◌≡◌, ℕ, List, Bool, length, ap, ◌∙◌, ◌++◌, ◌∷◌, codes, []}
use Rattle.std.specs.Fmt.{decimal}
use Rattle.np_space.specs.declared.headers.Header.{Header}
use Rattle.np_cut.specs.AppliedLists.{AppliedLists}
use Rattle.np_net.specs.Plan.{Plan}
use Rattle.np_net_text.specs.CanonicalText.{lines_text}
use Rattle.np_report.specs.Atoms.{atom_lines}
use Rattle.np_report.proofs.AtomLaws.{report_made}
use Rattle.np_report.proofs.atoms.report.Goals as goal

-- what is appended of equal sets and least members
atoms_put : (sets given : List (List Bool)) (leasts read : List Header) (k l : List ℕ) → given ≡ sets → read ≡ leasts → l ≡ k ++ lines_text ((codes "atoms" ∷ decimal (length read) ∷ []) ∷ atom_lines given 0 read) → l ≡ k ++ lines_text ((codes "atoms" ∷ decimal (length leasts) ∷ []) ∷ atom_lines sets 0 leasts)
atoms_put sets given leasts read k l same_sets same_leasts put =
    put ∙ (λ i. k ++ lines_text ((codes "atoms" ∷ decimal (length (same_leasts i)) ∷ []) ∷ atom_lines (same_sets i) 0 (same_leasts i)))

pub returns : goal.returns
returns c =
    let atoms = c.args.atoms.now in
    report_made c.args.net.now c.args.applied.now.names _ atoms.cuts atoms.leasts _ _ _ _
    (c.as_slice.ensures ∙ ap (λ (applied : AppliedLists). applied.names) c.applied.view_is)
    (c.as_slice-2.ensures ∙ ap (λ (net : Plan). net.goals) c.net.view_is)
    c.new-text.ensures.items c.in_ok-put_cuts.ensures
    (atoms_put atoms.cuts _ atoms.leasts _ _ _ c.as_slice-3.ensures c.as_slice-4.ensures c.in_ok-put_all_atoms.ensures)

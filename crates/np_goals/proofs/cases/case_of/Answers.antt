use Rattle.std.proofs.Common.{◌≡◌, ℕ, ◌-◌, List, Bool, length, map, refl, ◌∙◌, ap, subst, arith}
use Rattle.std.specs.Prelude.{Option}
use Rattle.np_cut.specs.AppliedLists.{IsApplied}
use Rattle.np_net.specs.declared.filtering.Goal.{Goal}
use Rattle.np_goals.specs.Making.{crossing_set, AreForbidden}
use Rattle.np_goals.proofs.MakingLaws.{sets_number, sets_long, case_is}
use Rattle.np_goals.proofs.cases.case_of.Goals as goal

pub all_forbidden-requires-clause-sizes : goal.all_forbidden-requires-clause-sizes
all_forbidden-requires-clause-sizes c =
    rw (c.as_slice-3.ensures, c.len-2.ensures) (sets_long c.args.net.now.goals c.args.applied.now c.args.atoms c.requires.atoms)

-- what is said of equal lists and numbers
crossed : (cuts read : List (List Bool)) (atoms count : ℕ) (places given : List (Option ℕ)) (slots : List (List Bool)) → read ≡ cuts → count ≡ atoms → given ≡ places → slots ≡ map (crossing_set read count) given → slots ≡ map (crossing_set cuts atoms) places
crossed cuts read atoms count places given slots same_cuts same_count same_places are = rw (same_cuts, same_count, same_places) at are

denied : (cuts read : List (List Bool)) (atoms count first : ℕ) (goals given : List Goal) (bad : List (List Bool)) → read ≡ cuts → count ≡ atoms → given ≡ goals → length cuts - length goals ≡ first → AreForbidden read count (length read - length given) given (length given) bad → AreForbidden cuts atoms first goals (length goals) bad
denied cuts read atoms count first goals given bad same_cuts same_count same_goals from are =
    subst (λ m. AreForbidden cuts atoms m goals (length goals) bad) from (rw (same_cuts, same_count, same_goals) at are)

pub returns : goal.returns
returns c =
    let net = c.args.net.now in
    let applied = c.args.applied.now in
    let atoms = c.args.atoms in
    let first : length atoms.cuts - length net.goals ≡ length applied.lists = omega (arith, sets_number net.goals applied atoms c.requires.atoms) in
    case_is net.goals applied atoms c.requires.atoms net.interfaces (subst IsApplied c.applied.view_is c.applied.invariant) c.requires.slots c.in_ok-bad.bad
    (denied atoms.cuts _ (length atoms.leasts) _ (length applied.lists) net.goals _ c.in_ok-bad.bad c.as_slice-3.ensures c.len-2.ensures (c.as_slice-4.ensures ∙ ap (λ p. p.goals) c.net.view_is) first c.in_ok-bad.ensures)
    _
    (crossed atoms.cuts _ (length atoms.leasts) _ applied.at _ c.in_ok-slots.slots c.as_slice.ensures c.len.ensures (c.as_slice-2.ensures ∙ ap (λ a. a.at) c.applied.view_is) c.in_ok-slots.ensures)
    refl refl

use Rattle.std.proofs.Common.{None, refl, subst}
use Rattle.np_goals.specs.Judging.{AnswersLeast, IsLeastNumber}
use Rattle.np_synth.specs.Steps.{IsIn}
use Rattle.np_synth.proofs.DroppingLaws.{first_of_sets, some_has}
use Rattle.np_synth.proofs.dropping.drop_of.Goals as goal

pub unreachable-requires : goal.unreachable-requires
unreachable-requires c =
    let sets = c.args.opened.now.breaking in
    let atom = c.args.atom in
    let none : AnswersLeast (IsIn sets atom) None = subst (λ s. AnswersLeast (IsIn s atom) None) c.as_slice.ensures (rw c.in-None.is at c.first_with.ensures) in
    some_has c.args.net.now c.args.case.now c.args.opened.now.posture.slots sets c.requires.breaking atom none c.requires.breaks

pub returns : goal.returns
returns c =
    let sets = c.args.opened.now.breaking in
    let atom = c.args.atom in
    let goal = c.in-Some.goal in
    let least : IsLeastNumber (IsIn sets atom) goal = subst (λ s. IsLeastNumber (IsIn s atom) goal) c.as_slice.ensures (rw c.in-Some.is at c.first_with.ensures) in
    record {
      slot_is = refl;
      atom_is = refl;
      broken = first_of_sets c.args.net.now c.args.case.now c.args.opened.now.posture.slots sets c.requires.breaking atom goal least;
      path = c.in_ok-path-in-Some.ensures;
    }

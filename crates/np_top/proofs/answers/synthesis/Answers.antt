use Rattle.std.proofs.Common.{length, Err, sym, ◌∙◌, ap, subst}
use Rattle.np_net.specs.Network.{IsNetwork}
use Rattle.np_flow.specs.Postures.{lets_atom}
use Rattle.np_synth.specs.Synthesis.{bad_for}
use Rattle.np_report.specs.Synthesis.{chosen_text, AreInOrder}
use Rattle.np_top.proofs.Synthesising.{chosen_answer, unattained_answer, unattained_within, drops_in_order}
use Rattle.np_top.proofs.answers.synthesis.Goals as goal

pub chosen_report-requires-clause-sets : goal.chosen_report-requires-clause-sets
chosen_report-requires-clause-sets g c =
    let is : IsNetwork c.args.net.now = subst IsNetwork c.net.view_is c.net.invariant in
    c.in-Ok.ensures.chosen.two_each ∙ sym is.free

pub chosen_report-requires-clause-order : goal.chosen_report-requires-clause-order
chosen_report-requires-clause-order g c =
    let net = c.args.net.now in
    let case = c.in_ok-case.case in
    let slots = c.in-Ok.chosen.posture.slots in
    let drops = c.in-Ok.chosen.dropped in
    subst (λ leasts. AreInOrder net.interfaces (length leasts) (length net.goals) drops) (sym c.as_slice.ensures)
    (drops_in_order net.interfaces net.goals net.free (length case.leasts) (bad_for case.bad) (lets_atom slots) drops c.in-Ok.ensures.chosen.dropped)

pub returns-in-Ok-clause-report : goal.returns-in-Ok-clause-report
returns-in-Ok-clause-report g c =
    let answer = c.in_ok-chosen_report-in-Ok.field-0 in
    let chosen = c.in-Ok.chosen in
    chosen_answer c.args.net.now c.args.configs.items c.in_ok-case.case chosen.posture.slots chosen.dropped answer.text answer.status
    c.in_ok-case.ensures.case c.in-Ok.ensures.chosen
    (c.in_ok-chosen_report-in-Ok.ensures.text ∙ ap (λ leasts. chosen_text c.args.net.now leasts chosen.posture.slots chosen.dropped) c.as_slice.ensures)
    c.in_ok-chosen_report-in-Ok.ensures.status

pub unattainable_report-requires-clause-goal : goal.unattainable_report-requires-clause-goal
unattainable_report-requires-clause-goal g c =
    let un = c.in-Err-Unattainable in
    (un.ensures.unattainable un.goal un.header un.path (λ i. Err (un.field-0-is i))).least.holds.within

pub unattainable_report-requires-clause-hops : goal.unattainable_report-requires-clause-hops
unattainable_report-requires-clause-hops g c =
    let un = c.in-Err-Unattainable in
    unattained_within c.args.net.now c.in_ok-case.case un.goal un.header un.path.hops (un.ensures.unattainable un.goal un.header un.path (λ i. Err (un.field-0-is i)))

pub returns-in-Err-Unattainable-clause-report : goal.returns-in-Err-Unattainable-clause-report
returns-in-Err-Unattainable-clause-report g c =
    let un = c.in-Err-Unattainable in
    let report = c.in_ok-unattainable_report-in-Err-Unattainable in
    unattained_answer c.args.net.now c.args.configs.items c.in_ok-case.case un.goal un.header un.path report.field-0.text report.field-0.status
    c.in_ok-case.ensures.case (un.ensures.unattainable un.goal un.header un.path (λ i. Err (un.field-0-is i)))
    report.ensures.text report.ensures.status

use Rattle.std.proofs.Common.{codes, if◌then◌else◌, ap, ◌∙◌}
use Rattle.np_report.specs.Verdicts.{goals_lines}
use Rattle.np_report.proofs.TextLaws.{last_appended}
use Rattle.np_report.proofs.verdicts.goals_text.Goals as goal

pub returns : goal.returns
returns c =
    last_appended (goals_lines c.args.net.now 1 c.args.verdicts.now) _ _ _ _ _ _
    c.new-text.ensures.items c.in_ok-put_goals.ensures c.in_ok-extend_from_slice.ensures.items c.in_ok-push.ensures.items (c.last_word.ensures ∙ ap (λ all. if all then codes "holds" else codes "fails") c.all_hold.ensures)

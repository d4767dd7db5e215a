use Rattle.std.proofs.Common.{◌++◌, sym, ap, ◌∙◌}
use Rattle.std.proofs.lemmas.List.{append-nil}
use Rattle.np_text.specs.Joined.{text_of_lines}
use Rattle.np_generate.specs.NetLines.{goal_lines}
use Rattle.np_generate.proofs.LineLaws.{moved, goal_next, goal_state, goals_begin, goals_end}
use Rattle.np_generate.proofs.net_lines.put_goals.Goals as goal

pub loop-k-init : goal.loop-k-init
loop-k-init c = record {
  text = ap (λ drawn. c.args.out.now.items ++ text_of_lines (goal_lines 0 drawn.0)) (goals_begin c.args.draws.now.state);
  state = ap (λ drawn. drawn.1) (goals_begin c.args.draws.now.state);
}

pub loop-k-preserved : goal.loop-k-preserved
loop-k-preserved c = record {
  text =
      rw c.goal-goal.ensures.state (
      moved _ _ _ _ _ _
      c.loop-k.invariant.text
      (rw (c.goal-goal.ensures.value) at c.in_ok-put_goal.ensures)
      (goal_next c.loop-k.k c.loop-k.draws.state c.loop-k-test.true)
      );
  state = rw c.goal-goal.ensures.state (sym (goal_state c.loop-k.k c.loop-k.draws.state c.loop-k-test.true) ∙ c.loop-k.invariant.state);
}

pub returns-clause-text : goal.returns-clause-text
returns-clause-text c =
    sym (append-nil c.loop-k.out.items)
    ∙ rw (goals_end c.loop-k.k c.loop-k.draws.state c.loop-k-test.false) at c.loop-k.invariant.text

pub returns-clause-state : goal.returns-clause-state
returns-clause-state c = rw (goals_end c.loop-k.k c.loop-k.draws.state c.loop-k-test.false) at c.loop-k.invariant.state

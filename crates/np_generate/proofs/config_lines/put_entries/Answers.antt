use Rattle.std.proofs.Common.{◌++◌, sym, ap, ◌∙◌}
use Rattle.std.proofs.lemmas.List.{append-nil}
use Rattle.np_text.specs.Joined.{joined_text}
use Rattle.np_generate.specs.ConfigLines.{entry_lines}
use Rattle.np_generate.proofs.LineLaws.{moved, entry_next, entry_state, entries_begin, entries_end}
use Rattle.np_generate.proofs.config_lines.put_entries.Goals as goal

pub loop-number-init : goal.loop-number-init
loop-number-init c = record {
  text = ap (λ drawn. c.args.out.now.items ++ joined_text (entry_lines drawn.0)) (entries_begin c.args.draws.now.state);
  state = ap (λ drawn. drawn.1) (entries_begin c.args.draws.now.state);
}

pub loop-number-preserved : goal.loop-number-preserved
loop-number-preserved c = record {
  text =
      rw c.entry-entry.ensures.state (
      moved _ _ _ _ _ _
      c.loop-number.invariant.text
      (rw (c.entry-entry.ensures.value) at c.in_ok-put_entry.ensures)
      (entry_next c.loop-number._number c.loop-number.draws.state c.loop-number-test.true)
      );
  state = rw c.entry-entry.ensures.state (sym (entry_state c.loop-number._number c.loop-number.draws.state c.loop-number-test.true) ∙ c.loop-number.invariant.state);
}

pub returns-clause-text : goal.returns-clause-text
returns-clause-text c =
    sym (append-nil c.loop-number.out.items)
    ∙ rw (entries_end c.loop-number._number c.loop-number.draws.state c.loop-number-test.false) at c.loop-number.invariant.text

pub returns-clause-state : goal.returns-clause-state
returns-clause-state c = rw (entries_end c.loop-number._number c.loop-number.draws.state c.loop-number-test.false) at c.loop-number.invariant.state

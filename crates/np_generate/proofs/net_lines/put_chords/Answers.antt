use Rattle.std.proofs.Common.{◌++◌, sym, ap, ◌∙◌}
use Rattle.std.proofs.lemmas.List.{append-nil}
use Rattle.np_text.specs.Joined.{text_of_lines}
use Rattle.np_generate.specs.NetLines.{chord_lines}
use Rattle.np_generate.proofs.LineLaws.{moved, chord_next, chord_state, chords_begin, chords_end}
use Rattle.np_generate.proofs.net_lines.put_chords.Goals as goal

pub loop-k-init : goal.loop-k-init
loop-k-init c = record {
  text = ap (λ drawn. c.args.out.now.items ++ text_of_lines (chord_lines 16 drawn.0)) (chords_begin c.args.draws.now.state);
  state = ap (λ drawn. drawn.1) (chords_begin c.args.draws.now.state);
}

pub loop-k-preserved : goal.loop-k-preserved
loop-k-preserved c = record {
  text =
      rw c.far_area-far.ensures.state (
      moved _ _ _ _ _ _
      c.loop-k.invariant.text
      (rw (c.near_area.ensures, c.far_area-far.ensures.value) at c.in_ok-put_interfaces.ensures)
      (chord_next c.loop-k.k c.loop-k.draws.state c.loop-k-test.true)
      );
  state = rw c.far_area-far.ensures.state (sym (chord_state c.loop-k.k c.loop-k.draws.state c.loop-k-test.true) ∙ c.loop-k.invariant.state);
}

pub returns-clause-text : goal.returns-clause-text
returns-clause-text c =
    sym (append-nil c.loop-k.out.items)
    ∙ rw (chords_end c.loop-k.k c.loop-k.draws.state c.loop-k-test.false) at c.loop-k.invariant.text

pub returns-clause-state : goal.returns-clause-state
returns-clause-state c = rw (chords_end c.loop-k.k c.loop-k.draws.state c.loop-k-test.false) at c.loop-k.invariant.state

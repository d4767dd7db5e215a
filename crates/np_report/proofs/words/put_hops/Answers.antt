use Rattle.std.proofs.Common.{◌++◌, ap, sym, ◌∙◌}
use Rattle.np_net_text.specs.CanonicalText.{line_text}
use Rattle.np_net_text.proofs.CanonicalLaws.{all_taken}
use Rattle.np_report.specs.Words.{hop_words}
use Rattle.np_report.proofs.TextLaws.{hop_lines_appended}
use Rattle.np_report.proofs.words.put_hops.Goals as goal

pub returns : goal.returns
returns c =
    all_taken (λ hop. line_text (hop_words c.args.net.now hop)) c.args.hops.now c.loop-hop.hop-index _ _ c.loop-hop.invariant c.loop-hop-test.false
    ∙ ap (λ text. c.args.text.now.items ++ text) (sym (hop_lines_appended c.args.net.now c.args.hops.now))

use Rattle.std.proofs.Common.{◌++◌, ap, sym, ◌∙◌}
use Rattle.std.proofs.lemmas.List.Folds.{flat_map-map}
use Rattle.np_net_text.specs.CanonicalText.{line_text}
use Rattle.np_net_text.proofs.CanonicalLaws.{all_taken}
use Rattle.np_ipsec_report.specs.Replays.{breach_words}
use Rattle.np_ipsec_report.proofs.replays.put_breaches.Goals as goal

pub returns : goal.returns
returns c =
    all_taken (λ breach. line_text (breach_words breach)) c.args.breaches.now c.loop-breach.breach-index _ _ c.loop-breach.invariant c.loop-breach-test.false
    ∙ ap (λ text. c.args.text.now.items ++ text) (sym (flat_map-map line_text breach_words c.args.breaches.now))

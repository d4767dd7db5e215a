use Rattle.np_net_text.specs.Canonical.{interface_words}
use Rattle.np_net_text.specs.CanonicalText.{line_text}
use Rattle.np_net_text.proofs.CanonicalLaws.{all_taken}
use Rattle.np_net_text.proofs.canonical.put_interfaces.Goals as goal

pub returns : goal.returns
returns c =
    all_taken (λ interface. line_text (interface_words c.args.net.now interface)) c.args.interfaces.now _ _ _ c.loop-interface.invariant c.loop-interface-test.false

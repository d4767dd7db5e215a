use Rattle.np_net_text.proofs.CanonicalLaws.{net_text-made}
use Rattle.np_net_text.proofs.canonical.net_text.Goals as goal

pub returns : goal.returns
returns c = net_text-made c.args.net.now _ _ _ c.new-text.ensures.items c.in_ok-put_filtering.ensures c.in_ok-put_ipsec.ensures

use Rattle.np_ipsec_report.proofs.ReplayLaws.{replay_made}
use Rattle.np_ipsec_report.proofs.replays.replay_report.Goals as goal

pub returns : goal.returns
returns g c =
    replay_made c.args.net.now c.args.replay.now.states c.args.replay.now.stop c.args.replay.now.breaches _ _ _ _ _ _ _ _
    c.as_slice.ensures
    c.new-text.ensures.items c.in_ok-put_states.ensures c.in_ok-put_stop.ensures c.in_ok-put_breaches.ensures c.legal_word.ensures c.in_ok-extend_from_slice.ensures.items c.in_ok-push.ensures.items

use Rattle.std.proofs.Common.{subst}
use Rattle.np_net.specs.Network.{IsNetwork}
use Rattle.np_top.proofs.IpsecAnswers.{right_places}
use Rattle.np_top.proofs.answers.ipsec.Goals as goal

pub answers_report-requires : goal.answers_report-requires
answers_report-requires g c =
    let network : IsNetwork c.args.net = subst IsNetwork c.net.view_is c.net.invariant in
    rw c.as_slice-2.ensures (right_places c.args.net network c.in_ok-answers.answers c.in_ok-answers.ensures)

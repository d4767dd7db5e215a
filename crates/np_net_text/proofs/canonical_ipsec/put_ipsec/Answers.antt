use Rattle.std.proofs.Common.{ap, ◌∙◌}
use Rattle.std.proofs.lemmas.Result.{on_ok_weaker}
use Rattle.np_net.specs.Plan.{Plan}
use Rattle.np_net_text.proofs.CanonicalLaws.{ipsec_appended}
use Rattle.np_net_text.proofs.canonical_ipsec.put_ipsec.Goals as goal

pub returns : goal.returns
returns c =
    on_ok_weaker c.put_ipgoals.result (λ last.
    ipsec_appended c.args.net.now _ _ _ _ _ _ _ _
    (c.as_slice.ensures ∙ ap (λ (net : Plan). net.sas) c.net.view_is)
    (c.as_slice-2.ensures ∙ ap (λ (net : Plan). net.interfaces) c.net.view_is)
    (c.as_slice-3.ensures ∙ ap (λ (net : Plan). net.tables) c.net.view_is)
    (c.as_slice-4.ensures ∙ ap (λ (net : Plan). net.ipgoals) c.net.view_is)
    c.in_ok-put_sas.ensures c.in_ok-put_rules.ensures last) c.put_ipgoals.ensures

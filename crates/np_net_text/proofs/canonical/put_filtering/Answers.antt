use Rattle.std.proofs.Common.{ap, ◌∙◌}
use Rattle.std.proofs.lemmas.Result.{on_ok_weaker}
use Rattle.np_net.specs.Plan.{Plan}
use Rattle.np_net_text.proofs.CanonicalLaws.{filtering_appended}
use Rattle.np_net_text.proofs.canonical.put_filtering.Goals as goal

pub returns : goal.returns
returns c =
    on_ok_weaker c.put_goals.result (λ last.
    filtering_appended c.args.net.now _ _ _ _ _ _ _ _ _ _ _ _ _ _
    (ap (λ (net : Plan). net.depth) c.net.view_is)
    (c.as_slice.ensures ∙ ap (λ (net : Plan). net.areas) c.net.view_is)
    (c.as_slice-2.ensures ∙ ap (λ (net : Plan). net.devices) c.net.view_is)
    (c.as_slice-3.ensures ∙ ap (λ (net : Plan). net.interfaces) c.net.view_is)
    (c.as_slice-4.ensures ∙ ap (λ (net : Plan). net.interfaces) c.net.view_is)
    (c.as_slice-5.ensures ∙ ap (λ (net : Plan). net.free) c.net.view_is)
    (c.as_slice-6.ensures ∙ ap (λ (net : Plan). net.goals) c.net.view_is)
    c.in_ok-put_depth.ensures c.in_ok-put_areas.ensures c.in_ok-put_devices.ensures c.in_ok-put_interfaces.ensures c.in_ok-put_free.ensures last) c.put_goals.ensures

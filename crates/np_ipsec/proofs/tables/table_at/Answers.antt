use Rattle.std.proofs.Common.{◌∙◌, ap, subst}
use Rattle.np_net.specs.Network.{IsNetwork}
use Rattle.np_ipsec.proofs.RangeLaws.{table_found, table_within}
use Rattle.np_ipsec.proofs.tables.table_at.Goals as goal

pub bounds-as_slice-i : goal.bounds-as_slice-i
bounds-as_slice-i c =
    let is : IsNetwork c.args.net.now = subst IsNetwork c.net.view_is c.net.invariant in
    let same = c.as_slice.ensures ∙ ap (λ net. net.tables) c.net.view_is in
    table_within c.args.net.now is c.args.i c.as_slice.result.now same c.requires

pub returns : goal.returns
returns c =
    let is : IsNetwork c.args.net.now = subst IsNetwork c.net.view_is c.net.invariant in
    let same = c.as_slice.ensures ∙ ap (λ net. net.tables) c.net.view_is in
    table_found c.args.net.now is c.args.i c.as_slice.result.now c.index-as_slice-i.result same c.requires c.index-as_slice-i.is

use Rattle.std.proofs.lemmas.Result.{on_ok_weaker}
use Rattle.np_net_text.proofs.CanonicalLaws.{table_text, appended-three}
use Rattle.np_net_text.proofs.canonical_ipsec.put_table.Goals as goal

pub returns : goal.returns
returns c =
    on_ok_weaker c.put_out_rules.result (λ last.
    rw (table_text c.args.net.now c.args.interface.now c.args.table.now, ← c.as_slice.ensures, ← c.as_slice-2.ensures, ← c.as_slice-3.ensures)
    (appended-three _ _ _ _ _ _ _ c.in_ok-put_pops.ensures c.in_ok-put_in_rules.ensures last)) c.put_out_rules.ensures

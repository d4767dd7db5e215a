use Rattle.np_net_text.proofs.ParallelLaws.{left_step, none_left, rule_lines-short, rule_lines-end, rule_lines-step, AreTables-step}
use Rattle.np_net_text.proofs.canonical_ipsec.put_rules.Goals as goal

pub returns-in_default : goal.returns-in_default
returns-in_default c = none_left _ _ _ c.loop-interface.invariant.text (rule_lines-short c.args.net.now _ _ c.in_default.len_below)

pub put_table-requires : goal.put_table-requires
put_table-requires c =
    (AreTables-step c.args.net.now.sas c.args.interfaces.now c.loop-interface.interface-index c.interface-item.result c.loop-interface.left.now c.table-item.result c.loop-interface.invariant.tables c.loop-interface-test.true c.interface-item.is c.in-len1-up.len_at_least c.table-item.is).0

pub loop-interface-preserved : goal.loop-interface-preserved
loop-interface-preserved c = record {
  text =
      left_step _ _ _ _ _
      (rw (rule_lines-step c.args.net.now c.args.interfaces.now c.loop-interface.interface-index c.interface-item.result c.loop-interface.left.now c.table-item.result c.loop-interface-test.true c.interface-item.is c.in-len1-up.len_at_least c.table-item.is) at c.loop-interface.invariant.text)
      c.in_ok-put_table.ensures;
  tables =
      (AreTables-step c.args.net.now.sas c.args.interfaces.now c.loop-interface.interface-index c.interface-item.result c.loop-interface.left.now c.table-item.result c.loop-interface.invariant.tables c.loop-interface-test.true c.interface-item.is c.in-len1-up.len_at_least c.table-item.is).1;
}

pub returns : goal.returns
returns c = none_left _ _ _ c.loop-interface.invariant.text (rule_lines-end c.args.net.now c.args.interfaces.now c.loop-interface.interface-index _ c.loop-interface-test.false)

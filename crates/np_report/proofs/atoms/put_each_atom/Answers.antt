use Rattle.std.proofs.Common.{get_or}
use Rattle.std.proofs.lemmas.List.{get_or_default}
use Rattle.np_space.specs.Header.{zeros}
use Rattle.np_report.proofs.AtomLaws.{atom_appended}
use Rattle.np_report.proofs.atoms.put_each_atom.Goals as goal

pub loop-n-preserved : goal.loop-n-preserved
loop-n-preserved c =
    let leasts = c.args.leasts.now in
    let n = c.loop-n.n in
    let least = get_or leasts n zeros in
    atom_appended c.loop-n.text.items c.put_atom.new.text.items _ c.args.cuts.now leasts n least c.loop-n-test.true (get_or_default leasts n zeros least c.loop-n-test.true) c.loop-n.invariant c.in_ok-put_atom.ensures

use Rattle.std.proofs.Common.{◌≡◌, take}
use Rattle.np_net.specs.Plan.{sa_names}
use Rattle.np_net.proofs.net_names.names_of_sas.Given as goal

abbrev pub invariant-loop-sa : goal.invariant-loop-sa
invariant-loop-sa l = l.names ≡ sa_names (take l.sa-index l.sas)

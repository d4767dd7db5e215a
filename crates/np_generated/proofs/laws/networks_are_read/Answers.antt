use Rattle.np_generated.proofs.NetLaws.{net_made, net_sized}
use Rattle.np_generated.proofs.laws.networks_are_read.Goals as goal

pub returns-clause-network : goal.returns-clause-network
returns-clause-network c = net_made

pub returns-clause-sizes : goal.returns-clause-sizes
returns-clause-sizes c = net_sized

-- The tests of a network's IPsec part tell apart all that its rules ask, so the least headers of their classes stand for all headers.
use Rattle.std.specs.Prelude.{List}
use Rattle.np_space.specs.Classes.{AreLeasts}
use Rattle.np_space.specs.declared.headers.Header.{Header}
use Rattle.np_net.specs.Plan.{Plan}
use Rattle.np_ipsec.specs.Alike.{AreLeastsFor, Respects}
use Rattle.np_ipgoals.specs.Cuts.{ipsec_tests}

-- valid headers of which the tests say the same are the same to the rules of every interface, to every goal and to every area
abbrev pub IpsecTestsAreRespected : Type 0
IpsecTestsAreRespected = (net : Plan) → Respects net (ipsec_tests net)

-- the least headers of their classes are those that the checks of the goals ask for
abbrev pub LeastsServeTheChecks : Type 0
LeastsServeTheChecks = (net : Plan) (leasts : List Header) → AreLeasts (ipsec_tests net) leasts → AreLeastsFor net leasts

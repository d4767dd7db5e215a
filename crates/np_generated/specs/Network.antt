-- The network that is meant by what is drawn of it.
use Rattle.std.specs.Prelude.{◌≡◌, ℕ, ◌+◌, ◌%◌, false, List, [], ◌∷◌, ◌++◌, length, map, Some, codes}
use Rattle.std.specs.List.{flat_map, range_with_len}
use Rattle.np_space.specs.Patterns.{prefix_pattern}
use Rattle.np_space.specs.Span.{span_from}
use Rattle.np_pred.specs.declared.predicate.Pred.{Pred}
use Rattle.np_pred.specs.declared.predicate.Pred.TheVariants as pred
use Rattle.np_net.specs.Plan.{Plan}
use Rattle.np_net.specs.declared.filtering.Area.{Area}
use Rattle.np_net.specs.declared.filtering.Device.{Device}
use Rattle.np_net.specs.declared.filtering.Interface.{Interface}
use Rattle.np_net.specs.declared.filtering.Goal.{Goal}
use Rattle.np_net_read.specs.Tables.{no_rules}
use Rattle.np_generate.specs.declared.drawn.DrawnGoal.{DrawnGoal}
use Rattle.np_generate.specs.Drawn.{DrawnNet, near_area}
use Rattle.np_generate.specs.NetLines.{area_name, device_name, interface_name}
use Rattle.np_generated.specs.Configs.{area_address}

-- the area of this number: its addresses are 10.k.0.0/16
abbrev pub area_meant : ℕ → Area
area_meant k = record { name = area_name k; sources = prefix_pattern (area_address k) 16 ∷ []; trusted = false }

-- the device of this number, with its configuration's file
abbrev pub device_meant : ℕ → Device
device_meant k = record { name = device_name k; config = Some (device_name k ++ codes ".cfg"); trusted = false }

-- the interface of this number of a device, on an area
abbrev pub interface_meant : ℕ → ℕ → ℕ → Interface
interface_meant k n area = record { name = interface_name n; device = k; area = area }

-- the two interfaces of a device, which joins these areas
abbrev pub interfaces_of : ℕ → ℕ → ℕ → List Interface
interfaces_of k one other = interface_meant k 0 one ∷ interface_meant k 1 other ∷ []

-- a device of the ring joins the area of its number and the next one
abbrev pub ring_of : ℕ → List Interface
ring_of k = interfaces_of k k ((k + 1) % 16)

-- the devices across the ring, from this number on, each with the other area that is drawn for it
abbrev pub chords_of : ℕ → List ℕ → List Interface
chords_of k [] = []
chords_of k (far ∷ far_areas) = interfaces_of k (near_area k) far ++ chords_of (k + 1) far_areas

-- the interfaces of the devices of the ring, and of those across it
abbrev pub interfaces_meant : DrawnNet → List Interface
interfaces_meant drawn = flat_map ring_of (range_with_len 0 16) ++ chords_of 16 drawn.far_areas

-- TCP to this port
abbrev pub pred_meant : ℕ → Pred
pred_meant port = pred.And (pred.Proto 6) (pred.DstPort (span_from port port))

-- the goal from the area of this number
abbrev pub goal_meant : ℕ → DrawnGoal → Goal
goal_meant k goal = record { from = k; to = goal.to; only = false; pred = pred_meant goal.port }

-- the goals from the area of this number and those after it
abbrev pub goals_from : ℕ → List DrawnGoal → List Goal
goals_from k [] = []
goals_from k (goal ∷ goals) = goal_meant k goal ∷ goals_from (k + 1) goals

-- 16 areas, 24 devices, their interfaces and the goals; no slot is free, and there are no associations and no rules
abbrev pub network_meant : DrawnNet → Plan
network_meant drawn = record {
  areas = map area_meant (range_with_len 0 16);
  devices = map device_meant (range_with_len 0 24);
  interfaces = interfaces_meant drawn;
  free = flat_map (λ interface. false ∷ false ∷ []) (interfaces_meant drawn);
  goals = goals_from 0 drawn.goals;
  sas = [];
  tables = map (λ interface. no_rules) (interfaces_meant drawn);
  ipgoals = [];
  depth = 8;
}

-- the sizes of every generated network
pub record HasGeneratedSizes (net : Plan) : Type 0 where
  pub areas : length net.areas ≡ 16
  pub devices : length net.devices ≡ 24
  pub interfaces : length net.interfaces ≡ 48
  pub goals : length net.goals ≡ 16

-- What is drawn of a network and its configurations, in the order of their texts.
use Rattle.std.specs.Prelude.{ℕ, ◌+◌, ◌*◌, ◌-◌, ◌%◌, ◌==◌, not, List, [], ◌∷◌, Option, Some, None, slice_index_or, if◌then◌else◌}
use Rattle.np_generate.specs.declared.drawn.DrawnGoal.{DrawnGoal}
use Rattle.np_generate.specs.declared.drawn.DrawnEntry.{DrawnEntry}
use Rattle.np_generate.specs.declared.drawn.Protocol.{Protocol}
use Rattle.np_generate.specs.declared.drawn.Protocol.TheVariants.{Ip, Tcp, Udp, Icmp}
use Rattle.np_generate.specs.Drawing.{Drawing, ◌>>=◌, draw, given, in_turn}

-- ---- ports

-- the ports, by their places from 0
abbrev pub port_at : ℕ → ℕ
port_at place = slice_index_or (22 ∷ 23 ∷ 80 ∷ 443 ∷ []) place 0

-- one of the four ports
unfoldable pub a_port : Drawing ℕ
a_port = draw 4 >>= λ place. given (port_at place)

-- ---- the network

-- one of two areas that a device across the ring joins, by the device's number from 16
abbrev pub near_area : ℕ → ℕ
near_area k = 2 * (k - 16)

-- the other one
unfoldable pub far_area : ℕ → Drawing ℕ
far_area k = draw 12 >>= λ n. given ((near_area k + 2 + n) % 16)

-- the second area and the port of the goal whose first area has this number
unfoldable pub a_goal : ℕ → Drawing DrawnGoal
a_goal k = draw 15 >>= λ n. a_port >>= λ port. given (record { to = (k + 1 + n) % 16; port = port })

-- the other areas of the devices across the ring
unfoldable pub some_far_areas : Drawing (List ℕ)
some_far_areas = in_turn far_area 16 8

-- the goals
unfoldable pub some_goals : Drawing (List DrawnGoal)
some_goals = in_turn a_goal 0 16

-- what is drawn of a network: of each device across the ring its other area, and of each goal its second area and its port
pub record DrawnNet : Type 0 where
  pub far_areas : List ℕ
  pub goals : List DrawnGoal

-- a network
unfoldable pub a_net : Drawing DrawnNet
a_net = some_far_areas >>= λ far_areas. some_goals >>= λ goals. given (record { far_areas = far_areas; goals = goals })

-- ---- configurations

-- the protocols, by their places from 0
abbrev pub protocol_at : ℕ → Protocol
protocol_at place = slice_index_or (Ip ∷ Tcp ∷ Udp ∷ Icmp ∷ []) place Icmp

-- the number of the area whose addresses an entry tests; none where it tests none
unfoldable pub an_area : Drawing (Option ℕ)
an_area = draw 2 >>= λ n. if n == 0 then given None else (draw 16 >>= λ area. given (Some area))

-- a port or none, where an entry may test one
unfoldable pub maybe_port : Drawing (Option ℕ)
maybe_port = draw 2 >>= λ n. if n == 1 then (a_port >>= λ port. given (Some port)) else given None

-- the same by the protocol of the entry
abbrev pub port_for : Protocol → Drawing (Option ℕ)
port_for Ip = given None
port_for Tcp = maybe_port
port_for Udp = maybe_port
port_for Icmp = given None

-- an entry
unfoldable pub an_entry : Drawing DrawnEntry
an_entry =
    draw 4 >>= λ action. draw 4 >>= λ place. an_area >>= λ source. an_area >>= λ destination. port_for (protocol_at place) >>= λ port.
    given (record { permit = not (action == 0); protocol = protocol_at place; source = source; destination = destination; port = port })

-- the entries of a device's list
unfoldable pub some_entries : Drawing (List DrawnEntry)
some_entries = in_turn (λ n. an_entry) 0 40

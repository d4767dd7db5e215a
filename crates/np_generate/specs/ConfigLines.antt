-- The words of the lines of a generated configuration.
use Rattle.std.specs.Prelude.{ℕ, Bool, true, false, List, [], ◌∷◌, ◌++◌, codes, map, Option, Some, None, if◌then◌else◌}
use Rattle.std.specs.Fmt.{decimal}
use Rattle.np_generate.specs.declared.drawn.DrawnEntry.{DrawnEntry}
use Rattle.np_generate.specs.declared.drawn.Protocol.{Protocol}
use Rattle.np_generate.specs.declared.drawn.Protocol.TheVariants.{Ip, Tcp, Udp, Icmp}

-- whether an entry permits
abbrev pub action_word : Bool → List ℕ
action_word permit = if permit then codes "permit" else codes "deny"

-- the protocol of an entry
abbrev pub protocol_word : Protocol → List ℕ
protocol_word Ip = codes "ip"
protocol_word Tcp = codes "tcp"
protocol_word Udp = codes "udp"
protocol_word Icmp = codes "icmp"

-- the addresses of an area with their wildcard, as `10.7.0.0 0.0.255.255`
abbrev pub area_words : ℕ → List (List ℕ)
area_words k = (codes "10." ++ (decimal k ++ codes ".0.0")) ∷ codes "0.0.255.255" ∷ []

-- the same, or `any`
abbrev pub addresses_words : Option ℕ → List (List ℕ)
addresses_words None = codes "any" ∷ []
addresses_words (Some k) = area_words k

-- `eq` and a port, where one is tested
abbrev pub port_words : Option ℕ → List (List ℕ)
port_words None = []
port_words (Some port) = codes "eq" ∷ decimal port ∷ []

-- a line of the list
unfoldable pub entry_line : DrawnEntry → List (List ℕ)
entry_line entry =
    codes "access-list" ∷ codes "100" ∷ action_word entry.permit ∷ protocol_word entry.protocol
    ∷ (addresses_words entry.source ++ (addresses_words entry.destination ++ port_words entry.port))

-- the lines of these entries
abbrev pub entry_lines : List DrawnEntry → List (Bool × List (List ℕ))
entry_lines entries = map (λ entry. (false, entry_line entry)) entries

-- the words of each line, with true where the line begins with a space: the list 100 is applied inward at the interface e0, and has these entries
unfoldable pub config_lines : List DrawnEntry → List (Bool × List (List ℕ))
config_lines entries =
    (false, codes "interface" ∷ codes "e0" ∷ [])
    ∷ (true, codes "ip" ∷ codes "access-group" ∷ codes "100" ∷ codes "in" ∷ [])
    ∷ entry_lines entries

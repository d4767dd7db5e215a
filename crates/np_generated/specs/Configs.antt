-- The configuration that is meant by drawn entries.
use Rattle.std.specs.Prelude.{ℕ, ◌+◌, ◌*◌, List, [], ◌∷◌, map, Option, Some, None, codes}
use Rattle.np_space.specs.Patterns.{any_address, pattern}
use Rattle.np_space.specs.Span.{span_from}
use Rattle.np_space.specs.declared.patterns.Ternary.{Ternary}
use Rattle.np_space.specs.declared.spans.Span.{Span}
use Rattle.np_acl.specs.Entries.{any_entry}
use Rattle.np_acl.specs.Spans.{any_number, any_protocol}
use Rattle.np_acl.specs.declared.entries.Entry.{Entry}
use Rattle.np_acl_read.specs.declared.config.Config.{Config}
use Rattle.np_generate.specs.declared.drawn.DrawnEntry.{DrawnEntry}
use Rattle.np_generate.specs.declared.drawn.Protocol.{Protocol}
use Rattle.np_generate.specs.declared.drawn.Protocol.TheVariants.{Ip, Tcp, Udp, Icmp}

-- the address 10.k.0.0
abbrev pub area_address : ℕ → ℕ
area_address k = 10 * 16777216 + k * 65536

-- the protocols of an entry
unfoldable pub protocols_meant : Protocol → Span
protocols_meant Ip = any_protocol
protocols_meant Tcp = span_from 6 6
protocols_meant Udp = span_from 17 17
protocols_meant Icmp = span_from 1 1

-- every address, or those that agree with the area's on the first 16 bits
unfoldable pub addresses_meant : Option ℕ → Ternary
addresses_meant None = any_address
addresses_meant (Some k) = pattern (area_address k) 65535

-- every port, or one
unfoldable pub ports_meant : Option ℕ → Span
ports_meant None = any_number
ports_meant (Some port) = span_from port port

-- an entry: its protocol, its addresses and its destination port, and nothing else
abbrev pub entry_meant : DrawnEntry → Entry
entry_meant entry =
    record (any_entry entry.permit) {
      proto = protocols_meant entry.protocol;
      src = addresses_meant entry.source;
      dst = addresses_meant entry.destination;
      b = ports_meant entry.port ∷ [];
    }

-- the list 100 with these entries, applied inward at the interface e0
abbrev pub config_meant : List DrawnEntry → Config
config_meant entries = record {
  lists = (codes "100", map entry_meant entries) ∷ [];
  groups = record { inward = (codes "e0", codes "100") ∷ []; outward = [] };
}

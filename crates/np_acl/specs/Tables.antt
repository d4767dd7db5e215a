-- The names and numbers of protocols, ports and ICMP messages in access lists.
use Rattle.std.specs.Prelude.{◌+◌, ◌*◌, ℕ, List, [], ◌∷◌, Option, Some, None, option_map, codes, if◌then◌else◌}
use Rattle.std.specs.Map.{lookup}
use Rattle.std.specs.Option.{option_or}
use Rattle.std.specs.Str.{bytes_eq}
use Rattle.np_text.specs.Numbers.{number_of}
use Rattle.np_space.specs.Span.{span_from}
use Rattle.np_space.specs.declared.spans.Span.{Span}
use Rattle.np_acl.specs.declared.kinds.PortNames.{PortNames}
use Rattle.np_acl.specs.declared.kinds.PortNames.TheVariants.{Tcp, Udp}

-- the protocols by name
unfoldable pub protocol_table : List (List ℕ × ℕ)
protocol_table =
    (codes "icmp", 1) ∷ (codes "igmp", 2) ∷ (codes "ipinip", 4) ∷ (codes "tcp", 6) ∷ (codes "udp", 17)
    ∷ (codes "gre", 47) ∷ (codes "esp", 50) ∷ (codes "ahp", 51) ∷ (codes "eigrp", 88) ∷ (codes "ospf", 89)
    ∷ (codes "pim", 103) ∷ []

-- the ports of TCP by name
unfoldable pub tcp_table : List (List ℕ × ℕ)
tcp_table =
    (codes "ftp-data", 20) ∷ (codes "ftp", 21) ∷ (codes "telnet", 23) ∷ (codes "smtp", 25) ∷ (codes "whois", 43)
    ∷ (codes "tacacs", 49) ∷ (codes "domain", 53) ∷ (codes "gopher", 70) ∷ (codes "finger", 79) ∷ (codes "www", 80)
    ∷ (codes "pop2", 109) ∷ (codes "pop3", 110) ∷ (codes "sunrpc", 111) ∷ (codes "ident", 113) ∷ (codes "nntp", 119)
    ∷ (codes "bgp", 179) ∷ (codes "irc", 194) ∷ (codes "exec", 512) ∷ (codes "login", 513) ∷ (codes "cmd", 514)
    ∷ (codes "lpd", 515) ∷ (codes "uucp", 540) ∷ []

-- the ports of UDP by name
unfoldable pub udp_table : List (List ℕ × ℕ)
udp_table =
    (codes "domain", 53) ∷ (codes "bootps", 67) ∷ (codes "bootpc", 68) ∷ (codes "tftp", 69) ∷ (codes "sunrpc", 111)
    ∷ (codes "ntp", 123) ∷ (codes "netbios-ns", 137) ∷ (codes "netbios-dgm", 138) ∷ (codes "netbios-ss", 139)
    ∷ (codes "snmp", 161) ∷ (codes "snmptrap", 162) ∷ (codes "isakmp", 500) ∷ (codes "syslog", 514) ∷ (codes "rip", 520)
    ∷ (codes "non500-isakmp", 4500) ∷ []

-- the types of ICMP by name, each with the code where the name has one
unfoldable pub icmp_table : List (List ℕ × (ℕ × Option ℕ))
icmp_table =
    (codes "echo-reply", (0, None)) ∷ (codes "unreachable", (3, None)) ∷ (codes "net-unreachable", (3, Some 0))
    ∷ (codes "host-unreachable", (3, Some 1)) ∷ (codes "port-unreachable", (3, Some 3))
    ∷ (codes "packet-too-big", (3, Some 4)) ∷ (codes "administratively-prohibited", (3, Some 13))
    ∷ (codes "source-quench", (4, None)) ∷ (codes "redirect", (5, None)) ∷ (codes "echo", (8, None))
    ∷ (codes "time-exceeded", (11, None)) ∷ (codes "ttl-exceeded", (11, Some 0)) ∷ (codes "parameter-problem", (12, None)) ∷ []

-- the code points of differentiated services by name: class selector x is 8 x, and class x of assured forwarding with drop precedence y is 8 x + 2 y
unfoldable pub dscp_table : List (List ℕ × ℕ)
dscp_table =
    (codes "default", 0)
    ∷ (codes "cs1", 8 * 1) ∷ (codes "af11", 8 * 1 + 2 * 1) ∷ (codes "af12", 8 * 1 + 2 * 2) ∷ (codes "af13", 8 * 1 + 2 * 3)
    ∷ (codes "cs2", 8 * 2) ∷ (codes "af21", 8 * 2 + 2 * 1) ∷ (codes "af22", 8 * 2 + 2 * 2) ∷ (codes "af23", 8 * 2 + 2 * 3)
    ∷ (codes "cs3", 8 * 3) ∷ (codes "af31", 8 * 3 + 2 * 1) ∷ (codes "af32", 8 * 3 + 2 * 2) ∷ (codes "af33", 8 * 3 + 2 * 3)
    ∷ (codes "cs4", 8 * 4) ∷ (codes "af41", 8 * 4 + 2 * 1) ∷ (codes "af42", 8 * 4 + 2 * 2) ∷ (codes "af43", 8 * 4 + 2 * 3)
    ∷ (codes "cs5", 8 * 5) ∷ (codes "ef", 46) ∷ (codes "cs6", 8 * 6) ∷ (codes "cs7", 8 * 7) ∷ []

-- the precedences by name
unfoldable pub precedence_table : List (List ℕ × ℕ)
precedence_table =
    (codes "routine", 0) ∷ (codes "priority", 1) ∷ (codes "immediate", 2) ∷ (codes "flash", 3) ∷ (codes "flash-override", 4)
    ∷ (codes "critical", 5) ∷ (codes "internet", 6) ∷ (codes "network", 7) ∷ []

-- what the table gives for the word
abbrev pub named : {T : Type 0} → List (List ℕ × T) → List ℕ → Option T
named table word = lookup (bytes_eq word) table

-- a number up to max, or what the table gives
abbrev pub number_or_named : ℕ → List (List ℕ × ℕ) → List ℕ → Option ℕ
number_or_named max table word = option_or (number_of word max) (named table word)

-- the protocols of a word: `ip` has all, a number up to 255 and a name have one
unfoldable pub protocol_of : List ℕ → Option Span
protocol_of word =
    if bytes_eq word (codes "ip") then Some (span_from 0 255)
    else option_map (λ protocol. span_from protocol protocol) (number_or_named 255 protocol_table word)

-- the ports by name, of TCP or of UDP
abbrev pub port_table : PortNames → List (List ℕ × ℕ)
port_table Tcp = tcp_table
port_table Udp = udp_table

-- the port of a word, by these names
unfoldable pub port_of : List ℕ → PortNames → Option ℕ
port_of word names = number_or_named 65535 (port_table names) word

-- the type of an ICMP message, and the code where the name has one
unfoldable pub icmp_of : List ℕ → Option (ℕ × Option ℕ)
icmp_of word = named icmp_table word

-- the code point of a word: a number up to 63, or that of its name
unfoldable pub dscp_of : List ℕ → Option ℕ
dscp_of word = number_or_named 63 dscp_table word

-- the precedence of a word: a number up to 7, or that of its name
unfoldable pub precedence_of : List ℕ → Option ℕ
precedence_of word = number_or_named 7 precedence_table word

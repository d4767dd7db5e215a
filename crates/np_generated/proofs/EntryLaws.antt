-- The line of a drawn entry says the entry that is meant.
use Rattle.std.proofs.Common.{◌≡◌, ℕ, ◌<◌, Bool, true, false, List, [], ◌∷◌, ◌++◌, Option, Some, None, codes, refl, ap, subst, ◌∙◌}
use Rattle.std.specs.Prelude.{◌||◌, Ok}
use Rattle.std.specs.Fmt.{digits}
use Rattle.std.proofs.lemmas.Bool.{lt-ltb}
use Rattle.std.proofs.lemmas.List.{append-nil}
use Rattle.np_text.specs.Addresses.{dotted}
use Rattle.np_text.specs.Joined.{AreWords, is_word, joined_line}
use Rattle.np_text.specs.Numbers.{number_of}
use Rattle.np_text.proofs.JoinedLaws.{words_of-joined_line}
use Rattle.np_lines.specs.Judging.{◌>>=◌}
use Rattle.np_lines.specs.Skipping.{words_say}
use Rattle.np_space.specs.Patterns.{any_address, pattern}
use Rattle.np_space.specs.Span.{span_from}
use Rattle.np_acl.specs.Spans.{any_number}
use Rattle.np_acl.specs.declared.kinds.ListKind.TheVariants.{Extended}
use Rattle.np_entry_read.specs.Canonical as canonical
use Rattle.np_entry_read.specs.Canonical.{IsWritten, entry_words}
use Rattle.np_entry_read.proofs.CanonicalLaws.{entry_reads_back}
use Rattle.np_entry_read.proofs.WrittenWords.{entry_is_words}
use Rattle.np_acl_read.specs.declared.declared.Declared.{Declared}
use Rattle.np_acl_read.specs.declared.statement.NumberedEntry.{NumberedEntry}
use Rattle.np_acl_read.specs.declared.statement.Statement.TheVariants as statement
use Rattle.np_acl_read.specs.Adding.{entry_limit}
use Rattle.np_acl_read.specs.Judging.{entry_or_remark, line_says, line_with, list_line, list_statement, next_number, numbers_in, unnumbered}
use Rattle.np_generate.specs.ConfigLines as lines
use Rattle.np_generate.specs.ConfigLines.{entry_line}
use Rattle.np_generate.specs.declared.drawn.DrawnEntry.{DrawnEntry}
use Rattle.np_generate.specs.declared.drawn.Protocol.{Protocol}
use Rattle.np_generate.specs.declared.drawn.Protocol.TheVariants.{Ip, Tcp, Udp, Icmp}
use Rattle.np_generate.specs.Drawn.{port_at}
use Rattle.np_generated.specs.Configs.{addresses_meant, entry_meant, ports_meant, protocols_meant}
use Rattle.np_generated.proofs.DrawnLaws.{IsDrawn, IsPort, IsSomeArea, MayHavePort, same_below}

-- ---- words

protocol_same : (protocol : Protocol) → canonical.protocol_word (protocols_meant protocol) ≡ lines.protocol_word protocol
unfolding canonical.protocol_word protocols_meant span_from
protocol_same Ip = refl
protocol_same Tcp = refl
protocol_same Udp = refl
protocol_same Icmp = refl

addresses_same : (area : Option ℕ) → IsSomeArea area → canonical.address_words (addresses_meant area) ≡ lines.addresses_words area
unfolding canonical.address_words addresses_meant any_address pattern dotted digits
addresses_same None within = refl
addresses_same (Some k) within = same_below (λ k. canonical.address_words (addresses_meant (Some k))) (λ k. lines.addresses_words (Some k)) 16 k [] refl within

port_same : (port : Option ℕ) → IsPort port → canonical.port_words (ports_meant port) ≡ lines.port_words port
unfolding canonical.port_words ports_meant span_from
port_same None within = refl
port_same (Some port) within =
    subst (λ p. canonical.port_words (ports_meant (Some p)) ≡ lines.port_words (Some p)) within.is (
    same_below (λ n. canonical.port_words (ports_meant (Some (port_at n)))) (λ n. lines.port_words (Some (port_at n))) 4 within.place [] refl within.few
    )

-- the ports, or types and codes, of an entry: none without a port
numbers_same : (protocol : Protocol) (port : Option ℕ) → MayHavePort protocol port → canonical.number_words (protocols_meant protocol) any_number (ports_meant port) ≡ lines.port_words port
unfolding protocols_meant ports_meant canonical.port_words canonical.octet_words span_from
numbers_same Ip port none = rw none refl
numbers_same Tcp port within = port_same port within
numbers_same Udp port within = port_same port within
numbers_same Icmp port none = rw none refl

sources_none : (protocol : Protocol) → canonical.source_words (protocols_meant protocol) any_number ≡ []
unfolding protocols_meant canonical.port_words span_from
sources_none Ip = refl
sources_none Tcp = refl
sources_none Udp = refl
sources_none Icmp = refl

others_none : (entry : DrawnEntry) → canonical.dscp_words (entry_meant entry).dscp ++ canonical.established_words (entry_meant entry).est ≡ []
unfolding canonical.dscp_words canonical.established_words span_from
others_none entry = refl

-- the words after `permit` or `deny` are the canonical words of the entry that is meant
words_same : (entry : DrawnEntry) → IsDrawn entry →
    lines.protocol_word entry.protocol ∷ (lines.addresses_words entry.source ++ (lines.addresses_words entry.destination ++ lines.port_words entry.port)) ≡
    entry_words (entry_meant entry) any_number (ports_meant entry.port)
unfolding entry_words
words_same entry within =
    rw (
      protocol_same entry.protocol,
      addresses_same entry.source within.source,
      sources_none entry.protocol,
      addresses_same entry.destination within.destination,
      numbers_same entry.protocol entry.port within.port,
      others_none entry,
      append-nil (lines.port_words entry.port),
    ) refl

-- ---- what the canonical words say

numbers_fit : (protocol : Protocol) (port : Option ℕ) → MayHavePort protocol port → canonical.has_numbers (protocols_meant protocol) any_number (ports_meant port) ≡ true
unfolding protocols_meant ports_meant span_from
numbers_fit Ip port none = rw none refl
numbers_fit Tcp port within = refl
numbers_fit Udp port within = refl
numbers_fit Icmp port none = rw none refl

protocol_written : (protocol : Protocol) → (canonical.is_all 255 (protocols_meant protocol) || canonical.is_one 255 (protocols_meant protocol)) ≡ true
unfolding protocols_meant span_from
protocol_written Ip = refl
protocol_written Tcp = refl
protocol_written Udp = refl
protocol_written Icmp = refl

written : (entry : DrawnEntry) → IsDrawn entry → IsWritten (entry_meant entry) any_number (ports_meant entry.port)
unfolding span_from
written entry within = record {
  first = refl;
  second = refl;
  proto = protocol_written entry.protocol;
  numbers = numbers_fit entry.protocol entry.port within.port;
  dscp = refl;
  est = refl;
}

-- ---- the line

line_words : (entry : DrawnEntry) → IsDrawn entry → entry_line entry ≡ codes "access-list" ∷ codes "100" ∷ lines.action_word entry.permit ∷ entry_words (entry_meant entry) any_number (ports_meant entry.port)
unfolding entry_line
line_words entry within = ap (λ words. codes "access-list" ∷ codes "100" ∷ lines.action_word entry.permit ∷ words) (words_same entry within)

-- its words are words
pub entry_line_words : (entry : DrawnEntry) → IsDrawn entry → AreWords (entry_line entry)
entry_line_words entry within = rw (line_words entry within) (refl, (refl, (by entry.permit, entry_is_words (entry_meant entry) any_number (ports_meant entry.port)))) where
  by : (permit : Bool) → is_word (lines.action_word permit) ≡ true
  by true = refl
  by false = refl

-- the entry with this number
abbrev pub numbered_entry : DrawnEntry → ℕ → NumberedEntry
numbered_entry entry n = record { list = codes "100"; number = n; entry = entry_meant entry }

-- the line says the entry that is meant, with the next number of the list
pub entry_said : (declared : Declared) (entry : DrawnEntry) (n : ℕ) → IsDrawn entry → next_number (numbers_in declared.lists (codes "100")) ≡ Ok n → declared.entries < entry_limit
    → line_says declared (joined_line false (entry_line entry)) ≡ Ok (Some (statement.ListEntry (numbered_entry entry n)))
unfolding line_says list_line entry_or_remark number_of digits
entry_said declared entry n within next room =
    ap (words_say 33 (line_with declared)) (words_of-joined_line false (entry_line entry) (entry_line_words entry within) ∙ line_words entry within)
    ∙ by entry.permit numbered
  where
    words : List (List ℕ)
    words = entry_words (entry_meant entry) any_number (ports_meant entry.port)

    numbered : unnumbered declared (codes "100") Extended entry.permit words ≡ Ok (numbered_entry entry n)
    numbered = rw (entry_reads_back (entry_meant entry) any_number (ports_meant entry.port) (written entry within), next, lt-ltb declared.entries entry_limit room) refl

    by : (permit : Bool) → unnumbered declared (codes "100") Extended permit words ≡ Ok (numbered_entry entry n)
        → words_say 33 (line_with declared) (codes "access-list" ∷ codes "100" ∷ lines.action_word permit ∷ words) ≡ Ok (Some (statement.ListEntry (numbered_entry entry n)))
    by true is = ap (λ judged. ((judged >>= λ entry. Ok (Some entry)) >>= λ entry. Ok (list_statement (codes "100") entry)) >>= λ said. Ok (Some said)) is
    by false is = ap (λ judged. ((judged >>= λ entry. Ok (Some entry)) >>= λ entry. Ok (list_statement (codes "100") entry)) >>= λ said. Ok (Some said)) is

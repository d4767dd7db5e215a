-- What the entries of an access list match, and what a list permits.
use Rattle.std.specs.Prelude.{ℕ, Bool, true, false, ◌&&◌, List, [], ◌∷◌}
use Rattle.std.specs.List.{find, list_any}
use Rattle.std.specs.Option.{option_map_or}
use Rattle.np_space.specs.Flag.{flag_number}
use Rattle.np_space.specs.Span.{span_has}
use Rattle.np_space.specs.Patterns.{any_address}
use Rattle.np_space.specs.Ternary.{ternary_has}
use Rattle.np_space.specs.declared.headers.Header.{Header}
use Rattle.np_space.specs.declared.spans.Span.{Span}
use Rattle.np_acl.specs.declared.entries.Entry.{Entry}
use Rattle.np_acl.specs.Spans.{any_dscp, any_flag, any_number, any_protocol}

-- some of the spans has the number
abbrev pub ports_have : List Span → ℕ → Bool
ports_have spans x = list_any (λ s. span_has s x) spans

-- each field of the header is one that the entry names
abbrev pub entry_matches : Entry → Header → Bool
entry_matches e h =
    span_has e.proto h.proto && ternary_has e.src h.src && ternary_has e.dst h.dst
    && ports_have e.a h.a && ports_have e.b h.b && span_has e.est (flag_number h.est) && span_has e.dscp h.dscp

-- the entry that tests nothing, and permits or denies
abbrev pub any_entry : Bool → Entry
any_entry permit = record {
  permit = permit;
  proto = any_protocol;
  src = any_address;
  dst = any_address;
  a = any_number ∷ [];
  b = any_number ∷ [];
  est = any_flag;
  dscp = any_dscp;
}

-- some of the entries matches
abbrev pub any_matches : List Entry → Header → Bool
any_matches entries h = list_any (λ e. entry_matches e h) entries

-- what the first entry that matches says, and no where none does
abbrev pub first_says : List Entry → Header → Bool
first_says entries h = option_map_or (λ (e : Entry). e.permit) (find (λ e. entry_matches e h) entries) false

-- the first entry that matches decides, no match denies, and a list without entries permits all
abbrev pub list_permits : List Entry → Header → Bool
list_permits [] h = true
list_permits (e ∷ entries) h = first_says (e ∷ entries) h

-- An entry in its canonical words reads back.
use Rattle.std.proofs.Common.{◌≡◌, ℕ, ◌≤◌, Bool, true, false, List, [], ◌∷◌, ◌++◌, Some, None, refl, sym, ap, ◌∙◌, arith}
use Rattle.std.specs.Prelude.{◌&&◌, ◌||◌, not, ◌==◌, Ok, codes, if◌then◌else◌, unwrap_or}
use Rattle.std.specs.Fmt.{decimal}
use Rattle.std.specs.Str.{bytes_eq}
use Rattle.std.proofs.lemmas.Bool.{and_parts, eqb-true}
use Rattle.std.proofs.lemmas.Bool.Decides.{nat_tests}
use Rattle.np_text.specs.Addresses.{dotted}
use Rattle.np_text.specs.Numbers.{number_of}
use Rattle.np_text.proofs.NumberLaws.{number_of-decimal}
use Rattle.np_space.specs.Span.{span_from}
use Rattle.np_space.specs.declared.patterns.Ternary.{Ternary}
use Rattle.np_space.specs.declared.spans.Span.{Span}
use Rattle.np_acl.specs.Spans.{any_dscp, any_number}
use Rattle.np_acl.specs.Tables as tables
use Rattle.np_acl.specs.Tables.{tcp_table, udp_table, icmp_table, dscp_table}
use Rattle.np_acl.specs.declared.entries.Entry.{Entry}
use Rattle.np_acl.specs.declared.kinds.ListKind.TheVariants.{Extended}
use Rattle.np_acl.specs.declared.kinds.PortNames.{PortNames}
use Rattle.np_acl.specs.declared.kinds.PortNames.TheVariants.{Tcp, Udp}
use Rattle.np_entry_read.specs.declared.options.Asked.{Asked}
use Rattle.np_entry_read.specs.declared.options.Mark.TheVariants as marks
use Rattle.np_entry_read.specs.declared.options.OptionKind.{OptionKind}
use Rattle.np_entry_read.specs.declared.options.OptionKind.TheVariants as options
use Rattle.np_entry_read.specs.Canonical.{IsWritten, address_words, dscp_words, entry_words, established_words, has_numbers, is_all, is_one, number_words, octet_words, protocol_word, source_words}
use Rattle.np_entry_read.specs.Entries.{code_in, entry_of, extended_entry, is_protocol, message_tests, numbers_after, may_be_established, may_be_marked, options_for, options_from, options_of, port_names, port_tests}
use Rattle.np_entry_read.specs.Spans.{flag_test}
use Rattle.np_entry_read.specs.Words.{unsupported_words}
use Rattle.np_entry_read.proofs.CanonicalWords.{begins_digit, decimal_digit, dotted_digit, dotted_no_port, numeral_decimal, other_word, supported_digit, word_read}
use Rattle.np_entry_read.proofs.CanonicalParts.{EndPorts, addresses_read, all_is, one_is, one_small, ports_read, protocol_read, protocol_supported, span_of}

-- ---- what follows ports

-- addresses begin no ports
ends_address : (names : PortNames) (p : Ternary) (rest : List (List ℕ)) → EndPorts names (address_words p ++ rest)
unfolding address_words tables.port_of tcp_table udp_table number_of
ends_address names p rest = by names (p.wild == 4294967295) (p.wild == 0) where
  other : (name : List ℕ) → begins_digit name ≡ false → bytes_eq (dotted p.value) name ≡ false
  other name letter = other_word (dotted p.value) name (dotted_digit p.value) letter

  by : (names : PortNames) (all none : Bool) → EndPorts names ((if all then codes "any" ∷ [] else (if none then codes "host" ∷ dotted p.value ∷ [] else dotted p.value ∷ dotted p.wild ∷ [])) ++ rest)
  by Tcp true none = record { no_more = refl; none = refl }
  by Udp true none = record { no_more = refl; none = refl }
  by Tcp false true = record { no_more = refl; none = refl }
  by Udp false true = record { no_more = refl; none = refl }
  by names false false = record {
    no_more = rw (dotted_no_port names p.value) refl;
    none = rw (other (codes "eq") refl, other (codes "neq") refl, other (codes "lt") refl, other (codes "gt") refl, other (codes "range") refl) refl;
  }

-- nor do options
ends_options : (names : PortNames) (d e : Span) → EndPorts names (dscp_words d ++ established_words e)
unfolding dscp_words established_words tables.port_of tcp_table udp_table number_of
ends_options names d e = by names (is_all 63 d) (is_all 1 e) where
  by : (names : PortNames) (all any : Bool) → EndPorts names ((if all then [] else codes "dscp" ∷ decimal d.low ∷ []) ++ (if any then [] else codes "established" ∷ []))
  by names true true = record { no_more = refl; none = refl }
  by Tcp true false = record { no_more = refl; none = refl }
  by Udp true false = record { no_more = refl; none = refl }
  by Tcp false any = record { no_more = refl; none = refl }
  by Udp false any = record { no_more = refl; none = refl }

-- ---- types and codes

not_all : (s : Span) → is_one 255 s ≡ true → is_all 65535 s ≡ false
not_all s one = grind (arith, nat_tests)

octet_is : (n : ℕ) → n ≤ 255 → number_of (decimal n) 255 ≡ Some n
octet_is n small = number_of-decimal n 255 (omega arith) small

-- no code stands before options
no_code : (d : Span) → code_in (dscp_words d ++ []) ≡ Ok (any_number ∷ [], dscp_words d ++ [])
unfolding code_in dscp_words
no_code d = by (is_all 63 d) where
  by : (all : Bool) → code_in ((if all then [] else codes "dscp" ∷ decimal d.low ∷ []) ++ []) ≡ Ok (any_number ∷ [], (if all then [] else codes "dscp" ∷ decimal d.low ∷ []) ++ [])
  by true = refl
  by false = refl

-- nor a type
no_message : (d : Span) → message_tests (dscp_words d ++ []) ≡ Ok ((any_number ∷ [], any_number ∷ []), dscp_words d ++ [])
unfolding message_tests dscp_words tables.icmp_of icmp_table
no_message d = by (is_all 63 d) where
  by : (all : Bool) → message_tests ((if all then [] else codes "dscp" ∷ decimal d.low ∷ []) ++ []) ≡ Ok ((any_number ∷ [], any_number ∷ []), (if all then [] else codes "dscp" ∷ decimal d.low ∷ []) ++ [])
  by true = refl
  by false = refl

code_read : (b d : Span) → (is_all 65535 b || is_one 255 b) ≡ true → code_in (octet_words b ++ (dscp_words d ++ [])) ≡ Ok (b ∷ [], dscp_words d ++ [])
unfolding octet_words code_in
code_read b d fits = by (is_all 65535 b) refl fits where
  by : (all : Bool) → is_all 65535 b ≡ all → (all || is_one 255 b) ≡ true → code_in ((if all then [] else decimal b.low ∷ []) ++ (dscp_words d ++ [])) ≡ Ok (b ∷ [], dscp_words d ++ [])
  by true is one = no_code d ∙ ap (λ s. Ok (s ∷ [], dscp_words d ++ [])) (all_is 65535 b is)
  by false is one =
      let small = one_small 255 b one in
      rw (numeral_decimal b.low (omega arith), octet_is b.low small) (ap (λ s. Ok (s ∷ [], dscp_words d ++ [])) (one_is 255 b one))

-- the words of a type and a code give them
messages_read : (a b d : Span) → ((is_all 65535 a && is_all 65535 b) || (is_one 255 a && (is_all 65535 b || is_one 255 b))) ≡ true → message_tests ((octet_words a ++ octet_words b) ++ (dscp_words d ++ [])) ≡ Ok ((a ∷ [], b ∷ []), dscp_words d ++ [])
unfolding octet_words message_tests
messages_read a b d fits = by (is_all 65535 a) refl fits where
  both : is_all 65535 a ≡ true → is_all 65535 b ≡ true → message_tests (octet_words b ++ (dscp_words d ++ [])) ≡ Ok ((a ∷ [], b ∷ []), dscp_words d ++ [])
  both first second =
      rw second (no_message d ∙ (λ i. Ok ((all_is 65535 a first i ∷ [], all_is 65535 b second i ∷ []), dscp_words d ++ [])))

  not_one : is_all 65535 a ≡ true → is_one 255 a ≡ false
  not_one all = grind (arith, nat_tests)

  only_both : (x y : Bool) → (x || (false && y)) ≡ true → x ≡ true
  only_both true y is = refl
  only_both false y is = cc

  by : (all : Bool) → is_all 65535 a ≡ all → ((all && is_all 65535 b) || (is_one 255 a && (is_all 65535 b || is_one 255 b))) ≡ true
      → message_tests (((if all then [] else decimal a.low ∷ []) ++ octet_words b) ++ (dscp_words d ++ [])) ≡ Ok ((a ∷ [], b ∷ []), dscp_words d ++ [])
  by true is fits = both is (only_both (is_all 65535 b) (is_all 65535 b || is_one 255 b) (rw (not_one is) at fits))
  by false is fits =
      let parts = and_parts (is_one 255 a) (is_all 65535 b || is_one 255 b) fits in
      let small = one_small 255 a parts.0 in
      rw (numeral_decimal a.low (omega arith), octet_is a.low small, code_read b d parts.1)
      (ap (λ s. Ok ((s ∷ [], b ∷ []), dscp_words d ++ [])) (one_is 255 a parts.0))

-- ---- the numbers of an entry

-- the words after the source and after the destination give these numbers
record NumbersRead (proto a b : Span) (rest opts : List (List ℕ)) : Type 0 where
  from : List Span
  source : port_tests (port_names proto) (source_words proto a ++ rest) ≡ Ok (from, rest)
  after : numbers_after proto from (number_words proto a b ++ opts) ≡ Ok ((a ∷ [], b ∷ []), opts)

not_both : (proto : Span) (n m : ℕ) → (n == m) ≡ false → is_protocol n proto ≡ true → is_protocol m proto ≡ false
not_both proto n m apart is =
    let low = eqb-true proto.low n (and_parts (proto.low == n) (proto.high == n) is).0 in
    rw (low, apart) refl

numbers_read : (proto a b : Span) (rest : List (List ℕ)) (d e : Span) → has_numbers proto a b ≡ true → (is_protocol 6 proto ≡ false → is_all 1 e ≡ true)
    → EndPorts Tcp rest → EndPorts Udp rest → NumbersRead proto a b rest (dscp_words d ++ established_words e)
unfolding port_tests established_words
numbers_read proto a b rest d e fits plain tcp udp = by_6 (is_protocol 6 proto) refl where
  opts : List (List ℕ)
  opts = dscp_words d ++ established_words e

  by_1 : (b1 : Bool) → is_protocol 6 proto ≡ false → is_protocol 17 proto ≡ false → is_protocol 1 proto ≡ b1 → NumbersRead proto a b rest opts
  by_1 true six seventeen one =
      let numbers = rw (six, seventeen, one) at fits in
      record {
        from = any_number ∷ [];
        source = rw (six, seventeen) refl;
        after = rw (one, plain six) (messages_read a b d numbers);
      }
  by_1 false six seventeen one =
      let numbers = rw (six, seventeen, one) at fits in
      let parts = and_parts (is_all 65535 a) (is_all 65535 b) numbers in
      record {
        from = any_number ∷ [];
        source = rw (six, seventeen) refl;
        after = rw (one, six, seventeen) (λ i. Ok ((all_is 65535 a parts.0 i ∷ [], all_is 65535 b parts.1 i ∷ []), opts));
      }

  by_17 : (b17 : Bool) → is_protocol 6 proto ≡ false → is_protocol 17 proto ≡ b17 → NumbersRead proto a b rest opts
  by_17 true six seventeen = record {
    from = a ∷ [];
    source = rw (six, seventeen) (ports_read Udp a rest udp);
    after = rw (not_both proto 17 1 refl seventeen, six, seventeen, ports_read Udp b opts (ends_options Udp d e)) refl;
  }
  by_17 false six seventeen = by_1 (is_protocol 1 proto) six seventeen refl

  by_6 : (b6 : Bool) → is_protocol 6 proto ≡ b6 → NumbersRead proto a b rest opts
  by_6 true six = record {
    from = a ∷ [];
    source = rw six (ports_read Tcp a rest tcp);
    after = rw (not_both proto 6 1 refl six, six, ports_read Tcp b opts (ends_options Tcp d e)) refl;
  }
  by_6 false six = by_17 (is_protocol 17 proto) six refl

-- ---- options

code_point : (n : ℕ) → n ≤ 63 → tables.dscp_of (decimal n) ≡ Some n
unfolding tables.dscp_of
code_point n small = rw (number_of-decimal n 63 (omega arith) small) refl

-- what the options of an entry ask for
abbrev asked_of : Span → Span → Asked
asked_of d e = record { established = not (is_all 1 e); dscp = if is_all 63 d then None else Some d; waiting = None }

options_read : (kind : OptionKind) (d e : Span) → (is_all 63 d || is_one 63 d) ≡ true → may_be_marked kind ≡ true → (is_all 1 e || may_be_established kind) ≡ true → options_of kind (dscp_words d ++ established_words e) ≡ Ok (asked_of d e)
unfolding options_of dscp_words established_words unsupported_words
options_read kind d e fits mark flag = by kind (is_all 63 d) refl (is_all 1 e) fits mark flag where
  value : (kind : OptionKind) (words : List (List ℕ)) → is_one 63 d ≡ true → options_from kind (record { established = false; dscp = None; waiting = Some marks.Dscp }) (decimal d.low ∷ words) ≡ options_from kind (record { established = false; dscp = Some d; waiting = None }) words
  value kind words one =
      let small = one_small 63 d one in
      rw (supported_digit (decimal d.low) (decimal_digit d.low (omega arith)), code_point d.low small)
      (ap (λ s. options_from kind (record { established = false; dscp = Some s; waiting = None }) words) (one_is 63 d one))

  by : (kind : OptionKind) (all : Bool) → is_all 63 d ≡ all → (any : Bool) → (all || is_one 63 d) ≡ true → may_be_marked kind ≡ true → (any || may_be_established kind) ≡ true
      → options_of kind ((if all then [] else codes "dscp" ∷ decimal d.low ∷ []) ++ (if any then [] else codes "established" ∷ [])) ≡ Ok (record { established = not any; dscp = if all then None else Some d; waiting = None })
  by options.Standard all is any fits mark flag = cc
  by options.Extended true is true fits mark flag = refl
  by options.Extended true is false fits mark flag = cc
  by options.Extended false is true fits mark flag = value options.Extended [] fits
  by options.Extended false is false fits mark flag = cc
  by options.Tcp true is true fits mark flag = refl
  by options.Tcp true is false fits mark flag = refl
  by options.Tcp false is true fits mark flag = value options.Tcp [] fits
  by options.Tcp false is false fits mark flag = value options.Tcp (codes "established" ∷ []) fits

-- ---- the whole

dscp_named : (d : Span) → unwrap_or (if is_all 63 d then None else Some d) any_dscp ≡ d
dscp_named d = by (is_all 63 d) refl where
  by : (b : Bool) → is_all 63 d ≡ b → unwrap_or (if b then None else Some d) any_dscp ≡ d
  by true is = all_is 63 d is
  by false is = refl

flag_named : (e proto : Span) → (is_all 1 e || (e.low == 1 && e.high == 1 && is_protocol 6 proto)) ≡ true → flag_test (not (is_all 1 e)) ≡ e
flag_named e proto fits = by (is_all 1 e) refl fits where
  by : (b : Bool) → is_all 1 e ≡ b → (b || (e.low == 1 && e.high == 1 && is_protocol 6 proto)) ≡ true → flag_test (not b) ≡ e
  by true is fits = all_is 1 e is
  by false is fits = let one = and_parts (e.low == 1 && e.high == 1) (is_protocol 6 proto) fits in one_number (and_parts (e.low == 1) (e.high == 1) one.0).0 (and_parts (e.low == 1) (e.high == 1) one.0).1
    where
      one_number : (e.low == 1) ≡ true → (e.high == 1) ≡ true → span_from 1 1 ≡ e
      one_number low high = span_of e 1 1 (eqb-true e.low 1 low) (eqb-true e.high 1 high)

plain_flag : (e proto : Span) → (is_all 1 e || (e.low == 1 && e.high == 1 && is_protocol 6 proto)) ≡ true → is_protocol 6 proto ≡ false → is_all 1 e ≡ true
plain_flag e proto fits six = by (is_all 1 e) (e.low == 1 && e.high == 1) (is_protocol 6 proto) fits six where
  by : (all one six : Bool) → (all || (one && six)) ≡ true → six ≡ false → all ≡ true
  by true one six fits none = refl
  by false true six fits none = cc
  by false false six fits none = cc

flag_allowed : (e proto : Span) → (is_all 1 e || (e.low == 1 && e.high == 1 && is_protocol 6 proto)) ≡ true → (is_all 1 e || may_be_established (options_for proto)) ≡ true
flag_allowed e proto fits = by (is_all 1 e) (e.low == 1 && e.high == 1) (is_protocol 6 proto) fits where
  by : (all one six : Bool) → (all || (one && six)) ≡ true → (all || may_be_established (if six then options.Tcp else options.Extended)) ≡ true
  by true one six fits = refl
  by false true true fits = refl
  by false true false fits = cc
  by false false six fits = cc

mark_allowed : (proto : Span) → may_be_marked (options_for proto) ≡ true
mark_allowed proto = by (is_protocol 6 proto) where
  by : (six : Bool) → may_be_marked (if six then options.Tcp else options.Extended) ≡ true
  by true = refl
  by false = refl

-- an entry in its canonical words is read as this entry
pub entry_reads_back : (e : Entry) (a b : Span) → IsWritten e a b → entry_of Extended e.permit (entry_words e a b) ≡ Ok e
unfolding extended_entry entry_words
entry_reads_back e a b w =
    let opts = dscp_words e.dscp ++ established_words e.est in
    let rest = number_words e.proto a b ++ opts in
    let numbers = numbers_read e.proto a b (address_words e.dst ++ rest) e.dscp e.est w.numbers (plain_flag e.est e.proto w.est) (ends_address Tcp e.dst rest) (ends_address Udp e.dst rest) in
    rw (
      word_read (protocol_word e.proto) (address_words e.src ++ (source_words e.proto a ++ (address_words e.dst ++ rest))) (protocol_supported e.proto),
      protocol_read e.proto w.proto,
      addresses_read e.src (source_words e.proto a ++ (address_words e.dst ++ rest)),
      numbers.source,
      addresses_read e.dst rest,
      numbers.after,
      options_read (options_for e.proto) e.dscp e.est w.dscp (mark_allowed e.proto) (flag_allowed e.est e.proto w.est),
    ) (λ i. Ok (record {
      permit = e.permit;
      proto = e.proto;
      src = e.src;
      dst = e.dst;
      a = sym w.first i;
      b = sym w.second i;
      est = flag_named e.est e.proto w.est i;
      dscp = dscp_named e.dscp i;
    }))

-- The canonical words of a predicate read back as the predicate.
use Rattle.std.proofs.Common.{◌≡◌, ◌≢◌, ℕ, ◌+◌, ◌-◌, ◌<◌, ◌==◌, Bool, true, false, cond, List, [], ◌∷◌, ◌++◌, length, get_or, max, Some, None, Ok, codes, sym, refl, ap, ◌∙◌, arith, append_assoc, append-nil, length-append, ltb}
use Rattle.std.specs.Char.{is_ascii_digit, is_ascii_alphabetic}
use Rattle.std.specs.Fmt.{decimal}
use Rattle.std.specs.Int.{w32, to_be_bytes}
use Rattle.std.specs.Str.{bytes_eq}
use Rattle.std.proofs.lemmas.Bool.{eqb-true, ltb-true}
use Rattle.std.proofs.lemmas.Bool.Decides.{nat_tests}
use Rattle.np_text.specs.Addresses.{dotted}
use Rattle.np_text.specs.Numbers.{number_of}
use Rattle.np_text.proofs.AddressLaws.{dotted-bytes}
use Rattle.np_text.proofs.NumberLaws.{number_of-decimal}
use Rattle.np_space.specs.declared.patterns.Ternary.{Ternary}
use Rattle.np_space.specs.declared.spans.Span.{Span}
use Rattle.np_pred.specs.declared.predicate.Pred.{Pred}
use Rattle.np_pred.specs.declared.predicate.Pred.TheVariants as pred
use Rattle.np_pred.specs.declared.keywords.Field.{Field}
use Rattle.np_pred.specs.declared.keywords.Field.TheVariants as field
use Rattle.np_pred.specs.Areas.{AreaList}
use Rattle.np_pred.specs.Canonical.{protocol_words, words_step, pred_words}
use Rattle.np_pred.specs.Forms.{prefixes_step, octets_step, nesting_step, has_prefixes, has_octets, nesting, IsWellFormed}
use Rattle.np_pred.specs.Keywords.{constant_of, field_of, operator_of}
use Rattle.np_pred.specs.Patterns.{are_prefixes, addresses_of, addresses_text, prefix_text, patterns_of}
use Rattle.np_pred.specs.declared.dscp.DscpSpan.{DscpSpan}
use Rattle.np_pred.specs.Dscp.{dscp_text}
use Rattle.np_pred.specs.Ports.{ports_text}
use Rattle.np_pred.specs.Reading.{rest_from, is_area_name, sources_of, argument_of, argument_at, begun_at, pred_at, pred_of}
use Rattle.np_pred.proofs.Induction.{IsInductive, by_induction, fold-Any, fold-Nothing, fold-Proto, fold-Src, fold-Dst, fold-SrcPort, fold-DstPort, fold-IcmpType, fold-IcmpCode, fold-Dscp, fold-Established, fold-Not, fold-And, fold-Or}
use Rattle.np_pred.proofs.PatternLaws.{addresses_text-some}
use Rattle.np_pred.proofs.ReadLaws.{read-whole, read-not, read-and, read-or}
use Rattle.np_pred.proofs.TextBackLaws.{BeginsWithDigit, decimal_begins, begins_before, both_true, split_texts, patterns_of-texts, ports_of-text, dscp_span_of-text}

-- a list of words
abbrev Words : Type 0
Words = List (List ℕ)

-- ---- addresses

-- a digit is no letter
digit_no_letter : (b : ℕ) → is_ascii_digit b ≡ true → is_ascii_alphabetic b ≡ false
digit_no_letter b h = grind (arith, nat_tests)

-- a digit is no `n`
digit_no_n : (b : ℕ) → is_ascii_digit b ≡ true → (b == 110) ≡ false
digit_no_n b h = grind (arith, nat_tests)

-- equal lists begin alike
begins_same : (xs ys : List ℕ) → xs ≡ ys → BeginsWithDigit ys → BeginsWithDigit xs
begins_same xs ys e h = record { first = h.first; rest = h.rest; whole = e ∙ h.whole; digit = h.digit }

-- an address begins with a digit
dotted_begins : (v : ℕ) → BeginsWithDigit (dotted v)
dotted_begins v =
    let octets = to_be_bytes w32 v in
    begins_same (dotted v) _ (dotted-bytes v octets refl) (begins_before _ _ (begins_before (decimal (get_or octets 0 0)) (46 ∷ []) (decimal_begins (get_or octets 0 0) (omega arith))))

-- a list of prefixes begins with a digit
pub addresses_begin : (p : Ternary) (ps : List Ternary) → BeginsWithDigit (addresses_text (p ∷ ps))
addresses_begin p ps = begins_same (addresses_text (p ∷ ps)) _ (addresses_text-some p ps) (begins_before (prefix_text p) _ (begins_before (dotted p.value) _ (dotted_begins p.value)))

-- what begins with a digit is no area's name
digit_no_area : (xs : List ℕ) → BeginsWithDigit xs → is_area_name xs ≡ false
digit_no_area xs h = rw (h.whole, digit_no_letter h.first h.digit) refl

-- and it is not `none`
digit_not_none : (xs : List ℕ) → BeginsWithDigit xs → bytes_eq xs (codes "none") ≡ false
digit_not_none xs h = rw (h.whole, digit_no_n h.first h.digit) refl

-- no canonical list of addresses is an area's name
no_area : (ps : List Ternary) → is_area_name (addresses_text ps) ≡ false
unfolding addresses_text
no_area [] = refl
no_area (p ∷ ps) = digit_no_area _ (addresses_begin p ps)

-- a canonical list of addresses reads back
pub addresses_of-text : (ps : List Ternary) → are_prefixes ps ≡ true → addresses_of (addresses_text ps) ≡ Some ps
unfolding addresses_of addresses_text
addresses_of-text [] h = refl
addresses_of-text (p ∷ ps) h = rw (digit_not_none _ (addresses_begin p ps)) (ap patterns_of (split_texts p ps) ∙ patterns_of-texts (p ∷ ps) h)

-- the same where areas have names
sources_of-text : (areas : AreaList) (at : ℕ) (ps : List Ternary) → are_prefixes ps ≡ true → sources_of areas at (addresses_text ps) ≡ Ok ps
unfolding sources_of
sources_of-text areas at ps h = rw (no_area ps, addresses_of-text ps h) refl

-- ---- the predicates without operands

module _ (areas : AreaList) (levels at : ℕ) (some : levels ≢ 0) (rest : Words) where
  -- these words in front are read as the predicate
  abbrev IsRead : Pred → Words → Type 0
  IsRead p words = pred_at areas levels (rest_from at (words ++ rest)) ≡ Ok (p, rest_from (at + length words) rest)

  -- a predicate of one word
  read_constant : (word : List ℕ) (p : Pred) → constant_of word ≡ Some p → IsRead p (word ∷ [])
  unfolding begun_at
  read_constant word p e = read-whole areas levels some (rest_from at (word ∷ rest)) (rest_from (at + 1) rest) p (rw e refl)

  -- a field and its argument
  read_field : (word text : List ℕ) (f : Field) (p : Pred) → constant_of word ≡ None → field_of word ≡ Some f → argument_of areas f (at + 1) text ≡ Ok p → IsRead p (word ∷ text ∷ [])
  unfolding begun_at argument_at
  read_field word text f p c e a =
      let place : at + 1 + 1 ≡ at + 2 = omega arith in
      read-whole areas levels some (rest_from at (word ∷ text ∷ rest)) (rest_from (at + 1 + 1) rest) p (rw (c, e, a) refl)
      ∙ ap (λ n. Ok (p, rest_from n rest)) place

  module _ (n : ℕ) (small : n < 256) where
    -- a number of one byte reads back
    octet_read : number_of (decimal n) 255 ≡ Some n
    octet_read = number_of-decimal n 255 (omega arith) (omega arith)

    -- a protocol with a name
    read_named : (m : ℕ) (word : List ℕ) → constant_of word ≡ Some (pred.Proto m) → n ≡ m → IsRead (pred.Proto n) (word ∷ [])
    read_named m word e same = rw same (read_constant word (pred.Proto m) e)

    -- a protocol by its number
    read_numbered : IsRead (pred.Proto n) (codes "proto" ∷ decimal n ∷ [])
    unfolding constant_of field_of argument_of
    read_numbered = read_field (codes "proto") (decimal n) field.Proto (pred.Proto n) refl refl (rw octet_read refl)

    -- a protocol, by whether it has a name
    read_by_tests : (a b c : Bool) → (n == 1) ≡ a → (n == 6) ≡ b → (n == 17) ≡ c → IsRead (pred.Proto n) (cond a (codes "icmp" ∷ []) (cond b (codes "tcp" ∷ []) (cond c (codes "udp" ∷ []) (codes "proto" ∷ decimal n ∷ []))))
    unfolding constant_of
    read_by_tests true b c x y z = read_named 1 (codes "icmp") refl (eqb-true n 1 x)
    read_by_tests false true c x y z = read_named 6 (codes "tcp") refl (eqb-true n 6 y)
    read_by_tests false false true x y z = read_named 17 (codes "udp") refl (eqb-true n 17 z)
    read_by_tests false false false x y z = read_numbered

    -- a protocol
    read_protocol : IsRead (pred.Proto n) (protocol_words n)
    unfolding protocol_words
    read_protocol = read_by_tests (n == 1) (n == 6) (n == 17) refl refl refl

    -- a type of ICMP
    read_type : IsRead (pred.IcmpType n) (codes "type" ∷ decimal n ∷ [])
    unfolding constant_of field_of argument_of
    read_type = read_field (codes "type") (decimal n) field.IcmpType (pred.IcmpType n) refl refl (rw octet_read refl)

    -- a code of ICMP
    read_code : IsRead (pred.IcmpCode n) (codes "code" ∷ decimal n ∷ [])
    unfolding constant_of field_of argument_of
    read_code = read_field (codes "code") (decimal n) field.IcmpCode (pred.IcmpCode n) refl refl (rw octet_read refl)

  -- source ports
  read_sport : (s : Span) → IsRead (pred.SrcPort s) (codes "sport" ∷ ports_text s ∷ [])
  unfolding constant_of field_of argument_of
  read_sport s = read_field (codes "sport") (ports_text s) field.SrcPort (pred.SrcPort s) refl refl (rw (ports_of-text s) refl)

  -- destination ports
  read_dport : (s : Span) → IsRead (pred.DstPort s) (codes "dport" ∷ ports_text s ∷ [])
  unfolding constant_of field_of argument_of
  read_dport s = read_field (codes "dport") (ports_text s) field.DstPort (pred.DstPort s) refl refl (rw (ports_of-text s) refl)

  -- DSCP values
  read_dscp : (s : DscpSpan) → IsRead (pred.Dscp s) (codes "dscp" ∷ dscp_text s ∷ [])
  unfolding constant_of field_of argument_of
  read_dscp s = read_field (codes "dscp") (dscp_text s) field.Dscp (pred.Dscp s) refl refl (rw (dscp_span_of-text s) refl)

  -- source addresses
  read_src : (ps : List Ternary) → are_prefixes ps ≡ true → IsRead (pred.Src ps) (codes "src" ∷ addresses_text ps ∷ [])
  unfolding constant_of field_of argument_of
  read_src ps h = read_field (codes "src") (addresses_text ps) field.Src (pred.Src ps) refl refl (rw (sources_of-text areas (at + 1) ps h) refl)

  -- destination addresses
  read_dst : (ps : List Ternary) → are_prefixes ps ≡ true → IsRead (pred.Dst ps) (codes "dst" ∷ addresses_text ps ∷ [])
  unfolding constant_of field_of argument_of
  read_dst ps h = read_field (codes "dst") (addresses_text ps) field.Dst (pred.Dst ps) refl refl (rw (sources_of-text areas (at + 1) ps h) refl)

-- ---- all predicates

-- the words of the predicate read back, whatever words follow and wherever they stand
abbrev pub IsReadBack : Pred → Type 0
IsReadBack p = (areas : AreaList) (levels at : ℕ) (rest : Words) → IsWellFormed levels p → pred_at areas levels (rest_from at (pred_words p ++ rest)) ≡ Ok (p, rest_from (at + length (pred_words p)) rest)

-- a predicate without operands
leaf : (p : Pred) (words : Words) → nesting p ≡ 1 → pred_words p ≡ words → ((areas : AreaList) (levels at : ℕ) (some : levels ≢ 0) (rest : Words) → IsWellFormed levels p → IsRead areas levels at some rest p words) → IsReadBack p
leaf p words one same h areas levels at rest wf = rw same (h areas levels at (λ z. absurd (omega (arith, one, wf.nested, z))) rest wf)

-- the test of a number of one byte
octet_of-test : (n : ℕ) → ltb n 256 ≡ true → n < 256
octet_of-test n h = ltb-true n 256 h

-- `not`
not_back : (p : Pred) → IsReadBack p → IsReadBack (pred.Not p)
unfolding begun_at constant_of field_of operator_of
not_back p h areas levels at rest wf =
    let deep : nesting (pred.Not p) ≡ nesting p + 1 = fold-Not ℕ nesting_step p in
    let inner : IsWellFormed (levels - 1) p = record {
      prefixes = sym (fold-Not Bool prefixes_step p) ∙ wf.prefixes;
      octets = sym (fold-Not Bool octets_step p) ∙ wf.octets;
      nested = omega (arith, deep, wf.nested);
    } in
    let place : at + 1 + length (pred_words p) ≡ at + length (codes "not" ∷ pred_words p) = omega arith in
    rw (fold-Not Words words_step p)
    (read-not areas levels (λ z. absurd (omega (arith, deep, wf.nested, z))) (rest_from at (codes "not" ∷ (pred_words p ++ rest))) (rest_from (at + 1) (pred_words p ++ rest)) p (rest_from (at + 1 + length (pred_words p)) rest) refl (h areas (levels - 1) (at + 1) rest inner)
    ∙ ap (λ n. Ok (pred.Not p, rest_from n rest)) place)

-- `and`
and_back : (p q : Pred) → IsReadBack p → IsReadBack q → IsReadBack (pred.And p q)
unfolding begun_at constant_of field_of operator_of
and_back p q h k areas levels at rest wf =
    let deep : nesting (pred.And p q) ≡ max (nesting p) (nesting q) + 1 = fold-And ℕ nesting_step p q in
    let prefixes = both_true (has_prefixes p) (has_prefixes q) (sym (fold-And Bool prefixes_step p q) ∙ wf.prefixes) in
    let octets = both_true (has_octets p) (has_octets q) (sym (fold-And Bool octets_step p q) ∙ wf.octets) in
    let first : IsWellFormed (levels - 1) p = record { prefixes = prefixes.0; octets = octets.0; nested = omega (arith, deep, wf.nested) } in
    let second : IsWellFormed (levels - 1) q = record { prefixes = prefixes.1; octets = octets.1; nested = omega (arith, deep, wf.nested) } in
    let place : at + 1 + length (pred_words p) + length (pred_words q) ≡ at + length (codes "and" ∷ (pred_words p ++ pred_words q)) = omega (arith, length-append (pred_words p) (pred_words q)) in
    rw (fold-And Words words_step p q, append_assoc (pred_words p) (pred_words q) rest)
    (read-and areas levels (λ z. absurd (omega (arith, deep, wf.nested, z))) (rest_from at (codes "and" ∷ (pred_words p ++ (pred_words q ++ rest)))) (rest_from (at + 1) (pred_words p ++ (pred_words q ++ rest))) p q
    (rest_from (at + 1 + length (pred_words p)) (pred_words q ++ rest)) (rest_from (at + 1 + length (pred_words p) + length (pred_words q)) rest) refl
    (h areas (levels - 1) (at + 1) (pred_words q ++ rest) first) (k areas (levels - 1) (at + 1 + length (pred_words p)) rest second)
    ∙ ap (λ n. Ok (pred.And p q, rest_from n rest)) place)

-- `or`
or_back : (p q : Pred) → IsReadBack p → IsReadBack q → IsReadBack (pred.Or p q)
unfolding begun_at constant_of field_of operator_of
or_back p q h k areas levels at rest wf =
    let deep : nesting (pred.Or p q) ≡ max (nesting p) (nesting q) + 1 = fold-Or ℕ nesting_step p q in
    let prefixes = both_true (has_prefixes p) (has_prefixes q) (sym (fold-Or Bool prefixes_step p q) ∙ wf.prefixes) in
    let octets = both_true (has_octets p) (has_octets q) (sym (fold-Or Bool octets_step p q) ∙ wf.octets) in
    let first : IsWellFormed (levels - 1) p = record { prefixes = prefixes.0; octets = octets.0; nested = omega (arith, deep, wf.nested) } in
    let second : IsWellFormed (levels - 1) q = record { prefixes = prefixes.1; octets = octets.1; nested = omega (arith, deep, wf.nested) } in
    let place : at + 1 + length (pred_words p) + length (pred_words q) ≡ at + length (codes "or" ∷ (pred_words p ++ pred_words q)) = omega (arith, length-append (pred_words p) (pred_words q)) in
    rw (fold-Or Words words_step p q, append_assoc (pred_words p) (pred_words q) rest)
    (read-or areas levels (λ z. absurd (omega (arith, deep, wf.nested, z))) (rest_from at (codes "or" ∷ (pred_words p ++ (pred_words q ++ rest)))) (rest_from (at + 1) (pred_words p ++ (pred_words q ++ rest))) p q
    (rest_from (at + 1 + length (pred_words p)) (pred_words q ++ rest)) (rest_from (at + 1 + length (pred_words p) + length (pred_words q)) rest) refl
    (h areas (levels - 1) (at + 1) (pred_words q ++ rest) first) (k areas (levels - 1) (at + 1 + length (pred_words p)) rest second)
    ∙ ap (λ n. Ok (pred.Or p q, rest_from n rest)) place)

-- by cases on the form of predicate
pub read_back_inductive : IsInductive IsReadBack
unfolding constant_of
read_back_inductive = record {
  at-Any = leaf pred.Any _ (fold-Any ℕ nesting_step) (fold-Any Words words_step) (λ areas levels at some rest wf. read_constant areas levels at some rest (codes "any") pred.Any refl);
  at-Nothing = leaf pred.Nothing _ (fold-Nothing ℕ nesting_step) (fold-Nothing Words words_step) (λ areas levels at some rest wf. read_constant areas levels at some rest (codes "nothing") pred.Nothing refl);
  at-Established = leaf pred.Established _ (fold-Established ℕ nesting_step) (fold-Established Words words_step) (λ areas levels at some rest wf. read_constant areas levels at some rest (codes "established") pred.Established refl);
  at-Proto = λ x. leaf (pred.Proto x) _ (fold-Proto ℕ nesting_step x) (fold-Proto Words words_step x) (λ areas levels at some rest wf. read_protocol areas levels at some rest x (octet_of-test x (sym (fold-Proto Bool octets_step x) ∙ wf.octets)));
  at-IcmpType = λ x. leaf (pred.IcmpType x) _ (fold-IcmpType ℕ nesting_step x) (fold-IcmpType Words words_step x) (λ areas levels at some rest wf. read_type areas levels at some rest x (octet_of-test x (sym (fold-IcmpType Bool octets_step x) ∙ wf.octets)));
  at-IcmpCode = λ x. leaf (pred.IcmpCode x) _ (fold-IcmpCode ℕ nesting_step x) (fold-IcmpCode Words words_step x) (λ areas levels at some rest wf. read_code areas levels at some rest x (octet_of-test x (sym (fold-IcmpCode Bool octets_step x) ∙ wf.octets)));
  at-Src = λ x. leaf (pred.Src x) _ (fold-Src ℕ nesting_step x) (fold-Src Words words_step x) (λ areas levels at some rest wf. read_src areas levels at some rest x (sym (fold-Src Bool prefixes_step x) ∙ wf.prefixes));
  at-Dst = λ x. leaf (pred.Dst x) _ (fold-Dst ℕ nesting_step x) (fold-Dst Words words_step x) (λ areas levels at some rest wf. read_dst areas levels at some rest x (sym (fold-Dst Bool prefixes_step x) ∙ wf.prefixes));
  at-SrcPort = λ x. leaf (pred.SrcPort x) _ (fold-SrcPort ℕ nesting_step x) (fold-SrcPort Words words_step x) (λ areas levels at some rest wf. read_sport areas levels at some rest x);
  at-DstPort = λ x. leaf (pred.DstPort x) _ (fold-DstPort ℕ nesting_step x) (fold-DstPort Words words_step x) (λ areas levels at some rest wf. read_dport areas levels at some rest x);
  at-Dscp = λ x. leaf (pred.Dscp x) _ (fold-Dscp ℕ nesting_step x) (fold-Dscp Words words_step x) (λ areas levels at some rest wf. read_dscp areas levels at some rest x);
  at-Not = not_back;
  at-And = and_back;
  at-Or = or_back;
}

-- the words of a predicate, read at the front of any others
pub pred_at-words : (p : Pred) → IsReadBack p
pred_at-words = by_induction IsReadBack read_back_inductive

-- the words of a predicate, read as all words
pub pred_of_words : (areas : AreaList) (p : Pred) → IsWellFormed 64 p → pred_of areas (pred_words p) ≡ Ok p
unfolding pred_of
pred_of_words areas p wf =
    rw (ap (λ words. pred_at areas 64 (rest_from 0 words)) (sym (append-nil (pred_words p))) ∙ pred_at-words p areas 64 0 [] wf) refl

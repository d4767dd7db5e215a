-- Written forms are plain words: numbers, lists of prefixes, and the canonical words of predicates.
use Rattle.std.proofs.Common.{◌≡◌, ℕ, ◌-◌, ◌^◌, ◌<◌, ◌≤◌, ◌==◌, Bool, true, false, cond, List, [], ◌∷◌, ◌++◌, length, get_or, codes, count_ones, sym, refl, ap, ◌∙◌, arith}
use Rattle.std.specs.Char.{is_ascii_digit}
use Rattle.std.specs.Fmt.{decimal}
use Rattle.std.specs.Int.{w32, to_be_bytes}
use Rattle.std.specs.List.{list_all, flat_map}
use Rattle.std.specs.Str.{all_ascii_digits}
use Rattle.std.proofs.lemmas.Bool.{lt-ltb, ltb-true}
use Rattle.std.proofs.lemmas.Bool.Decides.{nat_tests}
use Rattle.std.proofs.lemmas.Fmt.{digits_decimal}
use Rattle.std.proofs.lemmas.List.Folds.{list_all-append}
use Rattle.np_text.specs.Addresses.{dotted}
use Rattle.np_text.proofs.AddressLaws.{dotted-bytes}
use Rattle.np_text.proofs.NumberLaws.{digits_by_test}
use Rattle.np_space.specs.declared.patterns.Ternary.{Ternary}
use Rattle.np_space.specs.declared.spans.Span.{Span}
use Rattle.np_pred.specs.declared.predicate.Pred.{Pred}
use Rattle.np_pred.specs.Canonical.{protocol_words, words_step, pred_words}
use Rattle.np_pred.specs.Forms.{octets_step, has_octets}
use Rattle.np_pred.specs.Patterns.{addresses_text, prefix_text}
use Rattle.np_pred.specs.Bounds.{bounds_text}
use Rattle.np_pred.specs.Dscp.{dscp_text}
use Rattle.np_pred.specs.Ports.{ports_text}
use Rattle.np_pred.specs.declared.dscp.DscpSpan.{DscpSpan}
use Rattle.np_pred.proofs.Induction.{IsInductive, by_induction, fold-Any, fold-Nothing, fold-Proto, fold-Src, fold-Dst, fold-SrcPort, fold-DstPort, fold-IcmpType, fold-IcmpCode, fold-Dscp, fold-Established, fold-Not, fold-And, fold-Or}
use Rattle.np_pred.proofs.PatternLaws.{addresses_text-some}
use Rattle.np_pred.proofs.TextBackLaws.{BeginsWithDigit, decimal_begins, begins_before, both_true}
use Rattle.np_pred.proofs.ReadBackLaws.{addresses_begin}
use Rattle.np_net.specs.Names.{is_file_byte, is_file_name}
use Rattle.np_net_read.specs.Words.{ArePlainWords}
use Rattle.np_net_text.proofs.PlainWords.{plain_append}

abbrev Words : Type 0
Words = List (List ℕ)

-- ---- numbers and prefixes

digit_printable : (b : ℕ) → is_ascii_digit b ≡ true → is_file_byte b ≡ true
digit_printable b h = grind (arith, nat_tests)

digits_printable : (ds : List ℕ) → all_ascii_digits ds ≡ true → list_all is_file_byte ds ≡ true
digits_printable [] h = refl
digits_printable (b ∷ bs) h = let each = both_true (is_ascii_digit b) (all_ascii_digits bs) h in rw (digit_printable b each.0, digits_printable bs each.1) refl

decimal_printable : (n : ℕ) → n < 2 ^ 64 → list_all is_file_byte (decimal n) ≡ true
decimal_printable n small = digits_printable (decimal n) (digits_decimal digits_by_test n small)

append_printable : (xs ys : List ℕ) → list_all is_file_byte xs ≡ true → list_all is_file_byte ys ≡ true → list_all is_file_byte (xs ++ ys) ≡ true
append_printable xs ys h k = rw (list_all-append is_file_byte xs ys, h, k) refl

dotted_printable : (v : ℕ) → list_all is_file_byte (dotted v) ≡ true
dotted_printable v =
    let octets = to_be_bytes w32 v in
    let part : (n : ℕ) → n < 2 ^ 64 → list_all is_file_byte (decimal n ++ 46 ∷ []) ≡ true = λ n small. append_printable (decimal n) (46 ∷ []) (decimal_printable n small) refl in
    let a = decimal (get_or octets 0 0) ++ 46 ∷ [] in
    let b = decimal (get_or octets 1 0) ++ 46 ∷ [] in
    let c = decimal (get_or octets 2 0) ++ 46 ∷ [] in
    let d = decimal (get_or octets 3 0) in
    rw (dotted-bytes v octets refl)
    (append_printable a (b ++ (c ++ d)) (part (get_or octets 0 0) (omega arith))
    (append_printable b (c ++ d) (part (get_or octets 1 0) (omega arith))
    (append_printable c d (part (get_or octets 2 0) (omega arith)) (decimal_printable (get_or octets 3 0) (omega arith)))))

prefix_printable : (p : Ternary) → list_all is_file_byte (prefix_text p) ≡ true
prefix_printable p =
    append_printable (dotted p.value) (47 ∷ decimal (32 - count_ones p.wild)) (dotted_printable p.value) (decimal_printable (32 - count_ones p.wild) (omega arith))

rest_printable : (ps : List Ternary) → list_all is_file_byte (flat_map (λ p. 44 ∷ prefix_text p) ps) ≡ true
rest_printable [] = refl
rest_printable (p ∷ ps) = append_printable (44 ∷ prefix_text p) (flat_map (λ q. 44 ∷ prefix_text q) ps) (prefix_printable p) (rest_printable ps)

begun_plain : (w : List ℕ) → BeginsWithDigit w → list_all is_file_byte w ≡ true → is_file_name w ≡ true
begun_plain w h all = let long : length w ≡ length (h.first ∷ h.rest) = ap length h.whole in rw (lt-ltb 0 (length w) (omega arith), all) refl

pub addresses_plain : (ps : List Ternary) → is_file_name (addresses_text ps) ≡ true
unfolding addresses_text
addresses_plain [] = refl
addresses_plain (p ∷ ps) =
    begun_plain _ (addresses_begin p ps) (rw (addresses_text-some p ps) (append_printable (prefix_text p) _ (prefix_printable p) (rest_printable ps)))

pub decimal_plain : (n : ℕ) → n < 2 ^ 64 → is_file_name (decimal n) ≡ true
decimal_plain n small = begun_plain (decimal n) (decimal_begins n small) (decimal_printable n small)

-- ---- ports, values of DSCP and protocols

either_plain : (b : Bool) (x y : List ℕ) → is_file_name x ≡ true → is_file_name y ≡ true → is_file_name (cond b x y) ≡ true
either_plain true x y h k = h
either_plain false x y h k = k

bounds_plain : (low high : ℕ) → low < 2 ^ 64 → high < 2 ^ 64 → is_file_name (bounds_text low high) ≡ true
unfolding bounds_text
bounds_plain low high a b =
    either_plain (low == high) (decimal low) (decimal low ++ (45 ∷ decimal high)) (decimal_plain low a)
    (begun_plain (decimal low ++ (45 ∷ decimal high)) (begins_before (decimal low) _ (decimal_begins low a))
    (append_printable (decimal low) (45 ∷ decimal high) (decimal_printable low a) (decimal_printable high b)))

ports_plain : (s : Span) → is_file_name (ports_text s) ≡ true
ports_plain s =
    let small : s.high < 65536 = s.width in
    let ordered : s.low ≤ s.high = s.ordered in
    bounds_plain s.low s.high (omega arith) (omega arith)

dscp_plain : (s : DscpSpan) → is_file_name (dscp_text s) ≡ true
dscp_plain s =
    let small : s.high ≤ 63 = s.width in
    let ordered : s.low ≤ s.high = s.ordered in
    bounds_plain s.low s.high (omega arith) (omega arith)

either_are_plain : (b : Bool) (xs ys : Words) → ArePlainWords xs → ArePlainWords ys → ArePlainWords (cond b xs ys)
either_are_plain true xs ys h k = h
either_are_plain false xs ys h k = k

protocol_plain : (n : ℕ) → n < 256 → ArePlainWords (protocol_words n)
unfolding protocol_words
protocol_plain n small =
    either_are_plain (n == 1) (codes "icmp" ∷ []) _ (refl, tt)
    (either_are_plain (n == 6) (codes "tcp" ∷ []) _ (refl, tt)
    (either_are_plain (n == 17) (codes "udp" ∷ []) (codes "proto" ∷ decimal n ∷ []) (refl, tt) (refl, (decimal_plain n (omega arith), tt))))

-- ---- predicates

abbrev HasPlain : Pred → Type 0
HasPlain p = has_octets p ≡ true → ArePlainWords (pred_words p)

plain_inductive : IsInductive HasPlain
plain_inductive = record {
  at-Any = λ h. rw (fold-Any Words words_step) (refl, tt);
  at-Nothing = λ h. rw (fold-Nothing Words words_step) (refl, tt);
  at-Proto = λ x h. rw (fold-Proto Words words_step x) (protocol_plain x (ltb-true x 256 (sym (fold-Proto Bool octets_step x) ∙ h)));
  at-Src = λ x h. rw (fold-Src Words words_step x) (refl, (addresses_plain x, tt));
  at-Dst = λ x h. rw (fold-Dst Words words_step x) (refl, (addresses_plain x, tt));
  at-SrcPort = λ x h. rw (fold-SrcPort Words words_step x) (refl, (ports_plain x, tt));
  at-DstPort = λ x h. rw (fold-DstPort Words words_step x) (refl, (ports_plain x, tt));
  at-IcmpType = λ x h. let small = ltb-true x 256 (sym (fold-IcmpType Bool octets_step x) ∙ h) in rw (fold-IcmpType Words words_step x) (refl, (decimal_plain x (omega arith), tt));
  at-IcmpCode = λ x h. let small = ltb-true x 256 (sym (fold-IcmpCode Bool octets_step x) ∙ h) in rw (fold-IcmpCode Words words_step x) (refl, (decimal_plain x (omega arith), tt));
  at-Dscp = λ x h. rw (fold-Dscp Words words_step x) (refl, (dscp_plain x, tt));
  at-Established = λ h. rw (fold-Established Words words_step) (refl, tt);
  at-Not = λ p k h. rw (fold-Not Words words_step p) (refl, k (sym (fold-Not Bool octets_step p) ∙ h));
  at-And = λ p q k l h.
      let each = both_true (has_octets p) (has_octets q) (sym (fold-And Bool octets_step p q) ∙ h) in
      rw (fold-And Words words_step p q) (refl, plain_append (pred_words p) (pred_words q) (k each.0) (l each.1));
  at-Or = λ p q k l h.
      let each = both_true (has_octets p) (has_octets q) (sym (fold-Or Bool octets_step p q) ∙ h) in
      rw (fold-Or Words words_step p q) (refl, plain_append (pred_words p) (pred_words q) (k each.0) (l each.1));
}

pub pred_plain : (p : Pred) → has_octets p ≡ true → ArePlainWords (pred_words p)
pred_plain = by_induction HasPlain plain_inductive

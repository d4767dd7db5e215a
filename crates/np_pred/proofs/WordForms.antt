-- The canonical words are words: none is empty, and none has a blank or a line end.
use Rattle.std.proofs.Common.{◌≡◌, ℕ, ◌-◌, ◌^◌, ◌<◌, ◌≤◌, ◌==◌, Bool, true, false, cond, List, [], ◌∷◌, ◌++◌, length, get_or, codes, count_ones, sym, refl, ap, ◌∙◌, arith}
use Rattle.std.specs.Char.{is_ascii_digit}
use Rattle.std.specs.Fmt.{decimal}
use Rattle.std.specs.Int.{w32, to_be_bytes}
use Rattle.std.specs.List.{list_all, flat_map, AllByRecursion}
use Rattle.std.specs.Str.{all_ascii_digits}
use Rattle.std.proofs.lemmas.Bool.{lt-ltb, ltb-true}
use Rattle.std.proofs.lemmas.Bool.Decides.{nat_tests}
use Rattle.std.proofs.lemmas.Fmt.{digits_decimal}
use Rattle.std.proofs.lemmas.List.Folds.{list_all-append}
use Rattle.np_text.specs.Addresses.{dotted}
use Rattle.np_text.specs.Joined.{is_word, is_word_byte}
use Rattle.np_text.specs.Words.{words_of}
use Rattle.np_text.proofs.AddressLaws.{dotted-bytes}
use Rattle.np_text.proofs.JoinedLaws.{words_of-join}
use Rattle.np_text.proofs.NumberLaws.{digits_by_test}
use Rattle.np_space.specs.declared.patterns.Ternary.{Ternary}
use Rattle.np_space.specs.declared.spans.Span.{Span}
use Rattle.np_pred.specs.declared.predicate.Pred.{Pred}
use Rattle.np_pred.specs.Canonical.{protocol_words, words_step, pred_words, pred_text}
use Rattle.np_pred.specs.Forms.{octets_step, has_octets}
use Rattle.np_pred.specs.Patterns.{addresses_text, prefix_text}
use Rattle.np_pred.specs.declared.dscp.DscpSpan.{DscpSpan}
use Rattle.np_pred.specs.Bounds.{bounds_text}
use Rattle.np_pred.specs.Dscp.{dscp_text}
use Rattle.np_pred.specs.Ports.{ports_text}
use Rattle.np_pred.proofs.Induction.{IsInductive, by_induction, fold-Any, fold-Nothing, fold-Proto, fold-Src, fold-Dst, fold-SrcPort, fold-DstPort, fold-IcmpType, fold-IcmpCode, fold-Dscp, fold-Established, fold-Not, fold-And, fold-Or}
use Rattle.np_pred.proofs.PatternLaws.{addresses_text-some}
use Rattle.np_pred.proofs.TextBackLaws.{BeginsWithDigit, decimal_begins, begins_before, both_true}
use Rattle.np_pred.proofs.ReadBackLaws.{addresses_begin}

-- a list of words
abbrev Words : Type 0
Words = List (List ℕ)

-- each of them is a word
abbrev AreWords : Words → Type 0
AreWords words = AllByRecursion (λ word. is_word word ≡ true) words

-- a digit may stand in a word
digit_in_word : (b : ℕ) → is_ascii_digit b ≡ true → is_word_byte b ≡ true
digit_in_word b h = grind (arith, nat_tests)

-- and several
digits_in_word : (ds : List ℕ) → all_ascii_digits ds ≡ true → list_all is_word_byte ds ≡ true
digits_in_word [] h = refl
digits_in_word (b ∷ bs) h = let each = both_true (is_ascii_digit b) (all_ascii_digits bs) h in rw (digit_in_word b each.0, digits_in_word bs each.1) refl

-- and a number
decimal_in_word : (n : ℕ) → n < 2 ^ 64 → list_all is_word_byte (decimal n) ≡ true
decimal_in_word n small = digits_in_word (decimal n) (digits_decimal digits_by_test n small)

-- and two parts that may
append_in_word : (xs ys : List ℕ) → list_all is_word_byte xs ≡ true → list_all is_word_byte ys ≡ true → list_all is_word_byte (xs ++ ys) ≡ true
append_in_word xs ys h k = rw (list_all-append is_word_byte xs ys, h, k) refl

-- and an address
dotted_in_word : (v : ℕ) → list_all is_word_byte (dotted v) ≡ true
dotted_in_word v =
    let octets = to_be_bytes w32 v in
    let part : (n : ℕ) → n < 2 ^ 64 → list_all is_word_byte (decimal n ++ 46 ∷ []) ≡ true = λ n small. append_in_word (decimal n) (46 ∷ []) (decimal_in_word n small) refl in
    let a = decimal (get_or octets 0 0) ++ 46 ∷ [] in
    let b = decimal (get_or octets 1 0) ++ 46 ∷ [] in
    let c = decimal (get_or octets 2 0) ++ 46 ∷ [] in
    let d = decimal (get_or octets 3 0) in
    rw (dotted-bytes v octets refl)
    (append_in_word a (b ++ (c ++ d)) (part (get_or octets 0 0) (omega arith))
    (append_in_word b (c ++ d) (part (get_or octets 1 0) (omega arith))
    (append_in_word c d (part (get_or octets 2 0) (omega arith)) (decimal_in_word (get_or octets 3 0) (omega arith)))))

-- and a prefix
prefix_in_word : (p : Ternary) → list_all is_word_byte (prefix_text p) ≡ true
prefix_in_word p =
    append_in_word (dotted p.value) (47 ∷ decimal (32 - count_ones p.wild)) (dotted_in_word p.value) (decimal_in_word (32 - count_ones p.wild) (omega arith))

-- and prefixes after commas
rest_in_word : (ps : List Ternary) → list_all is_word_byte (flat_map (λ p. 44 ∷ prefix_text p) ps) ≡ true
rest_in_word [] = refl
rest_in_word (p ∷ ps) = append_in_word (44 ∷ prefix_text p) (flat_map (λ q. 44 ∷ prefix_text q) ps) (prefix_in_word p) (rest_in_word ps)

-- what begins with a digit and has such bytes alone is a word
begun_word : (w : List ℕ) → BeginsWithDigit w → list_all is_word_byte w ≡ true → is_word w ≡ true
begun_word w h all = let long : length w ≡ length (h.first ∷ h.rest) = ap length h.whole in rw (lt-ltb 0 (length w) (omega arith), all) refl

-- a list of prefixes is a word
addresses_word : (ps : List Ternary) → is_word (addresses_text ps) ≡ true
unfolding addresses_text
addresses_word [] = refl
addresses_word (p ∷ ps) =
    begun_word _ (addresses_begin p ps) (rw (addresses_text-some p ps) (append_in_word (prefix_text p) _ (prefix_in_word p) (rest_in_word ps)))

-- a number is a word
decimal_word : (n : ℕ) → n < 2 ^ 64 → is_word (decimal n) ≡ true
decimal_word n small = begun_word (decimal n) (decimal_begins n small) (decimal_in_word n small)

-- either of two words
either_word : (b : Bool) (x y : List ℕ) → is_word x ≡ true → is_word y ≡ true → is_word (cond b x y) ≡ true
either_word true x y h k = h
either_word false x y h k = k

-- one number or two are a word
bounds_word : (low high : ℕ) → low ≤ high → high < 2 ^ 64 → is_word (bounds_text low high) ≡ true
unfolding bounds_text
bounds_word low high ordered small =
    either_word (low == high) (decimal low) (decimal low ++ (45 ∷ decimal high)) (decimal_word low (omega arith))
    (begun_word (decimal low ++ (45 ∷ decimal high)) (begins_before (decimal low) _ (decimal_begins low (omega arith)))
    (append_in_word (decimal low) (45 ∷ decimal high) (decimal_in_word low (omega arith)) (decimal_in_word high small)))

-- a span of ports is a word
ports_word : (s : Span) → is_word (ports_text s) ≡ true
ports_word s = let small : s.high < 65536 = s.width in bounds_word s.low s.high s.ordered (omega arith)

-- a span of DSCP values is a word
dscp_word : (s : DscpSpan) → is_word (dscp_text s) ≡ true
dscp_word s = let small : s.high ≤ 63 = s.width in bounds_word s.low s.high s.ordered (omega arith)

-- either of two lists of words
either_words : (b : Bool) (xs ys : Words) → AreWords xs → AreWords ys → AreWords (cond b xs ys)
either_words true xs ys h k = h
either_words false xs ys h k = k

-- the words of a protocol
protocol_are_words : (n : ℕ) → n < 256 → AreWords (protocol_words n)
unfolding protocol_words
protocol_are_words n small =
    either_words (n == 1) (codes "icmp" ∷ []) _ (refl, tt)
    (either_words (n == 6) (codes "tcp" ∷ []) _ (refl, tt)
    (either_words (n == 17) (codes "udp" ∷ []) (codes "proto" ∷ decimal n ∷ []) (refl, tt) (refl, (decimal_word n (omega arith), tt))))

-- two lists of words
append_words : (xs ys : Words) → AreWords xs → AreWords ys → AreWords (xs ++ ys)
append_words [] ys h k = k
append_words (x ∷ xs) ys h k = (h.0, append_words xs ys h.1 k)

-- each canonical word is one
abbrev HasWords : Pred → Type 0
HasWords p = has_octets p ≡ true → AreWords (pred_words p)

-- by cases on the form of predicate
words_inductive : IsInductive HasWords
words_inductive = record {
  at-Any = λ h. rw (fold-Any Words words_step) (refl, tt);
  at-Nothing = λ h. rw (fold-Nothing Words words_step) (refl, tt);
  at-Proto = λ x h. rw (fold-Proto Words words_step x) (protocol_are_words x (ltb-true x 256 (sym (fold-Proto Bool octets_step x) ∙ h)));
  at-Src = λ x h. rw (fold-Src Words words_step x) (refl, (addresses_word x, tt));
  at-Dst = λ x h. rw (fold-Dst Words words_step x) (refl, (addresses_word x, tt));
  at-SrcPort = λ x h. rw (fold-SrcPort Words words_step x) (refl, (ports_word x, tt));
  at-DstPort = λ x h. rw (fold-DstPort Words words_step x) (refl, (ports_word x, tt));
  at-IcmpType = λ x h. let small = ltb-true x 256 (sym (fold-IcmpType Bool octets_step x) ∙ h) in rw (fold-IcmpType Words words_step x) (refl, (decimal_word x (omega arith), tt));
  at-IcmpCode = λ x h. let small = ltb-true x 256 (sym (fold-IcmpCode Bool octets_step x) ∙ h) in rw (fold-IcmpCode Words words_step x) (refl, (decimal_word x (omega arith), tt));
  at-Dscp = λ x h. rw (fold-Dscp Words words_step x) (refl, (dscp_word x, tt));
  at-Established = λ h. rw (fold-Established Words words_step) (refl, tt);
  at-Not = λ p k h. rw (fold-Not Words words_step p) (refl, k (sym (fold-Not Bool octets_step p) ∙ h));
  at-And = λ p q k l h.
      let each = both_true (has_octets p) (has_octets q) (sym (fold-And Bool octets_step p q) ∙ h) in
      rw (fold-And Words words_step p q) (refl, append_words (pred_words p) (pred_words q) (k each.0) (l each.1));
  at-Or = λ p q k l h.
      let each = both_true (has_octets p) (has_octets q) (sym (fold-Or Bool octets_step p q) ∙ h) in
      rw (fold-Or Words words_step p q) (refl, append_words (pred_words p) (pred_words q) (k each.0) (l each.1));
}

-- the canonical words are words
pub pred_words_are_words : (p : Pred) → has_octets p ≡ true → AllByRecursion (λ word. is_word word ≡ true) (pred_words p)
pred_words_are_words = by_induction HasWords words_inductive

-- the words of the canonical text are the canonical words
pub words_of_text : (p : Pred) → has_octets p ≡ true → words_of (pred_text p) ≡ pred_words p
words_of_text p h = words_of-join (pred_words p) (pred_words_are_words p h)

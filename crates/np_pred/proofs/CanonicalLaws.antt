-- The canonical text, word by word and operand by operand.
use Rattle.std.specs.Fmt.{decimal}
use Rattle.std.proofs.Common.{◌≡◌, ℕ, ◌==◌, Bool, true, false, cond, codes, List, [], ◌∷◌, ◌++◌, sym, refl, ap, ◌∙◌, append_assoc}
use Rattle.std.specs.List.{join_with_byte}
use Rattle.np_pred.specs.declared.predicate.Pred.{Pred}
use Rattle.np_pred.specs.declared.predicate.Pred.TheVariants as pred
use Rattle.np_pred.specs.Canonical.{protocol_words, words_step, written_step, pred_words, pred_text, written}
use Rattle.np_pred.proofs.Induction.{IsInductive, by_induction, fold-Any, fold-Nothing, fold-Proto, fold-Src, fold-Dst, fold-SrcPort, fold-DstPort, fold-IcmpType, fold-IcmpCode, fold-Dscp, fold-Established, fold-Not, fold-And, fold-Or}

-- a list of words
abbrev Words : Type 0
Words = List (List ℕ)

-- a text
abbrev Text : Type 0
Text = List ℕ

-- two lists of words, each with at least one
pub join_with_byte-append : (c : ℕ) (x : List ℕ) (xs : List (List ℕ)) (y : List ℕ) (ys : List (List ℕ)) → join_with_byte c ((x ∷ xs) ++ (y ∷ ys)) ≡ join_with_byte c (x ∷ xs) ++ (c ∷ join_with_byte c (y ∷ ys))
join_with_byte-append c x [] y ys = refl
join_with_byte-append c x (z ∷ zs) y ys = ap (λ l. x ++ (c ∷ l)) (join_with_byte-append c z zs y ys) ∙ sym (append_assoc x (c ∷ join_with_byte c (z ∷ zs)) (c ∷ join_with_byte c (y ∷ ys)))

-- a list that isn't empty
abbrev pub Some : List (List ℕ) → Type 0
Some xs = (x : List ℕ) × (rest : List (List ℕ)) × (xs ≡ x ∷ rest)

-- a word and others, joined
join_some : (x : List ℕ) (xs : List (List ℕ)) → Some xs → join_with_byte 32 (x ∷ xs) ≡ x ++ (32 ∷ join_with_byte 32 xs)
join_some x xs s = rw s.2 refl

-- two lists of words, joined
join_both : (xs ys : List (List ℕ)) → Some xs → Some ys → join_with_byte 32 (xs ++ ys) ≡ join_with_byte 32 xs ++ (32 ∷ join_with_byte 32 ys)
join_both xs ys s t = rw (s.2, t.2) (join_with_byte-append 32 s.0 s.1 t.0 t.1)

-- more words after some
some_before : (xs ys : List (List ℕ)) → Some xs → Some (xs ++ ys)
some_before xs ys s = (s.0, s.1 ++ ys, rw s.2 refl)

-- either of two lists that are not empty
some_by_cases : (a : Bool) (xs ys : List (List ℕ)) → Some xs → Some ys → Some (cond a xs ys)
some_by_cases true xs ys s t = s
some_by_cases false xs ys s t = t

-- a protocol has words
some_protocol : (n : ℕ) → Some (protocol_words n)
unfolding protocol_words
some_protocol n =
    some_by_cases (n == 1) _ _ (codes "icmp", [], refl)
    (some_by_cases (n == 6) _ _ (codes "tcp", [], refl) (some_by_cases (n == 17) _ _ (codes "udp", [], refl) (codes "proto", decimal n ∷ [], refl)))

-- a predicate has words, and they are what is written operand by operand
abbrev pub IsWritten : Pred → Type 0
IsWritten p = Some (pred_words p) × (written p ≡ pred_text p)

-- from the words and the text to both facts
is_written : (p : Pred) (words : List (List ℕ)) (text : List ℕ) → pred_words p ≡ words → written p ≡ text → Some words → text ≡ join_with_byte 32 words → IsWritten p
is_written p words text w t some same = (rw w some, t ∙ same ∙ ap (join_with_byte 32) (sym w))

-- by cases on the form of predicate
pub written_inductive : IsInductive IsWritten
written_inductive = record {
  at-Any = is_written pred.Any _ _ (fold-Any Words words_step) (fold-Any Text written_step) (_, _, refl) refl;
  at-Nothing = is_written pred.Nothing _ _ (fold-Nothing Words words_step) (fold-Nothing Text written_step) (_, _, refl) refl;
  at-Proto = λ x. is_written (pred.Proto x) _ _ (fold-Proto Words words_step x) (fold-Proto Text written_step x) (some_protocol x) refl;
  at-Src = λ x. is_written (pred.Src x) _ _ (fold-Src Words words_step x) (fold-Src Text written_step x) (_, _, refl) refl;
  at-Dst = λ x. is_written (pred.Dst x) _ _ (fold-Dst Words words_step x) (fold-Dst Text written_step x) (_, _, refl) refl;
  at-SrcPort = λ x. is_written (pred.SrcPort x) _ _ (fold-SrcPort Words words_step x) (fold-SrcPort Text written_step x) (_, _, refl) refl;
  at-DstPort = λ x. is_written (pred.DstPort x) _ _ (fold-DstPort Words words_step x) (fold-DstPort Text written_step x) (_, _, refl) refl;
  at-IcmpType = λ x. is_written (pred.IcmpType x) _ _ (fold-IcmpType Words words_step x) (fold-IcmpType Text written_step x) (_, _, refl) refl;
  at-IcmpCode = λ x. is_written (pred.IcmpCode x) _ _ (fold-IcmpCode Words words_step x) (fold-IcmpCode Text written_step x) (_, _, refl) refl;
  at-Dscp = λ x. is_written (pred.Dscp x) _ _ (fold-Dscp Words words_step x) (fold-Dscp Text written_step x) (_, _, refl) refl;
  at-Established = is_written pred.Established _ _ (fold-Established Words words_step) (fold-Established Text written_step) (_, _, refl) refl;
  at-Not = λ p h. is_written (pred.Not p) _ _ (fold-Not Words words_step p) (fold-Not Text written_step p) (_, _, refl)
      (ap (λ l. codes "not " ++ l) h.1 ∙ sym (join_some (codes "not") (pred_words p) h.0));
  at-And = λ p q h k. is_written (pred.And p q) _ _ (fold-And Words words_step p q) (fold-And Text written_step p q) (_, _, refl)
      (rw (h.1, k.1) (ap (λ l. codes "and " ++ l) (sym (join_both (pred_words p) (pred_words q) h.0 k.0)) ∙ sym (join_some (codes "and") (pred_words p ++ pred_words q) (some_before (pred_words p) (pred_words q) h.0))));
  at-Or = λ p q h k. is_written (pred.Or p q) _ _ (fold-Or Words words_step p q) (fold-Or Text written_step p q) (_, _, refl)
      (rw (h.1, k.1) (ap (λ l. codes "or " ++ l) (sym (join_both (pred_words p) (pred_words q) h.0 k.0)) ∙ sym (join_some (codes "or") (pred_words p ++ pred_words q) (some_before (pred_words p) (pred_words q) h.0))));
}

-- what is written is the canonical text
pub written_is_text : (p : Pred) → written p ≡ pred_text p
written_is_text p = (by_induction IsWritten written_inductive p).1

-- ---- what is written, by the form of the predicate

-- `established`
pub written-Established : (p : Pred) → p ≡ pred.Established → written p ≡ codes "established"
written-Established p e = rw e (fold-Established Text written_step)

-- `not` and its operand
pub written-Not : (p q : Pred) → p ≡ pred.Not q → written p ≡ codes "not " ++ written q
written-Not p q e = rw e (fold-Not Text written_step q)

-- `and` and its operands
pub written-And : (p q r : Pred) → p ≡ pred.And q r → written p ≡ codes "and " ++ (written q ++ (32 ∷ [] ++ written r))
written-And p q r e = rw e (fold-And Text written_step q r)

-- `or` and its operands
pub written-Or : (p q r : Pred) → p ≡ pred.Or q r → written p ≡ codes "or " ++ (written q ++ (32 ∷ [] ++ written r))
written-Or p q r e = rw e (fold-Or Text written_step q r)

-- one text behind another
pub appended-two : (o a b m n : List ℕ) → m ≡ o ++ a → n ≡ m ++ b → n ≡ o ++ (a ++ b)
appended-two o a b m n first last = last ∙ ap (λ l. l ++ b) first ∙ append_assoc o a b

-- four texts one after another
pub appended-four : (o a b c d k l m n : List ℕ) → k ≡ o ++ a → l ≡ k ++ b → m ≡ l ++ c → n ≡ m ++ d → n ≡ o ++ (a ++ (b ++ (c ++ d)))
appended-four o a b c d k l m n first second third last = rw (last, third, second, first) (simp append_assoc)

-- Lists of prefixes as words.
use Rattle.std.proofs.Common.{◌≡◌, ℕ, ◌+◌, ◌-◌, ◌<◌, ◌≤◌, append-nil, get_or, take, drop, zero, suc, add-one, Bool, true, false, cond, List, [], ◌∷◌, ◌++◌, length, map, Option, Some, None, codes, sym, refl, ap, ◌∙◌, arith, append_assoc}
use Rattle.std.specs.List.{flat_map, join_with_byte}
use Rattle.std.specs.Option.{option_and_then, option_map}
use Rattle.std.proofs.Math.Seq.{take-length}
use Rattle.std.proofs.lemmas.Option.{same_Some}
use Rattle.np_text.specs.Addresses.{prefix_of, front_bits}
use Rattle.np_text.specs.Numbers.{number_of}
use Rattle.np_text.proofs.JoinedLaws.{join_with_byte-flat_map}
use Rattle.np_text.proofs.NumberLaws.{number_of-le}
use Rattle.np_space.specs.declared.patterns.Ternary.{Ternary}
use Rattle.np_pred.specs.Patterns.{prefix_text, addresses_text}

-- after an address and a slash
length_read : (o : Option ℕ) (a : ℕ) (p : ℕ × ℕ) → ((n : ℕ) → o ≡ Some n → n ≤ 32) → option_map (λ n. (front_bits a n, n)) o ≡ Some p → p.1 ≤ 32
length_read None a p h e = cc
length_read (Some n) a p h e = let same : n ≡ p.1 = ap (λ q. q.1) (same_Some _ _ e) in let le = h n refl in omega arith

-- with a length
front_read : (o : Option ℕ) (size : List ℕ) (p : ℕ × ℕ) → option_and_then (λ a. option_map (λ n. (front_bits a n, n)) (number_of size 32)) o ≡ Some p → p.1 ≤ 32
front_read None size p e = cc
front_read (Some a) size p e = length_read (number_of size 32) a p (λ n f. number_of-le size 32 n (sym f)) e

-- without a length
whole_read : (o : Option ℕ) (p : ℕ × ℕ) → option_map (λ a. (a, 32)) o ≡ Some p → p.1 ≤ 32
whole_read None p e = cc
whole_read (Some a) p e = let same : 32 ≡ p.1 = ap (λ q. q.1) (same_Some _ _ e) in omega arith

-- with a length or without
either_read : (b : Bool) (x y : Option (ℕ × ℕ)) (p : ℕ × ℕ) → (x ≡ Some p → p.1 ≤ 32) → (y ≡ Some p → p.1 ≤ 32) → cond b x y ≡ Some p → p.1 ≤ 32
either_read true x y p f g e = f e
either_read false x y p f g e = g e

-- the length of a prefix that is read
pub prefix_of-length : (word : List ℕ) (p : ℕ × ℕ) → prefix_of word ≡ Some p → p.1 ≤ 32
unfolding prefix_of
prefix_of-length word p e = either_read _ _ _ p (front_read _ _ p) (whole_read _ p) e

-- ---- reading one word after another

-- the patterns so far, and those that are read
abbrev pub with_front : List Ternary → Option (List Ternary) → Option (List Ternary)
with_front front read = option_map (λ ps. front ++ ps) read

-- ---- the text of a list

-- the word of some prefixes
pub addresses_text-some : (p : Ternary) (ps : List Ternary) → addresses_text (p ∷ ps) ≡ prefix_text p ++ flat_map (λ q. 44 ∷ prefix_text q) ps
unfolding addresses_text
addresses_text-some p ps = join_with_byte-flat_map 44 (prefix_text p) (map prefix_text ps) ∙ ap (λ l. prefix_text p ++ l) (over ps) where
  over : (ps : List Ternary) → flat_map (λ y. 44 ∷ y) (map prefix_text ps) ≡ flat_map (λ q. 44 ∷ prefix_text q) ps
  over [] = refl
  over (q ∷ ps) = ap (λ l. 44 ∷ (prefix_text q ++ l)) (over ps)

-- the word of no prefix
pub addresses_text-none : (patterns : List Ternary) → length patterns < 1 → addresses_text patterns ≡ codes "none"
unfolding addresses_text
addresses_text-none [] h = refl
addresses_text-none (p ∷ ps) h = absurd (omega arith)

-- the texts before an element, its own, and those behind it
pub flat_map-split : (f : Ternary → List ℕ) (xs : List Ternary) (i : ℕ) (x : Ternary) → i < length xs → x ≡ get_or xs i x → flat_map f xs ≡ flat_map f (take i xs) ++ (f x ++ flat_map f (drop (i + 1) xs))
flat_map-split f [] i x lt e = absurd (omega arith)
flat_map-split f (y ∷ ys) zero x lt e = ap (λ z. f z ++ flat_map f ys) (sym e)
flat_map-split f (y ∷ ys) (suc i) x lt e =
    let rest = rw (add-one i) at (flat_map-split f ys i x (omega arith) e) in
    rw (add-one (suc i)) (ap (λ l. f y ++ l) rest ∙ sym (append_assoc (f y) (flat_map f (take i ys)) (f x ++ flat_map f (drop (suc i) ys))))

-- the word by the first item and the rest
pub addresses_text-first : (patterns : List Ternary) (p : Ternary) → 1 ≤ length patterns → p ≡ get_or patterns 0 p → addresses_text patterns ≡ prefix_text p ++ flat_map (λ q. 44 ∷ prefix_text q) (take (length patterns - 1) (drop 1 patterns))
addresses_text-first [] p some e = absurd (omega arith)
addresses_text-first (q ∷ qs) p some e =
    let same : p ≡ q = e in
    let n : length (q ∷ qs) - 1 ≡ length qs = omega arith in
    rw (same, n, take-length qs) (addresses_text-some q qs)

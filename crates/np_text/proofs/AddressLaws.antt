-- Laws of addresses and prefixes.
use Rattle.std.proofs.Common.{◌≡◌, ◌≢◌, ℕ, ◌/◌, ◌%◌, ◌^◌, ◌<◌, ◌≤◌, ◌==◌, Bool, false, List, [], ◌∷◌, ◌++◌, length, get_or, map, cond, true, suc, zero, Option, Some, None, All, sym, subst, refl, ap, ◌∙◌, arith, append_assoc, length-append}
use Rattle.std.specs.Fmt.{decimal}
use Rattle.std.specs.Int.{IsInRange, w32, from_be_bytes, to_be_bytes}
use Rattle.std.specs.List.{slice_split, join_with_byte, position_or_len, before_first, after_first}
use Rattle.std.specs.Option.{option_and_then, option_map}
use Rattle.std.proofs.lemmas.Bool.{cond-false, eqb-true, ne_eqb, le-leb, lt-leb, le-ltb, lt-ltb}
use Rattle.std.proofs.lemmas.List.Splits.{slice_split_at, slice_split_none, join_with_byte-slice_split}
use Rattle.std.proofs.lemmas.List.Sums.{fails_before_first}
use Rattle.std.proofs.lemmas.Fmt.{digits_decimal, length-decimal-le}
use Rattle.std.proofs.lemmas.List.{get_or_default}
use Rattle.std.proofs.lemmas.Nat.{be_bytes_4, from_be_bytes-to_be_bytes_4}
use Rattle.std.proofs.lemmas.Option.{none-some, same_Some}
use Rattle.std.proofs.lemmas.Str.Parse.{not_in_digits}
use Rattle.np_text.proofs.NumberLaws.{digits_by_test, number_of-decimal, number_of-le, decimal_shortest}
use Rattle.np_text.specs.Addresses.{is_dot, is_slash, octet_of, octets_of, address_of, front_bits, prefix_of, dotted}
use Rattle.np_text.specs.Numbers.{number_of}

pub octet_of-short : (part : List ℕ) → length part ≤ 3 → octet_of part ≡ number_of part 255
unfolding octet_of
octet_of-short part short = rw (le-leb (length part) 3 short) refl

pub octet_of-long : (part : List ℕ) → 3 < length part → octet_of part ≡ None
unfolding octet_of
octet_of-long part long = rw (lt-leb (length part) 3 long) refl

-- without a separator there is one part
pub slice_split-one : (p : ℕ → Bool) (word : List ℕ) → position_or_len p word ≡ length word → slice_split p word ≡ word ∷ []
slice_split-one p word none = slice_split_none p word (λ k e m. fails_before_first p word k e (omega arith))

-- an address of four parts
pub address_of-four : (word a b c d : List ℕ) → slice_split is_dot word ≡ a ∷ b ∷ c ∷ d ∷ [] → address_of word ≡ option_map (from_be_bytes w32) (octets_of (a ∷ b ∷ c ∷ d ∷ []))
unfolding address_of
address_of-four word a b c d parts = rw parts refl

pub address_of-other : (word : List ℕ) → length (slice_split is_dot word) ≢ 4 → address_of word ≡ None
unfolding address_of
address_of-other word other = cond-false _ _ _ (ne_eqb _ 4 other)

-- a prefix without a length
pub prefix_of-whole : (word : List ℕ) → position_or_len is_slash word ≡ length word → prefix_of word ≡ option_map (λ address. (address, 32)) (address_of word)
unfolding prefix_of
prefix_of-whole word none = rw (le-ltb (position_or_len is_slash word) (length word) (omega arith)) refl

-- a prefix with its length
pub prefix_of-front : (word front size : List ℕ) → position_or_len is_slash word < length word → front ≡ before_first is_slash word → size ≡ after_first is_slash word → prefix_of word ≡ option_and_then (λ address. option_map (λ bits. (front_bits address bits, bits)) (number_of size 32)) (address_of front)
unfolding prefix_of
prefix_of-front word front size some before behind = rw (before, behind, lt-ltb (position_or_len is_slash word) (length word) some) refl

-- the text of an address, byte by byte
pub dotted-bytes : (address : ℕ) (bytes : List ℕ) → bytes ≡ to_be_bytes w32 address → dotted address ≡ (decimal (get_or bytes 0 0) ++ 46 ∷ []) ++ ((decimal (get_or bytes 1 0) ++ 46 ∷ []) ++ ((decimal (get_or bytes 2 0) ++ 46 ∷ []) ++ decimal (get_or bytes 3 0)))
unfolding dotted
dotted-bytes address bytes same = rw same (simp append_assoc)

-- decimal digits hold no other byte
pub decimal_no_other : (c n : ℕ) → (IsInRange 48 57 c → ⊥) → n < 2 ^ 64 → All (λ b. (b == c) ≡ false) (decimal n)
decimal_no_other c n out small k e m =
    let other = not_in_digits digits_by_test (decimal n) c (digits_decimal digits_by_test n small) out k m in
    rw (get_or_default (decimal n) k e 0 m) (ne_eqb _ c other)

decimal_no_dot : (n : ℕ) → n < 2 ^ 64 → All (λ b. is_dot b ≡ false) (decimal n)
decimal_no_dot n small = decimal_no_other 46 n (λ h. omega (arith, h.0)) small

octet_of-decimal : (n : ℕ) → n < 256 → octet_of (decimal n) ≡ Some n
octet_of-decimal n small =
    octet_of-short (decimal n) (length-decimal-le 3 n (omega arith) (omega arith) (omega arith)) ∙ number_of-decimal n 255 (omega arith) (omega arith)

four_octets : (a b c d : ℕ) → a < 256 → b < 256 → c < 256 → d < 256 → address_of (join_with_byte 46 (decimal a ∷ decimal b ∷ decimal c ∷ decimal d ∷ [])) ≡ Some (from_be_bytes w32 (a ∷ b ∷ c ∷ d ∷ []))
four_octets a b c d fa fb fc fd =
    let rest_c = decimal c ++ 46 ∷ decimal d in
    let rest_b = decimal b ++ 46 ∷ rest_c in
    let parts : slice_split is_dot (decimal a ++ 46 ∷ rest_b) ≡ decimal a ∷ decimal b ∷ decimal c ∷ decimal d ∷ [] =
    slice_split_at is_dot (decimal a) 46 rest_b (decimal_no_dot a (omega arith)) refl
    ∙ ap (λ ps. decimal a ∷ ps) (slice_split_at is_dot (decimal b) 46 rest_c (decimal_no_dot b (omega arith)) refl)
    ∙ ap (λ ps. decimal a ∷ decimal b ∷ ps) (slice_split_at is_dot (decimal c) 46 (decimal d) (decimal_no_dot c (omega arith)) refl)
    ∙ ap (λ ps. decimal a ∷ decimal b ∷ decimal c ∷ ps) (slice_split_none is_dot (decimal d) (decimal_no_dot d (omega arith))) in
    rw (address_of-four _ _ _ _ _ parts, octet_of-decimal a fa, octet_of-decimal b fb, octet_of-decimal c fc, octet_of-decimal d fd) refl

-- what is written with dots reads back
pub address_of-dotted : (address : ℕ) → address < 2 ^ 32 → address_of (dotted address) ≡ Some address
unfolding dotted
address_of-dotted address small =
    four_octets (address / 16777216 % 256) (address / 65536 % 256) (address / 256 % 256) (address % 256) (omega arith) (omega arith) (omega arith) (omega arith)
    ∙ ap (λ n. Some n) (from_be_bytes-to_be_bytes_4 address small)

cond_same : (b : Bool) (o : Option ℕ) (y : ℕ) → cond b o None ≡ Some y → (b ≡ true) × (o ≡ Some y)
cond_same true o y h = (refl, h)
cond_same false o y h = absurd (none-some y h)

-- a part that reads as an octet is below 256, and no shorter than the octet in decimal
octet_of-some : (part : List ℕ) (octet : ℕ) → octet_of part ≡ Some octet → (octet < 256) × (length (decimal octet) ≤ length part)
unfolding octet_of
octet_of-some part octet h =
    let read = (cond_same _ (number_of part 255) octet h).1 in
    let low = number_of-le part 255 octet (sym read) in
    (omega arith, decimal_shortest part 255 octet (omega arith) read)

-- the octets of an address that was read
module _ (address : ℕ) where
  abbrev from_four : Option ℕ → Option ℕ → Option ℕ → Option ℕ → Option ℕ
  from_four o p q r =
      option_map (from_be_bytes w32)
      (option_and_then (λ w. option_map (λ octets. w ∷ octets)
      (option_and_then (λ x. option_map (λ octets. x ∷ octets)
      (option_and_then (λ y. option_map (λ octets. y ∷ octets)
      (option_and_then (λ z. option_map (λ octets. z ∷ octets) (Some [])) r)) q)) p)) o)

  abbrev AreRead : Option ℕ → Option ℕ → Option ℕ → Option ℕ → Type 0
  AreRead o p q r =
      (w : ℕ) × (x : ℕ) × (y : ℕ) × (z : ℕ) × (o ≡ Some w) × (p ≡ Some x) × (q ≡ Some y) × (r ≡ Some z) × (from_be_bytes w32 (w ∷ x ∷ y ∷ z ∷ []) ≡ address)

  are_read : (o p q r : Option ℕ) → from_four o p q r ≡ Some address → AreRead o p q r
  are_read None p q r h = absurd (none-some address h)
  are_read (Some w) None q r h = absurd (none-some address h)
  are_read (Some w) (Some x) None r h = absurd (none-some address h)
  are_read (Some w) (Some x) (Some y) None h = absurd (none-some address h)
  are_read (Some w) (Some x) (Some y) (Some z) h = (w, x, y, z, refl, refl, refl, refl, same_Some _ address h)

four_below : (w x y z : ℕ) → w < 256 → x < 256 → y < 256 → z < 256 → (i : ℕ) → get_or (w ∷ x ∷ y ∷ z ∷ []) i 0 < 256
four_below w x y z fw fx fy fz zero = fw
four_below w x y z fw fx fy fz (suc zero) = fx
four_below w x y z fw fx fy fz (suc (suc zero)) = fy
four_below w x y z fw fx fy fz (suc (suc (suc zero))) = fz
four_below w x y z fw fx fy fz (suc (suc (suc (suc i)))) = omega arith

dotted_no_longer : (parts : List (List ℕ)) (address : ℕ) → length parts ≡ 4 → option_map (from_be_bytes w32) (octets_of parts) ≡ Some address → length (dotted address) ≤ length (join_with_byte 46 parts)
unfolding dotted
dotted_no_longer [] address four h = absurd (omega arith)
dotted_no_longer (a ∷ []) address four h = absurd (omega arith)
dotted_no_longer (a ∷ b ∷ []) address four h = absurd (omega arith)
dotted_no_longer (a ∷ b ∷ c ∷ []) address four h = absurd (omega arith)
dotted_no_longer (a ∷ b ∷ c ∷ d ∷ []) address four h =
    let o = are_read address (octet_of a) (octet_of b) (octet_of c) (octet_of d) h in
    let wa = octet_of-some a o.0 o.4 in
    let xb = octet_of-some b o.1 o.5 in
    let yc = octet_of-some c o.2 o.6 in
    let zd = octet_of-some d o.3 o.7 in
    let bytes : to_be_bytes w32 address ≡ o.0 ∷ o.1 ∷ o.2 ∷ o.3 ∷ [] =
    be_bytes_4 (o.0 ∷ o.1 ∷ o.2 ∷ o.3 ∷ []) address refl (four_below o.0 o.1 o.2 o.3 wa.0 xb.0 yc.0 zd.0) (sym o.8) in
    subst (λ (octets : List ℕ). length (join_with_byte 46 (map decimal octets)) ≤ length (join_with_byte 46 (a ∷ b ∷ c ∷ d ∷ []))) (sym bytes) (simp length-append (omega arith))
dotted_no_longer (a ∷ b ∷ c ∷ d ∷ e ∷ more) address four h = absurd (omega arith)

-- no word that reads as the address is shorter
pub dotted_shortest : (word : List ℕ) (address : ℕ) → address_of word ≡ Some address → length (dotted address) ≤ length word
unfolding address_of
dotted_shortest word address h =
    let parts = slice_split is_dot word in
    let read = cond_same _ _ address h in
    subst (λ (w : List ℕ). length (dotted address) ≤ length w) (join_with_byte-slice_split 46 word) (dotted_no_longer parts address (eqb-true (length parts) 4 read.0) read.1)

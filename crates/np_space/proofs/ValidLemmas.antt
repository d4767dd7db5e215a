-- The seven blocks have exactly the valid headers, each of them once: one lemma for each range of
-- protocols.
use Rattle.std.proofs.Common.{◌≡◌, ℕ, ◌+◌, ◌≤◌, ◌^◌, Bool, true, false, List, [], ◌∷◌, refl, sym, subst, ◌∙◌, ap, arith, inl, inr, nat_le, nat_lt}
use Rattle.std.specs.Prelude.{◌&&◌, ◌||◌, not, ◌==◌}
use Rattle.std.proofs.lemmas.Bool.{cases_lt, and_right}
use Rattle.std.proofs.lemmas.Bool.Decides.{nat_tests}
use Rattle.np_space.specs.Flag.{flag_number}
use Rattle.np_space.specs.Header.{is_valid_header, numbers_fit}
use Rattle.np_space.specs.Span.{span_has}
use Rattle.np_space.specs.Ternary.{pattern_has, ternary_has}
use Rattle.np_space.specs.declared.patterns.Ternary.{Ternary}
use Rattle.np_space.specs.declared.spans.Span.{Span}
use Rattle.np_space.specs.Block.{block_has, block_numbers, anywhere, count_having, any_has, AreDisjoint}
use Rattle.np_space.specs.declared.headers.Header.{Header}
use Rattle.np_space.specs.declared.blocks.Block.{Block}
use Rattle.np_space.proofs.AlgebraLemmas.{count_none, count_cons, any_from_count, disjoint_from_count}
use Rattle.np_space.proofs.FlagLemmas.{and_true, flag_small}
use Rattle.np_space.proofs.MadeLemmas.{widest_has}

-- the test of the fields between the addresses and the code point
abbrev part : ℕ → ℕ → ℕ → ℕ → ℕ → ℕ → ℕ → ℕ → Bool
part first last most flags p a b e = (nat_le first p && nat_le p last) && (nat_le 0 a && nat_le a most) && (nat_le 0 b && nat_le b most) && (nat_le 0 e && nat_le e flags)

-- in how many of the blocks the fields are
abbrev parts : ℕ → ℕ → ℕ → ℕ → ℕ
parts p a b e =
    flag_number (part 0 0 0 0 p a b e) + flag_number (part 1 1 255 0 p a b e) + flag_number (part 2 5 0 0 p a b e) + flag_number (part 6 6 65535 1 p a b e)
    + flag_number (part 7 16 0 0 p a b e) + flag_number (part 17 17 65535 0 p a b e) + flag_number (part 18 255 0 0 p a b e)

-- what else than the widths of the addresses and of the code point makes a header valid
abbrev fits : ℕ → ℕ → ℕ → Bool → Bool
fits p a b e = (nat_lt p 256 && nat_lt a 65536 && nat_lt b 65536) && (p == 6 || not e) && numbers_fit p a b

-- ICMP
at_icmp : (a b : ℕ) (e : Bool) → parts 1 a b (flag_number e) ≡ flag_number (fits 1 a b e)
at_icmp a b false = grind (arith, nat_tests)
at_icmp a b true = grind (arith, nat_tests)

-- TCP
at_tcp : (a b : ℕ) (e : Bool) → parts 6 a b (flag_number e) ≡ flag_number (fits 6 a b e)
at_tcp a b false = grind (arith, nat_tests)
at_tcp a b true = grind (arith, nat_tests)

-- UDP
at_udp : (a b : ℕ) (e : Bool) → parts 17 a b (flag_number e) ≡ flag_number (fits 17 a b e)
at_udp a b false = grind (arith, nat_tests)
at_udp a b true = grind (arith, nat_tests)

-- protocol 0
at_first : (a b : ℕ) (e : Bool) → parts 0 a b (flag_number e) ≡ flag_number (fits 0 a b e)
at_first a b false = grind (arith, nat_tests)
at_first a b true = grind (arith, nat_tests)

-- from 2 to 5
at_low : (p a b : ℕ) (e : Bool) → 2 ≤ p → p ≤ 5 → parts p a b (flag_number e) ≡ flag_number (fits p a b e)
at_low p a b false l h = grind (arith, nat_tests)
at_low p a b true l h = grind (arith, nat_tests)

-- from 7 to 16
at_middle : (p a b : ℕ) (e : Bool) → 7 ≤ p → p ≤ 16 → parts p a b (flag_number e) ≡ flag_number (fits p a b e)
at_middle p a b false l h = grind (arith, nat_tests)
at_middle p a b true l h = grind (arith, nat_tests)

-- from 18 to 255
at_high : (p a b : ℕ) (e : Bool) → 18 ≤ p → p ≤ 255 → parts p a b (flag_number e) ≡ flag_number (fits p a b e)
at_high p a b false l h = grind (arith, nat_tests)
at_high p a b true l h = grind (arith, nat_tests)

-- no protocol is past 255
beyond : (p a b : ℕ) (e : Bool) → 256 ≤ p → parts p a b (flag_number e) ≡ flag_number (fits p a b e)
beyond p a b false h = grind (arith, nat_tests)
beyond p a b true h = grind (arith, nat_tests)

-- each protocol is in one of the ranges
parts_fit : (p a b : ℕ) (e : Bool) → parts p a b (flag_number e) ≡ flag_number (fits p a b e)
parts_fit p a b e =
    elim (cases_lt p 1) [
      | inl below ↦ at 0 (omega arith) (at_first a b e)
      | inr from1 ↦ elim (cases_lt p 2) [
        | inl below ↦ at 1 (omega arith) (at_icmp a b e)
        | inr from2 ↦ elim (cases_lt p 6) [
          | inl below ↦ at_low p a b e from2 (omega arith)
          | inr from6 ↦ elim (cases_lt p 7) [
            | inl below ↦ at 6 (omega arith) (at_tcp a b e)
            | inr from7 ↦ elim (cases_lt p 17) [
              | inl below ↦ at_middle p a b e from7 (omega arith)
              | inr from17 ↦ elim (cases_lt p 18) [
                | inl below ↦ at 17 (omega arith) (at_udp a b e)
                | inr from18 ↦ elim (cases_lt p 256) [
                  | inl below ↦ at_high p a b e from18 (omega arith)
                  | inr from256 ↦ beyond p a b e from256
                ]
              ]
            ]
          ]
        ]
      ]
    ]
  where
    at : (n : ℕ) → n ≡ p → parts n a b (flag_number e) ≡ flag_number (fits n a b e) → parts p a b (flag_number e) ≡ flag_number (fits p a b e)
    at n same claim = let Claim : ℕ → Type 0 = λ n. parts n a b (flag_number e) ≡ flag_number (fits n a b e) in subst Claim same claim

-- every number of 32 bits is in a pattern without fixed bits
any_of : (p : Ternary) (x : ℕ) → p.value ≡ 0 → p.wild ≡ 0xffff_ffff → ternary_has p x ≡ nat_lt x (2 ^ 32)
any_of p x value wild = (λ i. pattern_has (value i) (wild i) x) ∙ widest_has x

-- a span by its two numbers
numbers_of : (s : Span) (low high x : ℕ) → s.low ≡ low → s.high ≡ high → span_has s x ≡ (nat_le low x && nat_le x high)
numbers_of s low high x l h = λ i. nat_le (l i) x && nat_le x (h i)

-- the widths of the addresses and of the code point
abbrev others_fit : Header → Bool
others_fit h = (nat_lt h.src (2 ^ 32) && nat_lt h.dst (2 ^ 32)) && nat_lt h.dscp (2 ^ 6)

-- what a block with such numbers has
anywhere_has : (b : Block) (h : Header) (first last most flags : ℕ) → block_numbers b ≡ anywhere first last most flags → block_has b h ≡ (others_fit h && part first last most flags h.proto h.a h.b (flag_number h.est))
unfolding block_has
anywhere_has b h first last most flags e =
    let src_value : b.src.value ≡ 0 = cc in
    let src_wild : b.src.wild ≡ 0xffff_ffff = cc in
    let dst_value : b.dst.value ≡ 0 = cc in
    let dst_wild : b.dst.wild ≡ 0xffff_ffff = cc in
    let proto_low : b.proto.low ≡ first = cc in
    let proto_high : b.proto.high ≡ last = cc in
    let a_low : b.a.low ≡ 0 = cc in
    let a_high : b.a.high ≡ most = cc in
    let b_low : b.b.low ≡ 0 = cc in
    let b_high : b.b.high ≡ most = cc in
    let est_low : b.est.low ≡ 0 = cc in
    let est_high : b.est.high ≡ flags = cc in
    let dscp_low : b.dscp.low ≡ 0 = cc in
    let dscp_high : b.dscp.high ≡ 63 = cc in
    regroup (any_of b.src h.src src_value src_wild) (any_of b.dst h.dst dst_value dst_wild) (numbers_of b.proto first last h.proto proto_low proto_high)
    (numbers_of b.a 0 most h.a a_low a_high) (numbers_of b.b 0 most h.b b_low b_high) (numbers_of b.est 0 flags (flag_number h.est) est_low est_high) (numbers_of b.dscp 0 63 h.dscp dscp_low dscp_high ∙ code_points h.dscp)
  where
    code_points : (n : ℕ) → (nat_le 0 n && nat_le n 63) ≡ nat_lt n 64
    code_points n = grind (arith, nat_tests)

    group : (w p a b e c : Bool) → (w && p && a && b && e && c) ≡ ((w && c) && (p && a && b && e))
    group false p a b e c = refl
    group true p a b e false = and_right (p && a && b && e) false refl
    group true p a b e true = and_true (p && a && b && e)

    regroup : {s t d u p q a c b f e g m n : Bool} → s ≡ t → d ≡ u → p ≡ q → a ≡ c → b ≡ f → e ≡ g → m ≡ n → (s && d && p && a && b && e && m) ≡ (((t && u) && n) && (q && c && f && g))
    regroup {t = t} {u = u} {q = q} {c = c} {f = f} {g = g} {n = n} hs hd hp ha hb he hm = (λ i. hs i && hd i && hp i && ha i && hb i && he i && hm i) ∙ group (t && u) q c f g n

-- validity with the widths of addresses and code point apart
valid_is : (h : Header) → is_valid_header h ≡ (others_fit h && fits h.proto h.a h.b h.est)
unfolding is_valid_header
valid_is h = regroup (nat_lt h.src (2 ^ 32) && nat_lt h.dst (2 ^ 32)) (nat_lt h.dscp 64) (nat_lt h.proto 256) (nat_lt h.a 65536) (nat_lt h.b 65536) (h.proto == 6 || not h.est) (numbers_fit h.proto h.a h.b)
  where
    regroup : (w c p a b e n : Bool) → ((w && p && a && b && c) && e && n) ≡ ((w && c) && ((p && a && b) && e && n))
    regroup false c p a b e n = refl
    regroup true false p a b e n = ap (λ t. t && e && n) (and_right (p && a && b) false refl)
    regroup true true p a b e n = ap (λ t. t && e && n) (and_true (p && a && b))

-- the seven blocks count each valid header once
pub valid_once : (b0 b1 b2 b3 b4 b5 b6 : Block) → block_numbers b0 ≡ anywhere 0 0 0 0 → block_numbers b1 ≡ anywhere 1 1 255 0 → block_numbers b2 ≡ anywhere 2 5 0 0 → block_numbers b3 ≡ anywhere 6 6 65535 1 → block_numbers b4 ≡ anywhere 7 16 0 0 → block_numbers b5 ≡ anywhere 17 17 65535 0 → block_numbers b6 ≡ anywhere 18 255 0 0 → (h : Header) → count_having (b0 ∷ b1 ∷ b2 ∷ b3 ∷ b4 ∷ b5 ∷ b6 ∷ []) h ≡ flag_number (is_valid_header h)
valid_once b0 b1 b2 b3 b4 b5 b6 e0 e1 e2 e3 e4 e5 e6 h =
    count_cons (b1 ∷ b2 ∷ b3 ∷ b4 ∷ b5 ∷ b6 ∷ []) b0 h
    ∙ (λ i. flag_number (anywhere_has b0 h 0 0 0 0 e0 i) + (count_cons (b2 ∷ b3 ∷ b4 ∷ b5 ∷ b6 ∷ []) b1 h
    ∙ (λ i. flag_number (anywhere_has b1 h 1 1 255 0 e1 i) + (count_cons (b3 ∷ b4 ∷ b5 ∷ b6 ∷ []) b2 h
    ∙ (λ i. flag_number (anywhere_has b2 h 2 5 0 0 e2 i) + (count_cons (b4 ∷ b5 ∷ b6 ∷ []) b3 h
    ∙ (λ i. flag_number (anywhere_has b3 h 6 6 65535 1 e3 i) + (count_cons (b5 ∷ b6 ∷ []) b4 h
    ∙ (λ i. flag_number (anywhere_has b4 h 7 16 0 0 e4 i) + (count_cons (b6 ∷ []) b5 h
    ∙ (λ i. flag_number (anywhere_has b5 h 17 17 65535 0 e5 i) + (count_cons [] b6 h
    ∙ (λ i. flag_number (anywhere_has b6 h 18 255 0 0 e6 i) + count_none h i)) i)) i)) i)) i)) i)) i)
    ∙ all (others_fit h) h.proto h.a h.b h.est
    ∙ ap flag_number (sym (valid_is h))
  where
    all : (w : Bool) (p a b : ℕ) (e : Bool) → flag_number (w && part 0 0 0 0 p a b (flag_number e)) + (flag_number (w && part 1 1 255 0 p a b (flag_number e)) + (flag_number (w && part 2 5 0 0 p a b (flag_number e)) + (flag_number (w && part 6 6 65535 1 p a b (flag_number e)) + (flag_number (w && part 7 16 0 0 p a b (flag_number e)) + (flag_number (w && part 17 17 65535 0 p a b (flag_number e)) + (flag_number (w && part 18 255 0 0 p a b (flag_number e)) + 0)))))) ≡ flag_number (w && fits p a b e)
    all false p a b e = omega arith
    all true p a b e = omega (arith, parts_fit p a b e)

-- so do they have each valid header, and no other
pub valid_together : (bs : List Block) → ((h : Header) → count_having bs h ≡ flag_number (is_valid_header h)) → (h : Header) → any_has bs h ≡ is_valid_header h
valid_together bs once h = any_from_count bs h (is_valid_header h) (once h)

-- and no two of them have one in common
pub valid_disjoint : (bs : List Block) → ((h : Header) → count_having bs h ≡ flag_number (is_valid_header h)) → AreDisjoint bs
valid_disjoint bs once = disjoint_from_count bs (λ h. omega (arith, once h, flag_small (is_valid_header h)))

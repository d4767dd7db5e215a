-- Lists of blocks that stand for regions: counts, disjointness, and the blocks of the valid headers.
use Rattle.std.proofs.Common.{◌≡◌, ℕ, zero, suc, ◌+◌, ◌*◌, ◌<◌, ◌≤◌, ◌^◌, Bool, true, false, List, [], ◌∷◌, ◌++◌, length, get_or, take, refl, sym, ◌∙◌, ap, arith, lit<, inl, inr, nat_eq}
use Rattle.std.specs.Prelude.{◌&&◌, ◌||◌, ◌==◌, not, map, if◌then◌else◌}
use Rattle.std.specs.List.{All}
use Rattle.std.proofs.lemmas.Bool.{true≢false, eqb-true, and_parts, and_right, or_left, or_right, or_cases}
use Rattle.std.proofs.lemmas.List.{length-map, get_or-map}
use Rattle.std.proofs.lemmas.List.Elements.{All-nil, All-push, All-append}
use Rattle.std.proofs.lemmas.List.Folds.{Any-from_list_any, list_any_more}
use Rattle.np_space.specs.Flag.{flag_number}
use Rattle.np_space.specs.Header.{is_valid_header, has_widths, numbers_fit, IsLeast, header_le}
use Rattle.np_space.specs.Ternary.{ternary_has}
use Rattle.np_space.specs.Patterns.{any_pattern_has}
use Rattle.np_space.specs.Block.{address_number, block_has, block_numbers, valid_table, count_having, any_has, AreDisjoint}
use Rattle.np_space.specs.declared.headers.Header.{Header}
use Rattle.np_space.specs.declared.patterns.Ternary.{Ternary}
use Rattle.np_space.specs.declared.spans.Span.{Span}
use Rattle.np_space.specs.declared.blocks.Block.{Block}
use Rattle.np_space.specs.declared.blocks.AddressField.{AddressField}
use Rattle.np_space.proofs.AlgebraLemmas.{count_none, count_push, count_append, count_at, count_is_any, any_from_count, any_append, disjoint_from_count}
use Rattle.np_space.proofs.FlagLemmas.{flag_small, and_true, or_false}
use Rattle.np_space.proofs.BlockLemmas.{least_of, has_least}
use Rattle.np_space.proofs.OrderLemmas.{le_chained, le_either}
use Rattle.np_space.proofs.ValidLemmas.{valid_once}
use Rattle.np_region.specs.BlockLists.{LiesInValidBlock, IsBlockList, IsListOf, HasAdded}

-- ---- the blocks of the valid headers have no header but valid ones

-- every address
abbrev any_number : Ternary
any_number = record { value = 0; wild = 0xffff_ffff; cleared = refl; value_width = lit< tt; wild_width = lit< tt }

-- the numbers between two bounds
abbrev numbers : (low high : ℕ) → low ≤ high → high < 2 ^ 16 → Span
numbers low high l w = record { low = low; high = high; ordered = l; width = w }

-- some block with these numbers
abbrev blocks_of : (first last most flags : ℕ) → first ≤ last → last ≤ 255 → most < 2 ^ 16 → flags ≤ 1 → Block
blocks_of first last most flags o p w f =
    record {
      src = any_number;
      dst = any_number;
      proto = numbers first last o (omega arith);
      a = numbers 0 most (omega arith) w;
      b = numbers 0 most (omega arith) w;
      est = numbers 0 flags (omega arith) (omega arith);
      dscp = numbers 0 63 (omega arith) (omega arith);
      proto_width = p;
      est_width = f;
      dscp_width = omega arith;
    }

-- protocol 0
abbrev zeroth : Block
zeroth = blocks_of 0 0 0 0 (omega arith) (omega arith) (lit< tt) (omega arith)

-- ICMP
abbrev icmp : Block
icmp = blocks_of 1 1 255 0 (omega arith) (omega arith) (lit< tt) (omega arith)

-- the protocols from 2 to 5
abbrev low : Block
low = blocks_of 2 5 0 0 (omega arith) (omega arith) (lit< tt) (omega arith)

-- TCP
abbrev tcp : Block
tcp = blocks_of 6 6 65535 1 (omega arith) (omega arith) (lit< tt) (omega arith)

-- the protocols from 7 to 16
abbrev middle : Block
middle = blocks_of 7 16 0 0 (omega arith) (omega arith) (lit< tt) (omega arith)

-- UDP
abbrev udp : Block
udp = blocks_of 17 17 65535 0 (omega arith) (omega arith) (lit< tt) (omega arith)

-- the protocols from 18 on
abbrev high : Block
high = blocks_of 18 255 0 0 (omega arith) (omega arith) (lit< tt) (omega arith)

-- a header that counts in blocks that count each valid header once is valid
counted_valid : (bs : List Block) (h : Header) (i : ℕ) (v : Block) → ((g : Header) → count_having bs g ≡ flag_number (is_valid_header g)) → i < length bs → get_or bs i v ≡ v → block_has v h ≡ true → is_valid_header h ≡ true
counted_valid bs h i v once l at has =
    by (is_valid_header h) (once h) (count_at bs h i v l (ap (λ b. block_has b h) at ∙ has))
  where
    by : (t : Bool) → count_having bs h ≡ flag_number t → 0 < count_having bs h → t ≡ true
    by true e p = refl
    by false e p = absurd (omega arith)

-- a block whose numbers are those of a block of the valid headers has valid headers alone
listed_valid : (v : Block) (k : ℕ) → k < 7 → get_or valid_table k (block_numbers v) ≡ block_numbers v → (h : Header) → block_has v h ≡ true → is_valid_header h ≡ true
listed_valid v zero l e h has = counted_valid (v ∷ icmp ∷ low ∷ tcp ∷ middle ∷ udp ∷ high ∷ []) h 0 v (valid_once v icmp low tcp middle udp high (sym e) refl refl refl refl refl refl) (omega arith) refl has
listed_valid v (suc zero) l e h has = counted_valid (zeroth ∷ v ∷ low ∷ tcp ∷ middle ∷ udp ∷ high ∷ []) h 1 v (valid_once zeroth v low tcp middle udp high refl (sym e) refl refl refl refl refl) (omega arith) refl has
listed_valid v (suc (suc zero)) l e h has = counted_valid (zeroth ∷ icmp ∷ v ∷ tcp ∷ middle ∷ udp ∷ high ∷ []) h 2 v (valid_once zeroth icmp v tcp middle udp high refl refl (sym e) refl refl refl refl) (omega arith) refl has
listed_valid v (suc (suc (suc zero))) l e h has = counted_valid (zeroth ∷ icmp ∷ low ∷ v ∷ middle ∷ udp ∷ high ∷ []) h 3 v (valid_once zeroth icmp low v middle udp high refl refl refl (sym e) refl refl refl) (omega arith) refl has
listed_valid v (suc (suc (suc (suc zero)))) l e h has = counted_valid (zeroth ∷ icmp ∷ low ∷ tcp ∷ v ∷ udp ∷ high ∷ []) h 4 v (valid_once zeroth icmp low tcp v udp high refl refl refl refl (sym e) refl refl) (omega arith) refl has
listed_valid v (suc (suc (suc (suc (suc zero))))) l e h has = counted_valid (zeroth ∷ icmp ∷ low ∷ tcp ∷ middle ∷ v ∷ high ∷ []) h 5 v (valid_once zeroth icmp low tcp middle v high refl refl refl refl refl (sym e) refl) (omega arith) refl has
listed_valid v (suc (suc (suc (suc (suc (suc zero)))))) l e h has = counted_valid (zeroth ∷ icmp ∷ low ∷ tcp ∷ middle ∷ udp ∷ v ∷ []) h 6 v (valid_once zeroth icmp low tcp middle udp v refl refl refl refl refl refl (sym e)) (omega arith) refl has
listed_valid v (suc (suc (suc (suc (suc (suc (suc k))))))) l e h has = absurd (omega arith)

-- so has a block that lies in one of them
pub lies_valid : (b : Block) → LiesInValidBlock b → (h : Header) → block_has b h ≡ true → is_valid_header h ≡ true
lies_valid b lies h has = listed_valid lies.whole lies.listed.0 lies.listed.1 lies.listed.2 h (lies.inside h has)

-- ---- lists of blocks

-- blocks in the blocks of valid headers have valid headers alone
inside_valid : (blocks : List Block) → All LiesInValidBlock blocks → (h : Header) → any_has blocks h ≡ true → is_valid_header h ≡ true
inside_valid blocks inside h has =
    let some = Any-from_list_any (λ b. block_has b h) blocks has in
    lies_valid (get_or blocks some.0 some.1) (inside some.0 some.1 some.2) h (ap (λ b. block_has b h) some.3 ∙ some.4)

-- disjoint blocks that lie in them are a region
pub block_list : (blocks : List Block) → AreDisjoint blocks → All LiesInValidBlock blocks → IsBlockList blocks
block_list blocks disjoint inside = record { disjoint = disjoint; inside = inside; only_valid = inside_valid blocks inside }

-- blocks whose counts are those of a test
pub listed : (test : Header → Bool) (blocks : List Block) → ((h : Header) → count_having blocks h ≡ flag_number (test h)) → All LiesInValidBlock blocks → IsListOf test blocks
listed test blocks once inside =
    record {
      list = block_list blocks (disjoint_from_count blocks (λ h. omega (arith, once h, flag_small (test h)))) inside;
      exact = λ h. any_from_count blocks h (test h) (once h);
    }

-- what is added to nothing
pub made : (more : Header → ℕ) (test : Header → Bool) (old new : List Block) → HasAdded more old new → old ≡ [] → ((h : Header) → more h ≡ flag_number (test h)) → IsListOf test new
made more test old new added empty e =
    listed test new
    (λ h. added.count h ∙ (λ i. (ap (λ l. count_having l h) empty ∙ count_none h) i + e h i) ∙ zero_plus (flag_number (test h)))
    (added.inside (rw empty (All-nil LiesInValidBlock)))
  where
    zero_plus : (n : ℕ) → 0 + n ≡ n
    zero_plus n = omega arith

-- another test with the same answers
pub relisted : (s t : Header → Bool) (blocks : List Block) → IsListOf s blocks → ((h : Header) → s h ≡ t h) → IsListOf t blocks
relisted s t blocks l e = record { list = l.list; exact = λ h. l.exact h ∙ e h }

-- nothing is added
pub added_none : (more : Header → ℕ) (xs : List Block) → ((h : Header) → more h ≡ 0) → HasAdded more xs xs
added_none more xs e = record { count = λ h. omega (arith, e h); inside = λ all. all }

-- what two steps add
pub added_more : (f g k : Header → ℕ) (xs ys zs : List Block) → HasAdded f xs ys → HasAdded g ys zs → ((h : Header) → k h ≡ f h + g h) → HasAdded k xs zs
added_more f g k xs ys zs a b e = record { count = λ h. omega (arith, a.count h, b.count h, e h); inside = λ all. b.inside (a.inside all) }

-- the count of a list is its test as a number
pub counted : (blocks : List Block) → IsBlockList blocks → (h : Header) → count_having blocks h ≡ flag_number (any_has blocks h)
counted blocks list h = count_is_any blocks list.disjoint h

-- ---- flags and products

-- the product of two flags
pub flag_times : (s t : Bool) → flag_number s * flag_number t ≡ flag_number (s && t)
flag_times false t = omega arith
flag_times true t = omega arith

-- a flag times a count and a flag
flag_spread : (s t : Bool) (n : ℕ) → flag_number s * (n + flag_number t) ≡ flag_number s * n + flag_number (t && s)
flag_spread false false n = omega arith
flag_spread false true n = omega arith
flag_spread true false n = omega arith
flag_spread true true n = omega arith

-- a count and a flag, times a number
plus_flag_times : (n m : ℕ) (s : Bool) → (n + flag_number s) * m ≡ n * m + flag_number s * m
plus_flag_times n m false = grind arith
plus_flag_times n m true = grind arith

-- two conditions may change places
pub and_turned : (s t : Bool) → (s && t) ≡ (t && s)
and_turned false false = refl
and_turned false true = refl
and_turned true false = refl
and_turned true true = refl

-- ---- the steps

-- the common headers of two blocks
pub meet_added : (x y m : Block) (xs : List Block) → LiesInValidBlock x → ((h : Header) → block_has m h ≡ (block_has x h && block_has y h)) → HasAdded (λ h. flag_number (block_has x h && block_has y h)) xs (xs ++ m ∷ [])
meet_added x y m xs lies exact =
    record {
      count = λ h. count_push xs m h ∙ ap (λ t. count_having xs h + flag_number t) (exact h);
      inside = λ all. All-push LiesInValidBlock xs m all (record {
        whole = lies.whole;
        listed = lies.listed;
        inside = λ h has. lies.inside h (and_parts (block_has x h) (block_has y h) (sym (exact h) ∙ has)).0;
      });
    }

-- the common headers with one more block
pub meets_more : (b o : Block) (os xs ys zs : List Block) → HasAdded (λ h. flag_number (block_has b h) * count_having os h) xs ys → HasAdded (λ h. flag_number (block_has o h && block_has b h)) ys zs → HasAdded (λ h. flag_number (block_has b h) * count_having (os ++ o ∷ []) h) xs zs
meets_more b o os xs ys zs so_far step =
    added_more (λ h. flag_number (block_has b h) * count_having os h) (λ h. flag_number (block_has o h && block_has b h)) (λ h. flag_number (block_has b h) * count_having (os ++ o ∷ []) h) xs ys zs so_far step
    (λ h. ap (λ n. flag_number (block_has b h) * n) (count_push os o h) ∙ flag_spread (block_has b h) (block_has o h) (count_having os h))

-- the common headers of a list with one more block of another
pub common_of_more : (b : Block) (bs os xs ys zs : List Block) → HasAdded (λ h. count_having bs h * count_having os h) xs ys → HasAdded (λ h. flag_number (block_has b h) * count_having os h) ys zs → HasAdded (λ h. count_having (bs ++ b ∷ []) h * count_having os h) xs zs
common_of_more b bs os xs ys zs so_far step =
    added_more (λ h. count_having bs h * count_having os h) (λ h. flag_number (block_has b h) * count_having os h) (λ h. count_having (bs ++ b ∷ []) h * count_having os h) xs ys zs so_far step
    (λ h. ap (λ n. n * count_having os h) (count_push bs b h) ∙ plus_flag_times (count_having bs h) (count_having os h) (block_has b h))

-- the product of two counts is that of the common headers
pub common_count : (xs ys : List Block) → IsBlockList xs → IsBlockList ys → (h : Header) → count_having ys h * count_having xs h ≡ flag_number (any_has xs h && any_has ys h)
common_count xs ys first second h =
    (λ i. counted ys second h i * counted xs first h i) ∙ flag_times (any_has ys h) (any_has xs h) ∙ ap flag_number (and_turned (any_has ys h) (any_has xs h))

-- the headers that one block has and another hasn't
pub minus_added : (x y : Block) (xs rest : List Block) → LiesInValidBlock x → ((h : Header) → count_having rest h ≡ flag_number (block_has x h && not (block_has y h))) → HasAdded (λ h. flag_number (block_has x h && not (block_has y h))) xs (xs ++ rest)
minus_added x y xs rest lies once =
    record {
      count = λ h. count_append xs rest h ∙ ap (λ n. count_having xs h + n) (once h);
      inside = λ all. All-append LiesInValidBlock xs rest all (λ i d l. record {
        whole = lies.whole;
        listed = lies.listed;
        inside = λ h has. lies.inside h (by (block_has x h) (block_has y h) h (once h) (count_at rest h i d l has));
      });
    }
  where
    by : (s t : Bool) (h : Header) → count_having rest h ≡ flag_number (s && not t) → 0 < count_having rest h → s ≡ true
    by true t h e p = refl
    by false t h e p = absurd (omega arith)

-- what one more block leaves
pub without_more : (x y : Block) (seen xs ys zs : List Block) → HasAdded (λ h. count_having seen h * flag_number (not (block_has y h))) xs ys → HasAdded (λ h. flag_number (block_has x h && not (block_has y h))) ys zs → HasAdded (λ h. count_having (seen ++ x ∷ []) h * flag_number (not (block_has y h))) xs zs
without_more x y seen xs ys zs so_far step =
    added_more (λ h. count_having seen h * flag_number (not (block_has y h))) (λ h. flag_number (block_has x h && not (block_has y h))) (λ h. count_having (seen ++ x ∷ []) h * flag_number (not (block_has y h))) xs ys zs so_far step
    (λ h.
    ap (λ n. n * flag_number (not (block_has y h))) (count_push seen x h)
    ∙ plus_flag_times (count_having seen h) (flag_number (not (block_has y h))) (block_has x h)
    ∙ ap (λ n. count_having seen h * flag_number (not (block_has y h)) + n) (flag_times (block_has x h) (not (block_has y h))))

-- the counts of what a block leaves
pub without_count : (xs : List Block) (y : Block) → IsBlockList xs → (h : Header) → count_having xs h * flag_number (not (block_has y h)) ≡ flag_number (any_has xs h && not (block_has y h))
without_count xs y list h = ap (λ n. n * flag_number (not (block_has y h))) (counted xs list h) ∙ flag_times (any_has xs h) (not (block_has y h))

-- what is left after each of some blocks is taken out, and after one more
pub difference_more : (xs seen rest new : List Block) (y : Block) → IsListOf (λ h. any_has xs h && not (any_has seen h)) rest → IsListOf (λ h. any_has rest h && not (block_has y h)) new → IsListOf (λ h. any_has xs h && not (any_has (seen ++ y ∷ []) h)) new
difference_more xs seen rest new y so_far step =
    relisted (λ h. any_has rest h && not (block_has y h)) (λ h. any_has xs h && not (any_has (seen ++ y ∷ []) h)) new step
    (λ h.
    ap (λ t. t && not (block_has y h)) (so_far.exact h)
    ∙ by (any_has xs h) (any_has seen h) (block_has y h)
    ∙ ap (λ t. any_has xs h && not t) (sym (pushed h)))
  where
    by : (a b c : Bool) → ((a && not b) && not c) ≡ (a && not (b || c))
    by false b c = refl
    by true false c = refl
    by true true c = refl

    last : (h : Header) → any_has (y ∷ []) h ≡ block_has y h
    last h = or_false (block_has y h)

    pushed : (h : Header) → any_has (seen ++ y ∷ []) h ≡ (any_has seen h || block_has y h)
    pushed h = any_append seen (y ∷ []) h ∙ ap (λ t. any_has seen h || t) (last h)

-- no block takes anything out
pub difference_none : (xs : List Block) → IsBlockList xs → IsListOf (λ h. any_has xs h && not (any_has [] h)) xs
difference_none xs list = record { list = list; exact = λ h. sym (and_true (any_has xs h)) }

-- a list with what another has beside it
pub union_listed : (xs ys rest : List Block) → IsBlockList xs → IsListOf (λ h. any_has ys h && not (any_has xs h)) rest → IsListOf (λ h. any_has xs h || any_has ys h) (rest ++ xs)
union_listed xs ys rest list beside =
    listed (λ h. any_has xs h || any_has ys h) (rest ++ xs)
    (λ h.
    count_append rest xs h
    ∙ (λ i. (counted rest beside.list h ∙ ap flag_number (beside.exact h)) i + counted xs list h i)
    ∙ by (any_has xs h) (any_has ys h))
    (All-append LiesInValidBlock rest xs beside.list.inside list.inside)
  where
    by : (s t : Bool) → flag_number (t && not s) + flag_number s ≡ flag_number (s || t)
    by false false = refl
    by false true = refl
    by true false = refl
    by true true = refl

-- a valid header has the widths
widths_follow : (h : Header) (t : Bool) → (is_valid_header h && (has_widths h && t)) ≡ (is_valid_header h && t)
unfolding is_valid_header
widths_follow h t = by (has_widths h) (h.proto == 6 || not h.est) (numbers_fit h.proto h.a h.b) where
  by : (w f n : Bool) → ((w && f && n) && (w && t)) ≡ ((w && f && n) && t)
  by false f n = refl
  by true f n = refl

-- a list with what a pattern has among the valid headers
pub and_pattern_listed : (field : AddressField) (p : Ternary) (block : Block) (xs ys one new : List Block) → ((h : Header) → block_has block h ≡ (has_widths h && ternary_has p (address_number field h)))
    → IsListOf (λ h. is_valid_header h && block_has block h) one → ys ≡ one → IsListOf (λ h. any_has xs h || any_has ys h) new
    → IsListOf (λ h. any_has xs h || (is_valid_header h && ternary_has p (address_number field h))) new
and_pattern_listed field p block xs ys one new has of_one same both =
    relisted (λ h. any_has xs h || any_has ys h) (λ h. any_has xs h || (is_valid_header h && ternary_has p (address_number field h))) new both
    (λ h.
    ap (λ l. any_has xs h || any_has l h) same
    ∙ ap (λ b. any_has xs h || b) (of_one.exact h ∙ ap (λ b. is_valid_header h && b) (has h) ∙ widths_follow h (ternary_has p (address_number field h))))

-- no pattern has anything
pub none_with : (field : AddressField) → IsListOf (λ h. is_valid_header h && any_pattern_has [] (address_number field h)) []
none_with field =
    listed (λ h. is_valid_header h && any_pattern_has [] (address_number field h)) [] (λ h. count_none h ∙ ap flag_number (sym (and_right (is_valid_header h) false refl))) (All-nil LiesInValidBlock)

-- what the patterns so far have, and one more
pub with_more : (field : AddressField) (ps : List Ternary) (i : ℕ) (p d : Ternary) (xs ys new : List Block) → i < length ps → p ≡ get_or ps i d
    → IsListOf (λ h. is_valid_header h && any_pattern_has (take i ps) (address_number field h)) xs → ys ≡ xs
    → IsListOf (λ h. any_has ys h || (is_valid_header h && ternary_has p (address_number field h))) new
    → IsListOf (λ h. is_valid_header h && any_pattern_has (take (i + 1) ps) (address_number field h)) new
with_more field ps i p d xs ys new within is so_far same more =
    relisted (λ h. any_has ys h || (is_valid_header h && ternary_has p (address_number field h))) (λ h. is_valid_header h && any_pattern_has (take (i + 1) ps) (address_number field h)) new more
    (λ h.
    ap (λ l. any_has l h || (is_valid_header h && ternary_has p (address_number field h))) same
    ∙ ap (λ b. b || (is_valid_header h && ternary_has p (address_number field h))) (so_far.exact h)
    ∙ by (is_valid_header h) (any_pattern_has (take i ps) (address_number field h)) (ternary_has p (address_number field h))
    ∙ ap (λ q. is_valid_header h && (any_pattern_has (take i ps) (address_number field h) || ternary_has q (address_number field h))) is
    ∙ ap (λ b. is_valid_header h && b) (sym (list_any_more (λ q. ternary_has q (address_number field h)) ps i d within)))
  where
    by : (v s t : Bool) → ((v && s) || (v && t)) ≡ (v && (s || t))
    by false s t = refl
    by true s t = refl

-- the blocks of the valid headers
pub whole_listed : (blocks : List Block) → map block_numbers blocks ≡ valid_table → ((h : Header) → count_having blocks h ≡ flag_number (is_valid_header h)) → IsListOf is_valid_header blocks
whole_listed blocks table once =
    listed is_valid_header blocks once (λ i d l. record {
      whole = get_or blocks i d;
      listed = (
        i,
        omega (arith, length-map blocks block_numbers, ap length table),
        ap (λ t. get_or t i (block_numbers (get_or blocks i d))) (sym table) ∙ get_or-map block_numbers blocks i d (block_numbers (get_or blocks i d)) l,
      );
      inside = λ h has. has;
    })

-- a list without headers is empty, since each block has one
pub nothing : (blocks : List Block) → ((h : Header) → any_has blocks h ≡ false) → blocks ≡ []
nothing [] none = refl
nothing (b ∷ bs) none = absurd (true≢false (sym (or_left (block_has b (least_of b)) (any_has bs (least_of b)) (has_least b)) ∙ none (least_of b)))

-- ---- the least header

-- another test with the same answers has the same least header
pub least_same : (s t : Header → Bool) (x : Header) → IsLeast s x → ((h : Header) → s h ≡ t h) → IsLeast t x
least_same s t x l e = record { has = sym (e x) ∙ l.has; least = λ h has. l.least h (e h ∙ has) }

-- the lesser of two least headers
pub lesser_least : (s t : Header → Bool) (x y : Header) → IsLeast s x → IsLeast t y → IsLeast (λ h. s h || t h) (if header_le x y then x else y)
lesser_least s t x y first second = by (header_le x y) refl
  where
    by : (c : Bool) → header_le x y ≡ c → IsLeast (λ h. s h || t h) (if c then x else y)
    by true le =
        record {
          has = or_left (s x) (t x) first.has;
          least = λ h has. elim (or_cases (s h) (t h) has) [ inl p ↦ first.least h p | inr p ↦ le_chained x y h le (second.least h p) ];
        }
    by false after =
        let turned : header_le y x ≡ true = elim (le_either x y) [ inl p ↦ absurd (true≢false (sym p ∙ after)) | inr p ↦ p ] in
        record {
          has = or_right (s y) (t y) second.has;
          least = λ h has. elim (or_cases (s h) (t h) has) [ inl p ↦ le_chained y x h turned (first.least h p) | inr p ↦ second.least h p ];
        }

-- a block alone, where nothing passed before
pub first_least : (s t : Header → Bool) (x : Header) → ((h : Header) → s h ≡ false) → IsLeast t x → IsLeast (λ h. s h || t h) x
first_least s t x none l = least_same t (λ h. s h || t h) x l (λ h. sym (ap (λ b. b || t h) (none h)))

-- the least of some blocks and one more
pub least_more : (seen : List Block) (b : Block) (x : Header) → IsLeast (λ h. any_has seen h || block_has b h) x → IsLeast (any_has (seen ++ b ∷ [])) x
least_more seen b x l =
    least_same (λ h. any_has seen h || block_has b h) (any_has (seen ++ b ∷ [])) x l
    (λ h. sym (any_append seen (b ∷ []) h ∙ ap (λ t. any_has seen h || t) (or_false (block_has b h))))

-- so the test of the length says that there is no header
pub empty_has_none : (blocks : List Block) → nat_eq (length blocks) 0 ≡ true → (h : Header) → any_has blocks h ≡ false
empty_has_none [] e h = refl
empty_has_none (b ∷ bs) e h = let none : length (b ∷ bs) ≡ 0 = eqb-true (length (b ∷ bs)) 0 e in absurd (omega arith)

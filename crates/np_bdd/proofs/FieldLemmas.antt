-- The fields of a header among its bits, and what one bit more of a field says of its number.
use Rattle.std.proofs.Common.{◌≡◌, ℕ, ◌+◌, ◌-◌, ◌*◌, ◌/◌, ◌%◌, ◌<◌, ◌^◌, Bool, true, false, List, [], ◌∷◌, ◌++◌, length, slice_index_or, refl, sym, ◌∙◌, ap, arith, if◌then◌else◌}
use Rattle.std.specs.Prelude.{◌&&◌, ◌==◌}
use Rattle.std.specs.Int.{bit_at}
use Rattle.std.proofs.Math.Nat.{mod-lt, mod-eq_of_lt}
use Rattle.std.proofs.lemmas.Bool.Decides.{nat_tests}
use Rattle.std.proofs.lemmas.Nat.{mod-pow-add, pow_pos}
use Rattle.std.proofs.lemmas.Nat.Bits.{bit_at-lt, bit_at_cat_low}
use Rattle.np_space.specs.Bit.{has_bit}
use Rattle.np_space.specs.Bits.{bits_of, width_of, header_bits}
use Rattle.np_space.specs.Flag.{flag_number}
use Rattle.np_space.specs.Header.{HasWidths}
use Rattle.np_space.specs.declared.headers.Header.{Header}
use Rattle.np_space.proofs.BitOrderLaws.{bits_in_place}
use Rattle.np_space.proofs.FlagLemmas.{flag_small}
use Rattle.np_bdd.specs.declared.views.View.{View}
use Rattle.np_bdd.specs.Views.{Bits, bits_of_header, leads_to_yes}
use Rattle.np_bdd.specs.Nodes.{KeepsNodes, StartsAt, Chooses}
use Rattle.np_bdd.specs.Fields.{AreBitsOf, TestsField, HasHeaders, AlwaysAnswers}
use Rattle.np_bdd.proofs.KeepingLemmas.{keeps_nodes_chained}

-- ---- one bit of a field

-- the bits of a number below one of them are those of the rest
pub bit_of_rest : (n w i : ℕ) → i < w → has_bit (n % 2 ^ w) i ≡ has_bit n i
unfolding has_bit
bit_of_rest n w i l =
    let d : 0 < 2 ^ w = pow_pos w in
    let parts : n ≡ n / 2 ^ w * 2 ^ w + n % 2 ^ w = omega arith in
    ap (λ m. m == 1) (sym (ap (λ m. bit_at m i) parts ∙ bit_at_cat_low (n / 2 ^ w) w (n % 2 ^ w) i l))

-- the field without its first bit
pub rest_bits : (bits : Bits) (first w n : ℕ) → AreBitsOf bits first (1 + w) n → AreBitsOf bits (1 + first) w (n % 2 ^ w)
rest_bits bits first w n a = record {
  small = mod-lt n (pow_pos w);
  each = λ i l. ap bits (by i) ∙ a.each (1 + i) (omega arith) ∙ ap (λ j. has_bit n j) (place i l) ∙ sym (bit_of_rest n w (w - 1 - i) (omega arith));
}
  where
    by : (i : ℕ) → 1 + first + i ≡ first + (1 + i)
    by i = omega arith

    place : (i : ℕ) → i < w → 1 + w - 1 - (1 + i) ≡ w - 1 - i
    place i l = omega arith

-- its first bit is the highest of the number
pub first_bit : (bits : Bits) (first w n : ℕ) → AreBitsOf bits first (1 + w) n → bits first ≡ has_bit n w
first_bit bits first w n a = ap bits at ∙ a.each 0 (omega arith) ∙ ap (λ j. has_bit n j) place
  where
    at : first ≡ first + 0
    at = omega arith

    place : 1 + w - 1 - 0 ≡ w
    place = omega arith

-- a bit that is clear
no_bit : (b : ℕ) → b < 2 → (b == 1) ≡ false → b ≡ 0
no_bit b l h = grind (arith, nat_tests)

-- a bit that is set
one_bit : (b : ℕ) → b < 2 → (b == 1) ≡ true → b ≡ 1
one_bit b l h = grind (arith, nat_tests)

-- a number, its highest bit apart
top_bit : (n w : ℕ) → n < 2 ^ (1 + w) → n ≡ bit_at n w * 2 ^ w + n % 2 ^ w
top_bit n w l = sym (mod-eq_of_lt l) ∙ mod-pow-add n 1 w

-- the bit is clear
pub top_clear : (n w : ℕ) → n < 2 ^ (1 + w) → has_bit n w ≡ false → n ≡ n % 2 ^ w
unfolding has_bit
top_clear n w l h = top_bit n w l ∙ ap (λ b. b * 2 ^ w + n % 2 ^ w) (no_bit (bit_at n w) (bit_at-lt n w) h) ∙ omega arith

-- the bit is set
pub top_set : (n w : ℕ) → n < 2 ^ (1 + w) → has_bit n w ≡ true → n ≡ 2 ^ w + n % 2 ^ w
unfolding has_bit
top_set n w l h = top_bit n w l ∙ ap (λ b. b * 2 ^ w + n % 2 ^ w) (one_bit (bit_at n w) (bit_at-lt n w) h) ∙ omega arith

-- ---- more views

-- one change after another
pub then_kept : {first next last : List View} → KeepsNodes first next → KeepsNodes next last → KeepsNodes first last
then_kept {first = first} {next = next} {last = last} a b = keeps_nodes_chained first next last a b

-- what tests a field does so among more views
pub field_kept : (test : ℕ → Bool) (first width : ℕ) (old new : List View) (tail x : ℕ) → KeepsNodes old new → tail < length old → x < length old
    → TestsField test first width old tail x → TestsField test first width new tail x
field_kept test first width old new tail x kept tail_there there tests bits n are =
    kept.same x there bits ∙ tests bits n are ∙ ap (λ b. test n && b) (sym (kept.same tail tail_there bits))

-- where it starts doesn't change
pub starts_kept : (old new : List View) (bit x : ℕ) → KeepsNodes old new → StartsAt old bit x → StartsAt new bit x
starts_kept old new bit x kept s = record { there = kept.there x s.there; from = rw (kept.bit x s.there) s.from }

-- ---- one node more

-- A node that chooses by the field's first bit tests the field where its branches test the rest, each as the test says
-- with that bit.
pub split_field : (test low_test high_test : ℕ → Bool) (first width w : ℕ) → width ≡ 1 + w
    → ((n : ℕ) → n < 2 ^ w → test n ≡ low_test n)
    → ((n : ℕ) → n < 2 ^ w → test (2 ^ w + n) ≡ high_test n)
    → (views : List View) (tail low high x : ℕ) → TestsField low_test (1 + first) w views tail low → TestsField high_test (1 + first) w views tail high
    → Chooses views first low high x → TestsField test first width views tail x
split_field test low_test high_test first width w e below above views tail low high x low_tests high_tests chooses bits n are_width =
    chooses bits ∙ ap (λ b. if b then leads_to_yes views bits high else leads_to_yes views bits low) (first_bit bits first w n are) ∙ by (has_bit n w) refl
  where
    are : AreBitsOf bits first (1 + w) n
    are = rw e at are_width

    rest : AreBitsOf bits (1 + first) w (n % 2 ^ w)
    rest = rest_bits bits first w n are

    by : (b : Bool) → has_bit n w ≡ b → (if b then leads_to_yes views bits high else leads_to_yes views bits low) ≡ (test n && leads_to_yes views bits tail)
    by false h = low_tests bits (n % 2 ^ w) rest ∙ ap (λ b. b && leads_to_yes views bits tail) (sym (ap test (top_clear n w are.small h) ∙ below (n % 2 ^ w) rest.small))
    by true h = high_tests bits (n % 2 ^ w) rest ∙ ap (λ b. b && leads_to_yes views bits tail) (sym (ap test (top_set n w are.small h) ∙ above (n % 2 ^ w) rest.small))

-- ---- the fields of a header

-- a field of it, with those before and those after
field_bits : (h : Header) (before after : List (ℕ × ℕ)) (width n : ℕ) → n < 2 ^ width → header_bits h ≡ bits_of (before ++ (width, n) ∷ after)
    → AreBitsOf (bits_of_header h) (width_of before) width n
unfolding bits_of_header has_bit
field_bits h before after width n l e = record {
  small = l;
  each = λ i inside. ap (λ m. m == 1) (ap (λ bits. slice_index_or bits (width_of before + i) 0) e ∙ bits_in_place before after width n i 0 inside);
}

-- the fields from `dscp` on, and from each before it
abbrev from_dscp : Header → List (ℕ × ℕ)
from_dscp h = (6, h.dscp) ∷ []

abbrev from_est : Header → List (ℕ × ℕ)
from_est h = (1, flag_number h.est) ∷ from_dscp h

abbrev from_b : Header → List (ℕ × ℕ)
from_b h = (16, h.b) ∷ from_est h

abbrev from_a : Header → List (ℕ × ℕ)
from_a h = (16, h.a) ∷ from_b h

abbrev from_proto : Header → List (ℕ × ℕ)
from_proto h = (8, h.proto) ∷ from_a h

abbrev from_dst : Header → List (ℕ × ℕ)
from_dst h = (32, h.dst) ∷ from_proto h

-- the fields one by one
pub src_bits : (h : Header) → HasWidths h → AreBitsOf (bits_of_header h) 0 32 h.src
unfolding width_of
src_bits h w = field_bits h [] (from_dst h) 32 h.src w.src refl

pub dst_bits : (h : Header) → HasWidths h → AreBitsOf (bits_of_header h) 32 32 h.dst
unfolding width_of
dst_bits h w = field_bits h ((32, h.src) ∷ []) (from_proto h) 32 h.dst w.dst refl

pub proto_bits : (h : Header) → HasWidths h → AreBitsOf (bits_of_header h) 64 8 h.proto
unfolding width_of
proto_bits h w = field_bits h ((32, h.src) ∷ (32, h.dst) ∷ []) (from_a h) 8 h.proto w.proto refl

pub a_bits : (h : Header) → HasWidths h → AreBitsOf (bits_of_header h) 72 16 h.a
unfolding width_of
a_bits h w = field_bits h ((32, h.src) ∷ (32, h.dst) ∷ (8, h.proto) ∷ []) (from_b h) 16 h.a w.a refl

pub b_bits : (h : Header) → HasWidths h → AreBitsOf (bits_of_header h) 88 16 h.b
unfolding width_of
b_bits h w = field_bits h ((32, h.src) ∷ (32, h.dst) ∷ (8, h.proto) ∷ (16, h.a) ∷ []) (from_est h) 16 h.b w.b refl

pub est_bits : (h : Header) → HasWidths h → AreBitsOf (bits_of_header h) 104 1 (flag_number h.est)
unfolding width_of
est_bits h w =
    field_bits h ((32, h.src) ∷ (32, h.dst) ∷ (8, h.proto) ∷ (16, h.a) ∷ (16, h.b) ∷ []) (from_dscp h) 1 (flag_number h.est) (omega (arith, flag_small h.est)) refl

pub dscp_bits : (h : Header) → HasWidths h → AreBitsOf (bits_of_header h) 105 6 h.dscp
unfolding width_of
dscp_bits h w =
    field_bits h ((32, h.src) ∷ (32, h.dst) ∷ (8, h.proto) ∷ (16, h.a) ∷ (16, h.b) ∷ (1, flag_number h.est) ∷ []) [] 6 h.dscp w.dscp refl

-- ---- the headers of a place

-- a place from which every header leads to Yes
pub has_every : (views : List View) (x : ℕ) → AlwaysAnswers true views x → HasHeaders (λ h. true) views x
has_every views x every h w = every.leads (bits_of_header h)

-- more views change nothing
pub headers_kept : (test : Header → Bool) (old new : List View) (x : ℕ) → KeepsNodes old new → x < length old → HasHeaders test old x → HasHeaders test new x
headers_kept test old new x kept there has h w = kept.same x there (bits_of_header h) ∙ has h w

-- one field more
pub has_field : (field : Header → ℕ) (first width : ℕ) → ((h : Header) → HasWidths h → AreBitsOf (bits_of_header h) first width (field h))
    → (test : ℕ → Bool) (rest : Header → Bool) (old new : List View) (tail x : ℕ) → KeepsNodes old new → tail < length old
    → HasHeaders rest old tail → TestsField test first width new tail x → HasHeaders (λ h. test (field h) && rest h) new x
has_field field first width are test rest old new tail x kept there has tests h w =
    tests (bits_of_header h) (field h) (are h w) ∙ ap (λ b. test (field h) && b) (headers_kept rest old new tail kept there has h w)

-- the same test in other words
pub has_alike : (test other : Header → Bool) (views : List View) (x : ℕ) → ((h : Header) → test h ≡ other h) → HasHeaders test views x → HasHeaders other views x
has_alike test other views x alike has h w = has h w ∙ alike h

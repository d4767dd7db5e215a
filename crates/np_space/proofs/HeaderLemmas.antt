-- Facts on headers: what a valid one has, and that their order is total.
use Rattle.std.proofs.Common.{◌≡◌, ℕ, ◌<◌, ◌^◌, Bool, true, false, List, [], ◌∷◌, refl, sym, ◌∙◌, ap, arith, nat_cmp, inl, inr}
use Rattle.std.specs.Prelude.{◌≢◌, ◌==◌, ◌||◌, ◌&&◌, not, nat_lt, if◌then◌else◌}
use Rattle.std.specs.Ordering.{MatchOrdering, ordering_then}
use Rattle.std.specs.Cmp.{IsTotalOrder}
use Rattle.std.specs.Cmp.Lexicographic.{slice_cmp, on_texts}
use Rattle.std.specs.declared.cmp.Ordering.{Ordering}
use Rattle.std.specs.declared.cmp.Ordering.TheVariants.{Less, Equal, Greater}
use Rattle.std.proofs.lemmas.Bool.Decides.{nat_tests}
use Rattle.std.proofs.lemmas.Bool.{and_parts, ltb-true, lt-ltb, eq-eqb, eqb-true, ne_eqb, or_left, or_right, cases_eq}
use Rattle.std.proofs.lemmas.Cmp.{ranked}
use Rattle.np_space.specs.Flag.{flag_number}
use Rattle.np_space.specs.declared.headers.Header.{Header}
use Rattle.np_space.specs.Header.{is_valid_header, IsValid, has_widths, numbers_fit, HasWidths, ValidAsStated, header_order, header_numbers, TieOnlyWhenEqual}

-- a header without addresses, ports or flag is valid for each protocol
pub valid_bare : (p : ℕ) → p < 256 → IsValid (record { src = 0; dst = 0; proto = p; a = 0; b = 0; est = false; dscp = 0 })
unfolding is_valid_header
valid_bare p h = grind (arith, nat_tests)

-- the fields of a valid header are numbers of their widths
pub valid_widths : (h : Header) → IsValid h → HasWidths h
unfolding is_valid_header
valid_widths h valid =
    let widths = (and_parts _ _ (and_parts _ _ valid).0).0 in
    let before_dscp = and_parts _ _ widths in
    let before_b = and_parts _ _ before_dscp.0 in
    let before_a = and_parts _ _ before_b.0 in
    let before_proto = and_parts _ _ before_a.0 in
    let addresses = and_parts _ _ before_proto.0 in
    record {
      src = ltb-true h.src (2 ^ 32) addresses.0;
      dst = ltb-true h.dst (2 ^ 32) addresses.1;
      proto = ltb-true h.proto (2 ^ 8) before_proto.1;
      a = ltb-true h.a (2 ^ 16) before_a.1;
      b = ltb-true h.b (2 ^ 16) before_b.1;
      dscp = ltb-true h.dscp (2 ^ 6) before_dscp.1;
    }

-- and such numbers pass the test
widths_valid : (h : Header) → HasWidths h → has_widths h ≡ true
widths_valid h w = λ i.
    lt-ltb h.src (2 ^ 32) w.src i && lt-ltb h.dst (2 ^ 32) w.dst i && lt-ltb h.proto (2 ^ 8) w.proto i && lt-ltb h.a (2 ^ 16) w.a i && lt-ltb h.b (2 ^ 16) w.b i && lt-ltb h.dscp (2 ^ 6) w.dscp i

-- the flag asks for TCP
flag_rule : (p : ℕ) (e : Bool) → (p == 6 || not e) ≡ true → e ≡ true → p ≡ 6
flag_rule p e h f = grind (arith, nat_tests)

-- and the test holds where it does
rule_flag : (p : ℕ) (e : Bool) → (e ≡ true → p ≡ 6) → (p == 6 || not e) ≡ true
rule_flag p false f = or_right (p == 6) true refl
rule_flag p true f = or_left (p == 6) false (eq-eqb p 6 (f refl))

-- the type and the code of ICMP are below 256
typed_rule : (a b : ℕ) → numbers_fit 1 a b ≡ true → (a < 256) × (b < 256)
typed_rule a b h = let both = and_parts (nat_lt a 256) (nat_lt b 256) h in (ltb-true a 256 both.0, ltb-true b 256 both.1)

-- for another protocol both numbers are 0
bare_fit : (p a b : ℕ) → p ≢ 1 → p ≢ 6 → p ≢ 17 → numbers_fit p a b ≡ (a == 0 && b == 0)
bare_fit p a b n1 n6 n17 = (λ i. if ((ne_eqb p 6 n6 i) || (ne_eqb p 17 n17 i)) then true else (if (ne_eqb p 1 n1 i) then nat_lt a 256 && nat_lt b 256 else (a == 0 && b == 0)))

-- so they are where the test holds
bare_rule : (p a b : ℕ) → p ≢ 1 → p ≢ 6 → p ≢ 17 → numbers_fit p a b ≡ true → (a ≡ 0) × (b ≡ 0)
bare_rule p a b n1 n6 n17 h = let both = and_parts (a == 0) (b == 0) (sym (bare_fit p a b n1 n6 n17) ∙ h) in (eqb-true a 0 both.0, eqb-true b 0 both.1)

-- and the test holds where each rule does
rule_numbers : (p a b : ℕ) → (p ≡ 1 → (a < 256) × (b < 256)) → (p ≢ 1 → p ≢ 6 → p ≢ 17 → (a ≡ 0) × (b ≡ 0)) → numbers_fit p a b ≡ true
rule_numbers p a b typed bare =
    elim (cases_eq p 1) [
      | inl e1 ↦ let both = typed e1 in ap (λ n. numbers_fit n a b) e1 ∙ (λ i. lt-ltb a 256 both.0 i && lt-ltb b 256 both.1 i)
      | inr n1 ↦ elim (cases_eq p 6) [
        | inl e6 ↦ ap (λ n. numbers_fit n a b) e6
        | inr n6 ↦ elim (cases_eq p 17) [
          | inl e17 ↦ ap (λ n. numbers_fit n a b) e17
          | inr n17 ↦ let both = bare n1 n6 n17 in bare_fit p a b n1 n6 n17 ∙ (λ i. eq-eqb a 0 both.0 i && eq-eqb b 0 both.1 i)
        ]
      ]
    ]

-- validity is what its rules say
pub valid_as_stated : ValidAsStated
unfolding is_valid_header
valid_as_stated h = (
  (λ valid.
      let rules = and_parts _ _ valid in
      let first = and_parts _ _ rules.0 in
      record {
        widths = valid_widths h valid;
        flagged = flag_rule h.proto h.est first.1;
        typed = λ e. typed_rule h.a h.b (sym (ap (λ n. numbers_fit n h.a h.b) e) ∙ rules.1);
        bare = λ n1 n6 n17. bare_rule h.proto h.a h.b n1 n6 n17 rules.1;
      }),
  (λ packet. λ i.
      widths_valid h packet.widths i && rule_flag h.proto h.est packet.flagged i && rule_numbers h.proto h.a h.b packet.typed packet.bare i),
)

-- the order is total
pub order_total : IsTotalOrder header_order
unfolding header_order
order_total = on_texts header_numbers

-- where two steps of an order tie, both tie
first_tied : (x y : ℕ) (o : Ordering) → ordering_then (nat_cmp x y) o ≡ Equal → (x ≡ y) × (o ≡ Equal)
first_tied x y o h = by (nat_cmp x y) (ranked x y (nat_cmp x y) refl) h
  where
    by : (r : Ordering) → MatchOrdering r (x < y) (x ≡ y) (y < x) → ordering_then r o ≡ Equal → (x ≡ y) × (o ≡ Equal)
    by Less m e = absurd (cc)
    by Equal m e = (m, e)
    by Greater m e = absurd (cc)

-- only equal lists tie
numbers_tied : (xs ys : List ℕ) → slice_cmp nat_cmp xs ys ≡ Equal → xs ≡ ys
numbers_tied [] [] h = refl
numbers_tied [] (y ∷ ys) h = cc
numbers_tied (x ∷ xs) [] h = cc
numbers_tied (x ∷ xs) (y ∷ ys) h =
    let first = first_tied x y (slice_cmp nat_cmp xs ys) h in
    let rest = numbers_tied xs ys first.1 in
    cc

-- flags with the same number are equal
flags_tied : (s t : Bool) → flag_number s ≡ flag_number t → s ≡ t
flags_tied false false h = refl
flags_tied false true h = absurd (omega arith)
flags_tied true false h = absurd (omega arith)
flags_tied true true h = refl

-- only equal headers tie
pub order_ties : TieOnlyWhenEqual
unfolding header_order
order_ties x y h =
    let same = numbers_tied (header_numbers x) (header_numbers y) h in
    let src : x.src ≡ y.src = cc in
    let dst : x.dst ≡ y.dst = cc in
    let proto : x.proto ≡ y.proto = cc in
    let a : x.a ≡ y.a = cc in
    let b : x.b ≡ y.b = cc in
    let flag : flag_number x.est ≡ flag_number y.est = cc in
    let dscp : x.dscp ≡ y.dscp = cc in
    let est = flags_tied x.est y.est flag in
    λ i. record { src = src i; dst = dst i; proto = proto i; a = a i; b = b i; est = est i; dscp = dscp i }

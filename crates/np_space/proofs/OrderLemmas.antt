-- The order of headers as a test: `header_le` is reflexive, transitive and total, and headers that
-- stand below each other are equal.
use Rattle.std.proofs.Common.{◌≡◌, ℕ, ◌<◌, ◌≤◌, true, false, refl, sym, ap, arith, nat_cmp}
use Rattle.std.specs.Prelude.{◌⊎◌}
use Rattle.std.specs.Ordering.{MatchOrdering, ordering_then, ordering_reverse, is_le, is_gt}
use Rattle.std.specs.declared.cmp.Ordering.{Ordering}
use Rattle.std.specs.declared.cmp.Ordering.TheVariants.{Less, Equal, Greater}
use Rattle.std.proofs.Common.{inl, inr}
use Rattle.std.proofs.lemmas.Bool.{true≢false}
use Rattle.std.proofs.lemmas.Cmp.{ranked, upto}
use Rattle.np_space.specs.Flag.{flag_number}
use Rattle.np_space.specs.Header.{header_order, header_le}
use Rattle.np_space.specs.declared.headers.Header.{Header}
use Rattle.np_space.proofs.HeaderLemmas.{order_total, order_ties}

-- at most is not greater
le_gt : (o : Ordering) → is_le o ≡ true → is_gt o ≡ false
le_gt Less h = refl
le_gt Equal h = refl
le_gt Greater h = sym h

-- not greater is at most
gt_le : (o : Ordering) → is_gt o ≡ false → is_le o ≡ true
gt_le Less h = refl
gt_le Equal h = refl
gt_le Greater h = sym h

-- `header_le` is transitive
pub le_chained : (x y z : Header) → header_le x y ≡ true → header_le y z ≡ true → header_le x z ≡ true
unfolding header_le
le_chained x y z h g = gt_le (header_order x z) (upto order_total x y z (le_gt (header_order x y) h) (le_gt (header_order y z) g))

-- two headers that stand below each other are equal
pub le_both_ways : (x y : Header) → header_le x y ≡ true → header_le y x ≡ true → x ≡ y
unfolding header_le
le_both_ways x y h g = order_ties x y (by (header_order x y) (header_order y x) (order_total.antisymm x y) h g)
  where
    by : (o r : Ordering) → o ≡ ordering_reverse r → is_le o ≡ true → is_le r ≡ true → o ≡ Equal
    by Less Less e h g = absurd (true≢false (ap is_gt (sym e)))
    by Less Equal e h g = e
    by Less Greater e h g = absurd (true≢false (sym g))
    by Equal r e h g = refl
    by Greater r e h g = absurd (true≢false (sym h))

-- of two headers one stands below the other
pub le_either : (x y : Header) → (header_le x y ≡ true) ⊎ (header_le y x ≡ true)
unfolding header_le
le_either x y = by (header_order x y) (header_order y x) (order_total.antisymm x y)
  where
    by : (o r : Ordering) → o ≡ ordering_reverse r → (is_le o ≡ true) ⊎ (is_le r ≡ true)
    by Less r e = inl refl
    by Equal r e = inl refl
    by Greater Less e = inr refl
    by Greater Equal e = inr refl
    by Greater Greater e = inl (ap is_le e)

-- no header is above itself
pub le_itself : (x : Header) → header_le x x ≡ true
le_itself x = elim (le_either x x) [ inl e ↦ e | inr e ↦ e ]

-- a header that stands before another is not above it
pub le_from_less : (x y : Header) → header_order x y ≡ Less → header_le x y ≡ true
unfolding header_le
le_from_less x y less = ap is_le less

-- a header none of whose fields is greater stands below
first_le : (m n : ℕ) (o : Ordering) → m ≤ n → is_le o ≡ true → is_le (ordering_then (nat_cmp m n) o) ≡ true
first_le m n o le rest = by (nat_cmp m n) (ranked m n (nat_cmp m n) refl)
  where
    by : (r : Ordering) → MatchOrdering r (m < n) (m ≡ n) (n < m) → is_le (ordering_then r o) ≡ true
    by Less lt = refl
    by Equal e = rest
    by Greater gt = absurd (omega arith)

-- so it stands below where all fields do
pub le_by_fields : (x y : Header) → x.src ≤ y.src → x.dst ≤ y.dst → x.proto ≤ y.proto → x.a ≤ y.a → x.b ≤ y.b → flag_number x.est ≤ flag_number y.est → x.dscp ≤ y.dscp → header_le x y ≡ true
unfolding header_le header_order
le_by_fields x y src dst proto a b est dscp =
    first_le x.src y.src _ src (first_le x.dst y.dst _ dst (first_le x.proto y.proto _ proto (first_le x.a y.a _ a (first_le x.b y.b _ b (first_le (flag_number x.est) (flag_number y.est) _ est (first_le x.dscp y.dscp _ dscp refl))))))

-- What the memo keeps: after one more pair of places, and after the diagram has grown.
use Rattle.std.proofs.Common.{◌≡◌, ℕ, Bool, true, false, List, Some, refl, sym, ◌∙◌, ap, ◌⊎◌, inl, inr}
use Rattle.std.specs.Prelude.{◌==◌, cond}
use Rattle.std.specs.HashMap.{get}
use Rattle.std.proofs.lemmas.Bool.{eqb-true, and_parts}
use Rattle.np_partition.specs.declared.shows.Show.{Show}
use Rattle.np_partition.specs.declared.pairing.Pairing.{Pairing}
use Rattle.np_partition.specs.declared.pair_memo.PairMemo.{PairMemo}
use Rattle.np_partition.specs.Pairing.{pair_of, same_pair, place_for, KeepsPairing, IsPaired, IsPairMemo, Learns}

-- a pair that is put into the map is the only one that is new
pub learned : (old new : PairMemo) (x y z : ℕ) → ((q : ℕ × ℕ) → get same_pair new.places q ≡ cond (same_pair (x, y) q) (Some z) (get same_pair old.places q)) → Learns old new x y z
learned old new x y z each = record { only = λ p q r e. by p q r (same_pair (x, y) (p, q)) refl (sym (each (p, q)) ∙ e) }
  where
    by : (p q r : ℕ) (b : Bool) → same_pair (x, y) (p, q) ≡ b → cond b (Some z) (place_for old p q) ≡ Some r → (place_for old p q ≡ Some r) ⊎ ((p ≡ x) × (q ≡ y) × (r ≡ z))
    by p q r true same e =
        let both = and_parts (x == p) (y == q) same in
        let s : r ≡ z = cc in
        inr (sym (eqb-true x p both.0), sym (eqb-true y q both.1), s)
    by p q r false same e = inl e

-- what a place was made for stays so where the diagram grows
pub paired_stays : (first second : List Show) (x y : ℕ) (old new : Pairing) (z : ℕ) → KeepsPairing old new → IsPaired first second x y old z → IsPaired first second x y new z
paired_stays first second x y old new z k p = record {
  there = k.places.there z p.there;
  from = λ bit a b. rw (k.places.bit z p.there) (p.from bit a b);
  exact = λ bits. ap (λ n. pair_of new n) (k.places.same z p.there bits) ∙ k.pairs _ _ (p.exact bits);
}

pub memo_stays : (first second : List Show) (old new : Pairing) (memo : PairMemo) → KeepsPairing old new → IsPairMemo first second old memo → IsPairMemo first second new memo
memo_stays first second old new memo k m = record { exact = λ x y z e. paired_stays first second x y old new z k (m.exact x y z e) }

pub memo_learns : (first second : List Show) (pairing : Pairing) (old new : PairMemo) (x y z : ℕ) → IsPairMemo first second pairing old → Learns old new x y z → IsPaired first second x y pairing z → IsPairMemo first second pairing new
memo_learns first second pairing old new x y z m l p = record { exact = λ a b c e. of a b c (l.only a b c e) }
  where
    of : (a b c : ℕ) → (place_for old a b ≡ Some c) ⊎ ((a ≡ x) × (b ≡ y) × (c ≡ z)) → IsPaired first second a b pairing c
    of a b c (inl e) = m.exact a b c e
    of a b c (inr same) = rw (same.0, same.1, same.2) p

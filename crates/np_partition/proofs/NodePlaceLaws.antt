-- The places for the nodes of a region's diagram, and the partition of the region.
use Rattle.std.proofs.Common.{◌≡◌, ℕ, zero, suc, ◌+◌, ◌<◌, ◌≤◌, Bool, true, false, List, [], ◌∷◌, length, Some, refl, sym, ◌∙◌, ap, subst, arith, if◌then◌else◌, ◌⊎◌, inl, inr}
use Rattle.std.specs.Prelude.{◌&&◌, slice_index_or}
use Rattle.np_space.specs.Flag.{flag_number}
use Rattle.np_space.specs.Header.{HasWidths}
use Rattle.np_space.specs.declared.headers.Header.{Header}
use Rattle.np_space.proofs.FlagLemmas.{flag_small}
use Rattle.np_bdd.specs.declared.views.Node.{Node}
use Rattle.np_bdd.specs.declared.views.View.{View}
use Rattle.np_bdd.specs.declared.views.View.TheVariants.{No, Yes, Test}
use Rattle.np_bdd.specs.Views.{Bits, bits_of_header, view_at, sent_by, place_after, leads_to_yes, node_has}
use Rattle.np_bdd.specs.Diagram.{IsOrdered, IsOrderedTest}
use Rattle.np_bdd.proofs.HeaderOfBits.{widths_true}
use Rattle.np_partition.specs.declared.shows.Show.{Show}
use Rattle.np_partition.specs.declared.partition.Partition.{Partition}
use Rattle.np_partition.specs.declared.node_memo.NodeMemo.{NodeMemo}
use Rattle.np_partition.specs.Diagram.{class_at, IsDiagram}
use Rattle.np_partition.specs.Partition.{class_of, row, IsPartition}
use Rattle.np_partition.specs.Places.{KeepsPlaces, StartsAt, IsPlaceOfClass, Chooses}
use Rattle.np_partition.specs.NodePlaces.{leads_within, IsPlaceOfNode, place_for_node, IsNodeMemo, LearnsNode}

-- ---- keeping

pub node_kept : (views : List View) (x : ℕ) (old new : List Show) (at : ℕ) → KeepsPlaces old new → IsPlaceOfNode views x old at → IsPlaceOfNode views x new at
node_kept views x old new at k p = record {
  there = k.there at p.there;
  from = rw (k.bit at p.there) p.from;
  exact = λ bits n far. k.same at p.there bits ∙ p.exact bits n far;
}

pub memo_kept : (views : List View) (old new : List Show) (memo : NodeMemo) → KeepsPlaces old new → IsNodeMemo views old memo → IsNodeMemo views new memo
memo_kept views old new memo k m = record { exact = λ x at e. node_kept views x old new at k (m.exact x at e) }

pub memo_learns : (views : List View) (shows : List Show) (old new : NodeMemo) (x at : ℕ) → IsNodeMemo views shows old → LearnsNode old new x at → IsPlaceOfNode views x shows at → IsNodeMemo views shows new
memo_learns views shows old new x at m l p = record { exact = λ y other e. of y other (l.only y other e) }
  where
    of : (y other : ℕ) → (place_for_node old y ≡ Some other) ⊎ ((y ≡ x) × (other ≡ at)) → IsPlaceOfNode views y shows other
    of y other (inl e) = m.exact y other e
    of y other (inr same) = rw (same.0, same.1) p

-- ---- nodes that test nothing

-- from there the bits go no further
stays : (n : ℕ) (views : List View) (bits : Bits) (x : ℕ) → sent_by (view_at views x) bits x ≡ x → place_after n views bits x ≡ x
unfolding place_after
stays zero views bits x e = refl
stays (suc n) views bits x e = rw e (stays n views bits x e)

pub place_of_no : (views : List View) (x : ℕ) (shows : List Show) (at : ℕ) → view_at views x ≡ No → IsPlaceOfClass shows 0 at → IsPlaceOfNode views x shows at
place_of_no views x shows at e p = record {
  there = p.starts.there;
  from = rw e (p.starts.from);
  exact = λ bits n far. p.leads bits ∙ rw (stays n views bits x (rw e refl), e) refl;
}

pub place_of_yes : (views : List View) (x : ℕ) (shows : List Show) (at : ℕ) → view_at views x ≡ Yes → IsPlaceOfClass shows 1 at → IsPlaceOfNode views x shows at
place_of_yes views x shows at e p = record {
  there = p.starts.there;
  from = rw e (p.starts.from);
  exact = λ bits n far. p.leads bits ∙ rw (stays n views bits x (rw e refl), e) refl;
}

-- ---- tests

-- what the store says of a test
pub test_ordered : (views : List View) (v : View) (bit : ℕ) (low high : Node) → v ≡ Test bit low high → IsOrdered views v → IsOrderedTest views bit low high
test_ordered views v bit low high e o = subst (IsOrdered views) e o

-- the place that chooses between those of the branches is that of the test
pub place_of_test : (views : List View) (x bit : ℕ) (low high : Node) (shows : List Show) (low_at high_at at : ℕ) → view_at views x ≡ Test bit low high → IsOrderedTest views bit low high
    → IsPlaceOfNode views low.at shows low_at → IsPlaceOfNode views high.at shows high_at → StartsAt shows bit at → Chooses shows bit low_at high_at at → IsPlaceOfNode views x shows at
unfolding place_after
place_of_test views x bit low high shows low_at high_at at e o at_low at_high starts chooses = record {
  there = starts.there;
  from = rw e starts.from;
  exact = λ bits n far. exact bits n (rw e at far);
}
  where
    chosen : (bits : Bits) (n : ℕ) → 111 ≤ bit + suc n → (b : Bool)
        → (if b then class_at bits shows high_at else class_at bits shows low_at) ≡ flag_number (leads_within n views bits (if b then high.at else low.at))
    chosen bits n far true = at_high.exact bits n (omega (arith, far, o.high_greater))
    chosen bits n far false = at_low.exact bits n (omega (arith, far, o.low_greater))

    exact : (bits : Bits) (n : ℕ) → 111 ≤ bit + n → class_at bits shows at ≡ flag_number (leads_within n views bits x)
    exact bits zero far = absurd (omega (arith, far, o.bit_fits))
    exact bits (suc n) far =
        chooses bits ∙ chosen bits n far (bits bit)
        ∙ ap (λ v. flag_number (leads_within n views bits (sent_by v bits x))) (sym e)

-- ---- the partition

-- the one set has class 1 alone
abbrev inside : List (List Bool)
inside = (false ∷ true ∷ []) ∷ []

row_of_flag : (b : Bool) → row inside (flag_number b) ≡ b ∷ []
row_of_flag false = refl
row_of_flag true = refl

rows_apart : (m n : ℕ) → m < 2 → n < 2 → row inside m ≡ row inside n → m ≡ n
rows_apart zero zero a b e = refl
rows_apart zero (suc zero) a b e = absurd (cc)
rows_apart (suc zero) zero a b e = absurd (cc)
rows_apart (suc zero) (suc zero) a b e = refl
rows_apart (suc (suc m)) n a b e = absurd (omega (arith, a))
rows_apart zero (suc (suc n)) a b e = absurd (omega (arith, b))
rows_apart (suc zero) (suc (suc n)) a b e = absurd (omega (arith, b))

-- a header is in the class that says whether the node has it
class_of_node : (views : List View) (x : Node) (p : Partition) → IsPlaceOfNode views x.at p.shows p.root → (h : Header) → HasWidths h → class_of p h ≡ flag_number (node_has views x h)
unfolding leads_to_yes
class_of_node views x p place h w =
    place.exact (bits_of_header h) 111 (omega arith)
    ∙ ap (λ b. flag_number (b && leads_within 111 views (bits_of_header h) x.at)) (sym (widths_true h w))

pub region_partition : (views : List View) (x : Node) (p : Partition) → IsDiagram p.shows → IsPlaceOfNode views x.at p.shows p.root → p.classes ≡ 2 → p.sets ≡ inside → IsPartition (node_has views x ∷ []) p
region_partition views x p d place two one = record {
  diagram = d;
  there = place.there;
  within = λ h w. rw (two, class_is h w) (omega (arith, flag_small (node_has views x h)));
  says = λ h w. (λ i. row (one i) (class_is h w i)) ∙ row_of_flag (node_has views x h);
  sizes = rw (one, two) sizes;
  apart = λ m n a b e. rows_apart m n (rw two at a) (rw two at b) (rw one at e);
}
  where
    class_is : (h : Header) → HasWidths h → class_of p h ≡ flag_number (node_has views x h)
    class_is h w = class_of_node views x p place h w

    sizes : (k : ℕ) (e : List Bool) → k < 1 → length (slice_index_or inside k e) ≡ 2
    sizes zero e within = refl
    sizes (suc k) e within = absurd (omega (arith, within))

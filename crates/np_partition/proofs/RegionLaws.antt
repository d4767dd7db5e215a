-- The nodes of the places, and the region of a class.
use Rattle.std.proofs.Common.{◌≡◌, ℕ, ◌<◌, ◌≤◌, Bool, true, false, List, [], ◌∷◌, ◌++◌, length, Result, Ok, Err, IfOk, sym, ◌∙◌, ap, subst, arith, if◌then◌else◌, ◌⊎◌, inl, inr}
use Rattle.std.specs.Prelude.{◌==◌, ◌&&◌}
use Rattle.std.proofs.Math.Seq.{get_or-append_seam}
use Rattle.std.proofs.lemmas.Bool.{cases_lt, eqb-true, and_parts}
use Rattle.std.proofs.lemmas.List.{get_or_append_left, length-append}
use Rattle.np_space.specs.Header.{IsValid, HasWidths, has_widths}
use Rattle.np_space.specs.declared.headers.Header.{Header}
use Rattle.np_bdd.specs.declared.views.Node.{Node}
use Rattle.np_bdd.specs.declared.views.View.{View}
use Rattle.np_bdd.specs.Views.{Bits, bits_of_header, leads_to_yes, node_has}
use Rattle.np_bdd.specs.Diagram.{IsRegion}
use Rattle.np_bdd.specs.Nodes.{KeepsNodes, StartsAt, Chooses}
use Rattle.np_bdd.specs.Fields.{AlwaysAnswers}
use Rattle.np_bdd.proofs.HeaderOfBits.{widths_of}
use Rattle.np_partition.specs.declared.shows.Show.{Show}
use Rattle.np_partition.specs.declared.shows.Show.TheVariants.{Class, Test}
use Rattle.np_partition.specs.declared.partition.Partition.{Partition}
use Rattle.np_partition.specs.Diagram.{class_at, show_at, bit_of, IsOrderedTest, IsDiagram}
use Rattle.np_partition.specs.Partition.{class_of}
use Rattle.np_partition.specs.Region.{node_at, IsNodeOf, AreNodesOf}
use Rattle.np_partition.proofs.DiagramLaws.{ordered_test, class_chosen, class_at_class}

-- ---- the node of a place

-- a class is the one that is meant, or not
pub class_node : (shows : List Show) (n : ℕ) (views : List View) (at class : ℕ) (x : Node) (answer : Bool) → at < length shows → show_at shows at ≡ Class class → (class == n) ≡ answer → AlwaysAnswers answer views x.at → IsNodeOf shows n views at x
class_node shows n views at class x answer there shown is always = record {
  starts = record { there = always.starts.there; from = omega (arith, ap bit_of shown, always.starts.from) };
  exact = λ bits. always.leads bits ∙ sym is ∙ ap (λ k. k == n) (sym (class_at_class bits shows at class there shown));
}

-- a node is kept
node_kept : (shows : List Show) (n : ℕ) (old new : List View) (at : ℕ) (x : Node) → KeepsNodes old new → IsNodeOf shows n old at x → IsNodeOf shows n new at x
node_kept shows n old new at x kept is = record {
  starts = record { there = kept.there x.at is.starts.there; from = rw (kept.bit x.at is.starts.there) is.starts.from };
  exact = λ bits. kept.same x.at is.starts.there bits ∙ is.exact bits;
}

-- the node of a test chooses between those of the branches
test_node : (shows : List Show) → IsDiagram shows → (n : ℕ) (old new : List View) (nodes : List Node) (at bit low high : ℕ) (x : Node) → at < length shows → show_at shows at ≡ Test bit low high → length nodes ≡ at → AreNodesOf shows n old nodes
    → KeepsNodes old new → StartsAt new bit x.at → Chooses new bit (node_at nodes low).at (node_at nodes high).at x.at → IsNodeOf shows n new at x
test_node shows d n old new nodes at bit low high x there shown count are kept starts chooses = record {
  starts = record { there = starts.there; from = omega (arith, ap bit_of shown, starts.from) };
  exact = λ bits. chooses bits ∙ by bits (bits bit) ∙ ap (λ k. k == n) (sym (class_chosen shows d bits at bit low high there shown));
}
  where
    o : IsOrderedTest shows at bit low high
    o = ordered_test shows d at bit low high there shown

    by : (bits : Bits) (b : Bool) → (if b then leads_to_yes new bits (node_at nodes high).at else leads_to_yes new bits (node_at nodes low).at) ≡ ((if b then class_at bits shows high else class_at bits shows low) == n)
    by bits true = (node_kept shows n old new high (node_at nodes high) kept (are high (omega (arith, o.high_before, count)))).exact bits
    by bits false = (node_kept shows n old new low (node_at nodes low) kept (are low (omega (arith, o.low_before, count)))).exact bits

-- the same of a call that may fail
pub test_result : {E : Type 0} (shows : List Show) → IsDiagram shows → (n : ℕ) (old new : List View) (nodes : List Node) (at bit low high : ℕ) (result : Result Node E) → at < length shows → show_at shows at ≡ Test bit low high → length nodes ≡ at
    → AreNodesOf shows n old nodes → KeepsNodes old new → IfOk result (λ z. StartsAt new bit z.at) → IfOk result (λ z. Chooses new bit (node_at nodes low).at (node_at nodes high).at z.at) → IfOk result (λ z. IsNodeOf shows n new at z)
test_result shows d n old new nodes at bit low high (Ok x) there shown count are kept starts chooses = test_node shows d n old new nodes at bit low high x there shown count are kept starts chooses
test_result shows d n old new nodes at bit low high (Err e) there shown count are kept starts chooses = tt

-- ---- the nodes of the places

-- one more
pub nodes_more : (shows : List Show) (n : ℕ) (old new : List View) (nodes : List Node) (x : Node) → KeepsNodes old new → AreNodesOf shows n old nodes → IsNodeOf shows n new (length nodes) x → AreNodesOf shows n new (nodes ++ x ∷ [])
nodes_more shows n old new nodes x kept are is at there = by (cases_lt at (length nodes))
  where
    by : (at < length nodes) ⊎ (length nodes ≤ at) → IsNodeOf shows n new at (node_at (nodes ++ x ∷ []) at)
    by (inl early) = rw (get_or_append_left nodes (x ∷ []) (record { at = 0 }) at early) (node_kept shows n old new at (node_at nodes at) kept (are at early))
    by (inr late) =
        let last : length nodes ≡ at = omega (arith, late, there, length-append nodes (x ∷ [])) in
        subst (λ m. IsNodeOf shows n new m (node_at (nodes ++ x ∷ []) m)) last (rw (get_or-append_seam nodes x [] (record { at = 0 })) is)

-- ---- the region

-- the root's node has the class
pub region_exact : (p : Partition) (n : ℕ) (views : List View) (x : Node) → IsNodeOf p.shows n views p.root x → (h : Header) → node_has views x h ≡ (has_widths h && (class_of p h == n))
region_exact p n views x is h = ap (λ b. has_widths h && b) (is.exact (bits_of_header h))

-- which is a region where its headers are valid
pub region_fits : (p : Partition) (n : ℕ) (views : List View) (x : Node) → IsNodeOf p.shows n views p.root x → ((h : Header) → HasWidths h → class_of p h ≡ n → IsValid h) → IsRegion views x
region_fits p n views x is valid = record {
  there = is.starts.there;
  only_valid = λ h has.
      let both = and_parts (has_widths h) (class_of p h == n) (sym (region_exact p n views x is h) ∙ has) in
      valid h (widths_of h both.0) (eqb-true (class_of p h) n both.1);
}

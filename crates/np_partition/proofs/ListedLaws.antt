-- Regions, each once: how they are listed, and that the partition of these has the sets of all.
use Rattle.std.proofs.Common.{◌≡◌, ℕ, zero, suc, ◌+◌, ◌<◌, ◌≤◌, Bool, false, List, [], ◌∷◌, ◌++◌, length, map, take, Some, get_or, refl, sym, ◌∙◌, ap, subst, arith, ext_get_or, ◌⊎◌, inl, inr}
use Rattle.std.specs.List.{All}
use Rattle.std.proofs.Math.Seq.{get_or-append_seam}
use Rattle.std.proofs.lemmas.Bool.{cases_lt}
use Rattle.std.proofs.lemmas.List.{get_or_append_left, length-append, length-map, get_or-map, get_or_default}
use Rattle.np_space.specs.Classes.{cuts_say}
use Rattle.np_space.specs.Header.{HasWidths}
use Rattle.np_space.specs.declared.headers.Header.{Header}
use Rattle.np_atomset.specs.AtomSet.{has_member}
use Rattle.np_region.specs.Keeping.{EachFits, tests_of}
use Rattle.np_bdd.specs.declared.views.Node.{Node}
use Rattle.np_bdd.specs.declared.views.View.{View}
use Rattle.np_bdd.specs.Diagram.{IsRegion}
use Rattle.np_bdd.specs.Views.{node_has}
use Rattle.np_partition.specs.declared.shows.Show.{Show}
use Rattle.np_partition.specs.declared.node_memo.NodeMemo.{NodeMemo}
use Rattle.np_partition.specs.declared.partition.Partition.{Partition}
use Rattle.np_partition.specs.Listed.{AreListed, IsListMemo, Lists, with_sets_at}
use Rattle.np_partition.specs.NodePlaces.{place_for_node, IsNodeMemo, LearnsNode}
use Rattle.np_partition.specs.Partition.{class_of, row, IsPartition}
use Rattle.np_partition.specs.Region.{node_at}

-- ---- the memo

pub memo_first : (memo : NodeMemo) → ((views : List View) (shows : List Show) → IsNodeMemo views shows memo) → IsListMemo [] memo
memo_first memo none = record {
  there = λ x place e. ((none [] []).exact x place e).there;
  same = λ x place e. omega (arith, ((none [] []).exact x place e).there);
}

-- ---- one region more

pub lists_found : (nodes : List Node) (memo : NodeMemo) (x : Node) (place : ℕ) → IsListMemo nodes memo → place_for_node memo x.at ≡ Some place → Lists nodes nodes x place
lists_found nodes memo x place m e = record {
  there = m.there x.at place e;
  same = ap (λ at. record { at = at }) (m.same x.at place e);
  grows = omega arith;
  kept = λ n within. refl;
  only = λ n late within. omega (arith, late, within);
}

pub lists_new : (nodes : List Node) (x : Node) → Lists nodes (nodes ++ x ∷ []) x (length nodes)
lists_new nodes x = record {
  there = omega (arith, length-append nodes (x ∷ []));
  same = get_or-append_seam nodes x [] (record { at = 0 });
  grows = omega (arith, length-append nodes (x ∷ []));
  kept = λ n within. get_or_append_left nodes (x ∷ []) (record { at = 0 }) n within;
  only = λ n late within. omega (arith, late, within, length-append nodes (x ∷ []));
}

pub memo_learns : (nodes : List Node) (x : Node) (old new : NodeMemo) → IsListMemo nodes old → LearnsNode old new x.at (length nodes) → IsListMemo (nodes ++ x ∷ []) new
memo_learns nodes x old new m l = record {
  there = λ y place e. there y place (l.only y place e);
  same = λ y place e. same y place (l.only y place e);
}
  where
    there : (y place : ℕ) → (place_for_node old y ≡ Some place) ⊎ ((y ≡ x.at) × (place ≡ length nodes)) → place < length (nodes ++ x ∷ [])
    there y place (inl e) = omega (arith, m.there y place e, length-append nodes (x ∷ []))
    there y place (inr last) = omega (arith, last.1, length-append nodes (x ∷ []))

    same : (y place : ℕ) → (place_for_node old y ≡ Some place) ⊎ ((y ≡ x.at) × (place ≡ length nodes)) → (node_at (nodes ++ x ∷ []) place).at ≡ y
    same y place (inl e) = rw (get_or_append_left nodes (x ∷ []) (record { at = 0 }) place (m.there y place e)) (m.same y place e)
    same y place (inr last) = rw (last.0, last.1, get_or-append_seam nodes x [] (record { at = 0 })) refl

-- ---- the list

pub listed_first : AreListed [] [] []
listed_first = record {
  count = refl;
  there = λ k within. omega (arith, within);
  same = λ k within. absurd (omega (arith, within));
  used = λ n within. absurd (omega (arith, within));
}

pub listed_more : (xs old new : List Node) (places : List ℕ) (x : Node) (place : ℕ) → AreListed xs old places → Lists old new x place → AreListed (xs ++ x ∷ []) new (places ++ place ∷ [])
listed_more xs old new places x place a l = record {
  count = omega (arith, a.count, length-append xs (x ∷ []), length-append places (place ∷ []));
  there = λ k within. there k (cases_lt k (length xs)) within;
  same = λ k within. same k (cases_lt k (length xs)) within;
  used = λ n within. used n within (cases_lt n (length old));
}
  where
    early : (k : ℕ) → k < length xs → get_or (places ++ place ∷ []) k 0 ≡ get_or places k 0
    early k before = get_or_append_left places (place ∷ []) 0 k (omega (arith, before, a.count))

    last : (k : ℕ) → length xs ≤ k → k < length (xs ++ x ∷ []) → k ≡ length xs
    last k late within = omega (arith, late, within, length-append xs (x ∷ []))

    at_last : get_or (places ++ place ∷ []) (length xs) 0 ≡ place
    at_last = rw (sym a.count) (get_or-append_seam places place [] 0)

    there : (k : ℕ) → (k < length xs) ⊎ (length xs ≤ k) → k < length (xs ++ x ∷ []) → get_or (places ++ place ∷ []) k 0 < length new
    there k (inl before) within = rw (early k before) (omega (arith, a.there k before, l.grows))
    there k (inr late) within = rw (last k late within, at_last) l.there

    same : (k : ℕ) → (k < length xs) ⊎ (length xs ≤ k) → k < length (xs ++ x ∷ []) → node_at new (get_or (places ++ place ∷ []) k 0) ≡ node_at (xs ++ x ∷ []) k
    same k (inl before) within = rw (early k before, get_or_append_left xs (x ∷ []) (record { at = 0 }) k before) (l.kept (get_or places k 0) (a.there k before) ∙ a.same k before)
    same k (inr late) within = rw (last k late within, at_last, get_or-append_seam xs x [] (record { at = 0 })) l.same

    used : (n : ℕ) → n < length new → (n < length old) ⊎ (length old ≤ n) → (k : ℕ) × k < length (xs ++ x ∷ []) × (get_or (places ++ place ∷ []) k 0 ≡ n)
    used n within (inl before) =
        let u = a.used n before in
        (u.0, omega (arith, u.1, length-append xs (x ∷ [])), early u.0 u.1 ∙ u.2)
    used n within (inr late) = (length xs, omega (arith, length-append xs (x ∷ [])), at_last ∙ sym (l.only n late within))

-- ---- the partition

pub listed_fit : (views : List View) (xs nodes : List Node) (places : List ℕ) → AreListed xs nodes places → EachFits IsRegion views xs → EachFits IsRegion views nodes
listed_fit views xs nodes places a fit n d within =
    let u = a.used n within in
    subst (IsRegion views) (sym (a.same u.0 u.1) ∙ ap (λ m. node_at nodes m) u.2 ∙ get_or_default nodes n (record { at = 0 }) d within) (fit u.0 (record { at = 0 }) u.1)

-- what a region says of a header
test_at : (views : List View) (xs : List Node) (h : Header) (k : ℕ) → k < length xs → get_or (cuts_say (tests_of node_has views xs) h) k false ≡ node_has views (node_at xs k) h
test_at views xs h k within =
    get_or-map (λ (test : Header → Bool). test h) (map (λ x. node_has views x) xs) k (λ g. false) false (omega (arith, within, length-map xs (λ x. node_has views x)))
    ∙ ap (λ (test : Header → Bool). test h) (get_or-map (λ x. node_has views x) xs k (record { at = 0 }) (λ g. false) within)

-- what a set says of a class, which is one of the listed sets
set_at : (p : Partition) (places : List ℕ) (n k : ℕ) → k < length places → get_or places k 0 < length p.sets → get_or (row (with_sets_at p places).sets n) k false ≡ get_or (row p.sets n) (get_or places k 0) false
set_at p places n k within there =
    get_or-map (λ set. has_member set n) (map (λ m. get_or p.sets m []) places) k [] false (omega (arith, within, length-map places (λ m. get_or p.sets m [])))
    ∙ ap (λ set. has_member set n) (get_or-map (λ m. get_or p.sets m []) places k 0 [] within)
    ∙ sym (get_or-map (λ set. has_member set n) p.sets (get_or places k 0) [] false there)

abbrev nowhere : Header
nowhere = record { src = 0; dst = 0; proto = 0; a = 0; b = 0; est = false; dscp = 0 }

widths_nowhere : HasWidths nowhere
widths_nowhere = record { src = omega arith; dst = omega arith; proto = omega arith; a = omega arith; b = omega arith; dscp = omega arith }

-- there is a set for each region
sets_counted : (views : List View) (nodes : List Node) (p : Partition) → IsPartition (tests_of node_has views nodes) p → length p.sets ≡ length nodes
sets_counted views nodes p is =
    sym (length-map p.sets (λ set. has_member set (class_of p nowhere)))
    ∙ ap length (is.says nowhere widths_nowhere)
    ∙ length-map (tests_of node_has views nodes) (λ (test : Header → Bool). test nowhere)
    ∙ length-map nodes (λ x. node_has views x)

pub places_within : (views : List View) (xs nodes : List Node) (places : List ℕ) (p : Partition) → AreListed xs nodes places → IsPartition (tests_of node_has views nodes) p → All (λ n. n < length p.sets) places
places_within views xs nodes places p a is k d within =
    rw (get_or_default places k d 0 within) (omega (arith, a.there k (omega (arith, within, a.count)), sets_counted views nodes p is))

pub partition_again : (views : List View) (xs nodes : List Node) (places : List ℕ) (p : Partition) → AreListed xs nodes places → IsPartition (tests_of node_has views nodes) p → IsPartition (tests_of node_has views xs) (with_sets_at p places)
partition_again views xs nodes places p a is = record {
  diagram = is.diagram;
  there = is.there;
  within = is.within;
  says = says;
  sizes = λ k d within.
      let here : k < length places = omega (arith, within, length-map places (λ m. get_or p.sets m [])) in
      ap length (get_or-map (λ m. get_or p.sets m []) places k 0 d here) ∙ is.sizes (get_or places k 0) [] (placed k here);
  apart = λ m n lm ln same. is.apart m n lm ln (ext_get_or false (row p.sets m) (row p.sets n) (width m ∙ sym (width n)) (λ j l. alike m n same j (omega (arith, l, width m))));
}
  where
    counted : length p.sets ≡ length nodes
    counted = sets_counted views nodes p is

    placed : (k : ℕ) → k < length places → get_or places k 0 < length p.sets
    placed k here = omega (arith, a.there k (omega (arith, here, a.count)), counted)

    width : (n : ℕ) → length (row p.sets n) ≡ length p.sets
    width n = length-map p.sets (λ set. has_member set n)

    wide : (n : ℕ) → length (row (with_sets_at p places).sets n) ≡ length places
    wide n = length-map (map (λ m. get_or p.sets m []) places) (λ set. has_member set n) ∙ length-map places (λ m. get_or p.sets m [])

    many : (h : Header) → length (cuts_say (tests_of node_has views xs) h) ≡ length xs
    many h = length-map (tests_of node_has views xs) (λ (test : Header → Bool). test h) ∙ length-map xs (λ x. node_has views x)

    says : (h : Header) → HasWidths h → row (with_sets_at p places).sets (class_of p h) ≡ cuts_say (tests_of node_has views xs) h
    says h widths = ext_get_or false (row (with_sets_at p places).sets (class_of p h)) (cuts_say (tests_of node_has views xs) h) (wide (class_of p h) ∙ a.count ∙ sym (many h)) (λ k l.
        let here : k < length places = omega (arith, l, wide (class_of p h)) in
        let early : k < length xs = omega (arith, here, a.count) in
        set_at p places (class_of p h) k here (placed k here)
        ∙ ap (λ says. get_or says (get_or places k 0) false) (is.says h widths)
        ∙ test_at views nodes h (get_or places k 0) (a.there k early)
        ∙ ap (λ x. node_has views x h) (a.same k early)
        ∙ sym (test_at views xs h k early))

    alike : (m n : ℕ) → row (with_sets_at p places).sets m ≡ row (with_sets_at p places).sets n → (j : ℕ) → j < length p.sets → get_or (row p.sets m) j false ≡ get_or (row p.sets n) j false
    alike m n same j l =
        let u = a.used j (omega (arith, l, counted)) in
        let here : u.0 < length places = omega (arith, u.1, a.count) in
        ap (λ i. get_or (row p.sets m) i false) (sym u.2)
        ∙ sym (set_at p places m u.0 here (placed u.0 here))
        ∙ ap (λ says. get_or says u.0 false) same
        ∙ set_at p places n u.0 here (placed u.0 here)
        ∙ ap (λ i. get_or (row p.sets n) i false) u.2

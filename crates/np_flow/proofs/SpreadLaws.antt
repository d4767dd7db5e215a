-- What rounds over the interfaces make of the sets of areas and devices.
use Rattle.std.proofs.Common.{◌≡◌, ℕ, ◌+◌, ◌*◌, ◌<◌, Bool, true, false, List, [], ◌∷◌, ◌++◌, length, length-append, replicate, get_or, sym, ◌∙◌, subst, inl, inr, refl, arith}
use Rattle.std.proofs.lemmas.Bool.{cases_lt}
use Rattle.std.proofs.lemmas.List.{get_or-replicate}
use Rattle.np_atomset.specs.AtomSet.{has_member}
use Rattle.np_net.specs.declared.filtering.Interface.{Interface}
use Rattle.np_net.specs.Path.{device_of, area_of, IsHop, Leads}
use Rattle.np_flow.specs.Postures.{lets_atom}
use Rattle.np_flow.specs.Carrying.{AllCross, Reaches}
use Rattle.np_flow.specs.Spread.{has_atom, AreEmpty, Begins, Enters, Leaves, Adds, AreAdded, AreMarked, AreDone, StandsOn, ComesIn, AreEntered, AreReached, HoldReached}

-- ---- one interface after another

pub added_more : (P : ℕ → ℕ → Type 0) (to : ℕ → ℕ) (n : ℕ) (old mid new : List (List Bool))
    → AreAdded P to n old mid → Adds (P n) (to n) mid new → AreAdded P to (n + 1) old new
added_more P to n old mid new before adds = record {
  widths = λ w same. adds.widths w (before.widths w same);
  kept = λ k atom has. adds.kept k atom (before.kept k atom has);
  all = λ k atom lt p. elim (cases_lt k n) [
    | inl earlier ↦ adds.kept (to k) atom (before.all k atom earlier p)
    | inr later ↦
        let here : k ≡ n = omega arith in
        subst (λ j. has_atom new (to j) atom ≡ true) (sym here) (adds.all atom (subst (λ j. P j atom) here p))
  ];
  only = λ k atom has. elim (adds.only k atom has) [
    | inl was ↦ (elim (before.only k atom was) [
      | inl first ↦ inl first
      | inr x ↦ let below : x.0 < n = x.1 in inr (x.0, omega arith, x.2, x.3)
    ])
    | inr now ↦ inr (n, omega arith, now.0, now.1)
  ];
}

-- ---- paths with one hop more

leads-more : (interfaces : List Interface) (a b : ℕ) (hops : List (ℕ × ℕ)) (hop : ℕ × ℕ) → Leads interfaces a hops b
    → IsHop interfaces hop → area_of interfaces hop.0 ≡ b → Leads interfaces a (hops ++ hop ∷ []) (area_of interfaces hop.1)
leads-more interfaces a b [] hop leads is at = (is, at ∙ sym leads, refl)
leads-more interfaces a b (h ∷ hops) hop leads is at =
    (leads.0, leads.1, leads-more interfaces (area_of interfaces h.1) b hops hop leads.2 is at)

cross-more : (lets : ℕ → Bool) (hops : List (ℕ × ℕ)) (hop : ℕ × ℕ) → AllCross lets hops
    → lets (2 * hop.0) ≡ true → lets (2 * hop.1 + 1) ≡ true → AllCross lets (hops ++ hop ∷ [])
cross-more lets [] hop cross inward outward = (inward, outward, tt)
cross-more lets (h ∷ hops) hop cross inward outward = (cross.0, cross.1, cross-more lets hops hop cross.2 inward outward)

reach-one : (interfaces : List Interface) (lets : ℕ → Bool) (hop : ℕ × ℕ) → IsHop interfaces hop
    → lets (2 * hop.0) ≡ true → lets (2 * hop.1 + 1) ≡ true
    → Reaches interfaces lets (area_of interfaces hop.0) (area_of interfaces hop.1)
reach-one interfaces lets hop is inward outward = record {
  hops = hop ∷ [];
  carries = record { path = record { some = omega arith; leads = (is, refl, refl) }; cross = (inward, outward, tt) };
}

reach-more : (interfaces : List Interface) (lets : ℕ → Bool) (a : ℕ) (hop : ℕ × ℕ)
    → Reaches interfaces lets a (area_of interfaces hop.0) → IsHop interfaces hop
    → lets (2 * hop.0) ≡ true → lets (2 * hop.1 + 1) ≡ true → Reaches interfaces lets a (area_of interfaces hop.1)
reach-more interfaces lets a hop r is inward outward = record {
  hops = r.hops ++ hop ∷ [];
  carries = record {
    path = record {
      some = omega (arith, length-append r.hops (hop ∷ []));
      leads = leads-more interfaces a _ r.hops hop r.carries.path.leads is refl;
    };
    cross = cross-more lets r.hops hop r.carries.cross inward outward;
  };
}

-- ---- rounds

-- what begins is what comes in where no area is reached yet
pub entered_first : (interfaces : List Interface) (slots : List (List Bool)) (from : ℕ) (areas none devices : List (List Bool))
    → AreEmpty areas → AreEmpty none
    → AreAdded (Begins interfaces slots from) (device_of interfaces) (length interfaces) none devices
    → AreEntered interfaces slots from areas devices
entered_first interfaces slots from areas none devices no_areas no_devices begun = record {
  all = λ n atom lt comes. elim (comes.1) [
    | inl here ↦ begun.all n atom lt (comes.0, here)
    | inr has ↦ let no : false ≡ true = sym (no_areas (area_of interfaces n) atom) ∙ has in cc
  ];
  only = λ d atom has. elim (begun.only d atom has) [
    | inl was ↦ let no : false ≡ true = sym (no_devices d atom) ∙ was in cc
    | inr x ↦ (x.0, x.1, (x.2.0, inl x.2.1), x.3)
  ];
}

stands-more : (from : ℕ) (old new : List (List Bool)) (a atom : ℕ)
    → ((k i : ℕ) → has_atom old k i ≡ true → has_atom new k i ≡ true) → StandsOn from old a atom → StandsOn from new a atom
stands-more from old new a atom kept (inl here) = inl here
stands-more from old new a atom kept (inr has) = inr (kept a atom has)

-- what comes in after areas have grown
pub entered_next : (interfaces : List Interface) (slots : List (List Bool)) (from : ℕ) (areas more devices new : List (List Bool))
    → AreEntered interfaces slots from areas devices
    → AreAdded (Leaves interfaces slots devices) (area_of interfaces) (length interfaces) areas more
    → AreAdded (Enters interfaces slots more) (device_of interfaces) (length interfaces) devices new
    → AreEntered interfaces slots from more new
entered_next interfaces slots from areas more devices new entered left added = record {
  all = λ n atom lt comes. elim (comes.1) [
    | inl here ↦ added.kept (device_of interfaces n) atom (entered.all n atom lt (comes.0, inl here))
    | inr has ↦ added.all n atom lt (comes.0, has)
  ];
  only = λ d atom has. elim (added.only d atom has) [
    | inl was ↦
        let x = entered.only d atom was in
        (x.0, x.1, (x.2.0, stands-more from areas more (area_of interfaces x.0) atom left.kept x.2.1), x.3)
    | inr x ↦ (x.0, x.1, (x.2.0, inr x.2.1), x.3)
  ];
}

-- ---- what is done already

-- where all devices are marked, nothing has to be done
pub done_first : (interfaces : List Interface) (slots areas devices : List (List Bool)) (count : ℕ)
    → ((n : ℕ) → n < length interfaces → device_of interfaces n < count)
    → AreDone (Leaves interfaces slots devices) (device_of interfaces) (area_of interfaces) (length interfaces) (replicate count true) areas
done_first interfaces slots areas devices count within n lt atom stale leaves =
    let fresh : get_or (replicate count true) (device_of interfaces n) false ≡ true =
    get_or-replicate count (device_of interfaces n) true false (within n lt) in
    let no : false ≡ true = sym stale ∙ fresh in cc

-- what an area had before it was marked has gone in
pub done_entering : (interfaces : List Interface) (slots : List (List Bool)) (from : ℕ) (areas more devices : List (List Bool)) (marks : List Bool)
    → AreEntered interfaces slots from areas devices → AreMarked areas more marks
    → AreDone (Enters interfaces slots more) (area_of interfaces) (device_of interfaces) (length interfaces) marks devices
done_entering interfaces slots from areas more devices marks entered marked n lt atom stale enters =
    elim (marked (area_of interfaces n) atom enters.1) [
      | inl was ↦ entered.all n atom lt (enters.0, inr was)
      | inr fresh ↦ let no : false ≡ true = sym stale ∙ fresh in cc
    ]

-- what a device had before it was marked has gone out
pub done_leaving : (interfaces : List Interface) (slots areas more devices new : List (List Bool)) (marks : List Bool)
    → AreAdded (Leaves interfaces slots devices) (area_of interfaces) (length interfaces) areas more → AreMarked devices new marks
    → AreDone (Leaves interfaces slots new) (device_of interfaces) (area_of interfaces) (length interfaces) marks more
done_leaving interfaces slots areas more devices new marks left marked n lt atom stale leaves =
    elim (marked (device_of interfaces n) atom leaves.1) [
      | inl was ↦ left.all n atom lt (leaves.0, was)
      | inr fresh ↦ let no : false ≡ true = sym stale ∙ fresh in cc
    ]

-- ---- what is reached

-- where no area is reached, each atom of an area reaches it
pub reached_none : (interfaces : List Interface) (slots : List (List Bool)) (from : ℕ) (areas : List (List Bool))
    → AreEmpty areas → AreReached interfaces slots from areas
reached_none interfaces slots from areas none a atom has = let no : false ≡ true = sym (none a atom) ∙ has in cc

-- what goes out has come in somewhere, and so reaches the area
goes-out : (interfaces : List Interface) (slots : List (List Bool)) (from : ℕ) (areas : List (List Bool)) (inward outward atom : ℕ)
    → AreReached interfaces slots from areas → IsHop interfaces (inward, outward)
    → ComesIn interfaces slots from areas inward atom → has_atom slots (2 * outward + 1) atom ≡ true
    → Reaches interfaces (lets_atom slots atom) from (area_of interfaces outward)
goes-out interfaces slots from areas inward outward atom sound is comes out = elim (comes.1) [
  | inl here ↦
      subst (λ a. Reaches interfaces (lets_atom slots atom) a (area_of interfaces outward)) here
      (reach-one interfaces (lets_atom slots atom) (inward, outward) is comes.0 out)
  | inr has ↦ reach-more interfaces (lets_atom slots atom) from (inward, outward) (sound _ atom has) is comes.0 out
]

-- after a round each atom of an area reaches it
pub reached_next : (interfaces : List Interface) (slots : List (List Bool)) (from : ℕ) (areas more devices : List (List Bool))
    → AreEntered interfaces slots from areas devices
    → AreAdded (Leaves interfaces slots devices) (area_of interfaces) (length interfaces) areas more
    → AreReached interfaces slots from areas → AreReached interfaces slots from more
reached_next interfaces slots from areas more devices entered left sound a atom has = elim (left.only a atom has) [
  | inl was ↦ sound a atom was
  | inr go ↦
      let come = entered.only (device_of interfaces go.0) atom go.2.1 in
      subst (λ b. Reaches interfaces (lets_atom slots atom) from b) go.3
      (goes-out interfaces slots from areas come.0 go.0 atom sound (come.1, go.1, come.3) come.2 go.2.0)
]

-- a hop from where an atom stands ends on an area that has it, where a round adds nothing
hop-ends : (interfaces : List Interface) (slots : List (List Bool)) (from : ℕ) (areas devices : List (List Bool)) (atom : ℕ) (hop : ℕ × ℕ)
    → AreEntered interfaces slots from areas devices
    → AreAdded (Leaves interfaces slots devices) (area_of interfaces) (length interfaces) areas areas
    → IsHop interfaces hop → StandsOn from areas (area_of interfaces hop.0) atom
    → has_atom slots (2 * hop.0) atom ≡ true → has_atom slots (2 * hop.1 + 1) atom ≡ true
    → has_atom areas (area_of interfaces hop.1) atom ≡ true
hop-ends interfaces slots from areas devices atom hop entered left is stands inward outward =
    left.all hop.1 atom is.1
    (outward, subst (λ d. has_atom devices d atom ≡ true) is.2 (entered.all hop.0 atom is.0 (inward, stands)))

path-ends : (interfaces : List Interface) (slots : List (List Bool)) (from : ℕ) (areas devices : List (List Bool)) (atom : ℕ)
    → AreEntered interfaces slots from areas devices
    → AreAdded (Leaves interfaces slots devices) (area_of interfaces) (length interfaces) areas areas
    → (a : ℕ) (hops : List (ℕ × ℕ)) (b : ℕ) → 0 < length hops → Leads interfaces a hops b → AllCross (lets_atom slots atom) hops
    → StandsOn from areas a atom → has_atom areas b atom ≡ true
path-ends interfaces slots from areas devices atom entered left a [] b some leads cross stands = absurd (omega arith)
path-ends interfaces slots from areas devices atom entered left a (hop ∷ []) b some leads cross stands =
    subst (λ x. has_atom areas x atom ≡ true) leads.2
    (hop-ends interfaces slots from areas devices atom hop entered left leads.0
    (subst (λ x. StandsOn from areas x atom) (sym leads.1) stands) cross.0 cross.1)
path-ends interfaces slots from areas devices atom entered left a (hop ∷ next ∷ hops) b some leads cross stands =
    path-ends interfaces slots from areas devices atom entered left (area_of interfaces hop.1) (next ∷ hops) b (omega arith) leads.2 cross.2
    (inr (hop-ends interfaces slots from areas devices atom hop entered left leads.0
    (subst (λ x. StandsOn from areas x atom) (sym leads.1) stands) cross.0 cross.1))

-- where a round adds nothing, each atom that reaches an area is there
pub reached_all : (interfaces : List Interface) (slots : List (List Bool)) (from : ℕ) (areas more devices : List (List Bool))
    → AreEntered interfaces slots from areas devices
    → AreAdded (Leaves interfaces slots devices) (area_of interfaces) (length interfaces) areas more → more ≡ areas
    → HoldReached interfaces slots from more
reached_all interfaces slots from areas more devices entered left same =
    let closed = subst (λ (x : List (List Bool)). AreAdded (Leaves interfaces slots devices) (area_of interfaces) (length interfaces) areas x) same left in
    let hold : HoldReached interfaces slots from areas =
    λ b atom r. path-ends interfaces slots from areas devices atom entered closed from r.hops b r.carries.path.some r.carries.path.leads r.carries.cross (inl refl) in
    subst (λ (x : List (List Bool)). HoldReached interfaces slots from x) (sym same) hold

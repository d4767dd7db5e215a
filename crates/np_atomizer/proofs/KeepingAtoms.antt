-- What keeps the atoms of a partition, and the sets of the cuts.
use Rattle.std.proofs.Common.{◌≡◌, ℕ, ◌<◌, ◌≤◌, Bool, true, false, List, [], ◌∷◌, length, get_or, map, drop, refl, sym, ◌∙◌, ap, subst, arith, length-drop, eq-eqb}
use Rattle.std.specs.Prelude.{◌==◌, ◌&&◌, ◌↔◌, sum_by}
use Rattle.std.specs.List.{All}
use Rattle.std.proofs.lemmas.Bool.{eqb-true, and_parts}
use Rattle.std.proofs.lemmas.List.{length-map, get_or-map as get_or_inside}
use Rattle.std.proofs.lemmas.List.Elements.{All-head, All-tail, All-weaker}
use Rattle.std.proofs.lemmas.List.Sums.{passes_at_first}
use Rattle.np_space.specs.Flag.{flag_number}
use Rattle.np_space.specs.Classes.{cuts_say, IsAlike, AreLeasts}
use Rattle.np_space.specs.Header.{is_valid_header, IsValid, HasWidths, has_widths, zeros}
use Rattle.np_space.specs.declared.headers.Header.{Header}
use Rattle.np_space.proofs.FlagLemmas.{and_both, flag_small, same_answers}
use Rattle.np_space.proofs.HeaderLemmas.{valid_widths}
use Rattle.np_atomset.specs.AtomSet.{has_member}
use Rattle.np_bdd.proofs.HeaderOfBits.{widths_true, widths_of}
use Rattle.np_partition.specs.Partition.{class_of, row, IsPartition}
use Rattle.np_partition.specs.Product.{members_at, sets_at}
use Rattle.np_partition.specs.declared.partition.Partition.{Partition}
use Rattle.np_atoms.specs.Atoms.{cut_sets}
use Rattle.np_atomizer.specs.AtomList.{regions_of, leasts_of}
use Rattle.np_atomizer.specs.ClassAtoms.{valid_classes, class_has, StandsOnce, AreNumbered, IsClassAtom, AreClassAtoms, number_of_class, KeepsAtoms, AreRead}
use Rattle.np_atomizer.specs.Numbers.{AreNumbers}
use Rattle.np_atomizer.specs.Splitting.{number_in}
use Rattle.np_atomizer.specs.declared.atom_list.Atom.{Atom}
use Rattle.np_atomizer.specs.declared.atomizer.Atomized.{Atomized}
use Rattle.np_atomizer.specs.declared.diagrams.PartitionClasses.{PartitionClasses}
use Rattle.np_atomizer.proofs.AtomLaws.{one_place}
use Rattle.np_atomizer.proofs.ClassLaws.{has_own, sets_counted, valid_said, rest_said}

-- ---- the sets of the cuts

-- one set
one_set : (of : List Bool) (test : Header → Bool) (atoms : List (Atom ℕ)) → All (λ a. has_member of a.region ≡ test a.least) atoms → members_at of (regions_of atoms) ≡ map test (leasts_of atoms)
one_set of test [] all = refl
one_set of test (a ∷ atoms) all =
    λ i. All-head (λ (x : Atom ℕ). has_member of x.region ≡ test x.least) a atoms all i ∷ one_set of test atoms (All-tail (λ (x : Atom ℕ). has_member of x.region ≡ test x.least) a atoms all) i

-- where the sets say of each atom's class what the tests say of its least member, they are the tests' sets of atoms
same_sets : (sets : List (List Bool)) (tests : List (Header → Bool)) (atoms : List (Atom ℕ)) → length sets ≡ length tests → All (λ a. row sets a.region ≡ cuts_say tests a.least) atoms → sets_at sets (regions_of atoms) ≡ cut_sets tests (leasts_of atoms)
same_sets [] [] atoms e all = refl
same_sets [] (test ∷ tests) atoms e all = absurd (omega arith)
same_sets (of ∷ sets) [] atoms e all = absurd (omega arith)
same_sets (of ∷ sets) (test ∷ tests) atoms e all =
    λ i.
    one_set of test atoms (All-weaker (λ (a : Atom ℕ). row (of ∷ sets) a.region ≡ cuts_say (test ∷ tests) a.least) (λ a. has_member of a.region ≡ test a.least) (λ a f. ap (λ bs. get_or bs 0 false) f) atoms all) i
    ∷ same_sets sets tests atoms (omega arith) (All-weaker (λ (a : Atom ℕ). row (of ∷ sets) a.region ≡ cuts_say (test ∷ tests) a.least) (λ a. row sets a.region ≡ cuts_say tests a.least) (λ a f. ap (drop 1) f) atoms all) i

module _ (p : Partition) (tests : List (Header → Bool)) (is : IsPartition (is_valid_header ∷ tests) p) (atoms : List (Atom ℕ)) (are : AreClassAtoms p tests atoms) where
  -- they are those of the cuts
  sets_said : sets_at (drop 1 p.sets) (regions_of atoms) ≡ cut_sets tests (leasts_of atoms)
  sets_said =
      same_sets (drop 1 p.sets) tests atoms (omega (arith, length-drop 1 p.sets, sets_counted p tests is))
      (All-weaker (IsClassAtom p) (λ (a : Atom ℕ). row (drop 1 p.sets) a.region ≡ cuts_say tests a.least)
      (λ a c. ap (row (drop 1 p.sets)) (sym c.own) ∙ rest_said p tests is a.least c.widths) atoms are.each)

  -- ---- the classes of the atoms

  -- each class is one of the partition's
  pub within_partition : All (λ k. k < p.classes) (regions_of atoms)
  within_partition = are.ordered.regions.fit

  -- no header is in two of them
  at_most_one : (h : Header) → sum_by (λ k. flag_number (class_has p k h)) (regions_of atoms) ≤ 1
  at_most_one h = let c = are.ordered.regions.count h in let f = flag_small (is_valid_header h) in omega arith

  -- the i-th class is that of an atom
  record IsNth (i : ℕ) : Type 0 where
    atom : Atom ℕ
    at : get_or (regions_of atoms) i 0 ≡ atom.region
    class : IsClassAtom p atom

  nth : (i : ℕ) → i < length (regions_of atoms) → IsNth i
  nth i l =
      let none : Atom ℕ = record { region = 0; least = zeros } in
      let below : i < length atoms = subst (λ n. i < n) (length-map atoms (λ (a : Atom ℕ). a.region)) l in
      record { atom = get_or atoms i none; at = get_or_inside (λ (a : Atom ℕ). a.region) atoms i none 0 below; class = are.each i none below }

  -- no class stands twice, since it has a least member
  pub classes_once : StandsOnce (regions_of atoms)
  classes_once i j l m same =
      let a = nth i l in
      let here : class_has p (get_or (regions_of atoms) i 0) a.atom.least ≡ true =
      ap (λ k. class_has p k a.atom.least) a.at ∙ has_own p tests is a.atom a.class in
      one_place (λ k. class_has p k a.atom.least) (regions_of atoms) i j 0 (at_most_one a.atom.least) l m here
      (ap (λ k. class_has p k a.atom.least) (sym same) ∙ here)

  -- ---- the numbers of the classes

  module _ (numbers : List ℕ) (numbered : AreNumbered (regions_of atoms) (length (regions_of atoms)) numbers) where
    -- the number of a valid header's class is that of the region that has the header
    record IsNumber (h : Header) (n : ℕ) : Type 0 where
      within : n < length (regions_of atoms)
      class : class_of p h ≡ get_or (regions_of atoms) n 0
      number : get_or numbers (class_of p h) 0 ≡ n

    number_of_valid : (h : Header) → IsValid h → IsNumber h (number_in (class_has p) (regions_of atoms) h)
    number_of_valid h v =
        let n = number_in (class_has p) (regions_of atoms) h in
        let below : n < length (regions_of atoms) =
        subst (λ k. n < k) (length-map atoms (λ (a : Atom ℕ). a.least) ∙ sym (length-map atoms (λ (a : Atom ℕ). a.region))) (are.ordered.numbers.within h v) in
        let class : class_of p h ≡ get_or (regions_of atoms) n 0 =
        eqb-true (class_of p h) (get_or (regions_of atoms) n 0) (and_parts (is_valid_header h) (class_of p h == get_or (regions_of atoms) n 0) (passes_at_first (λ k. class_has p k h) (regions_of atoms) 0 below)).1 in
        record { within = below; class = class; number = ap (λ k. get_or numbers k 0) class ∙ numbered n below }

    -- they are the numbers of the atoms
    are_numbers : AreNumbers tests (leasts_of atoms) (λ h. get_or numbers (class_of p h) 0)
    are_numbers = record {
      within = λ h v. subst (λ n. n < length (leasts_of atoms)) (sym (number_of_valid h v).number) (are.ordered.numbers.within h v);
      alike = λ h d v. subst (λ n. IsAlike tests (get_or (leasts_of atoms) n d) h) (sym (number_of_valid h v).number) (are.ordered.numbers.alike h d v);
    }

    -- the n-th class has the valid headers whose class has the number n
    exact : (h : Header) (n : ℕ) → HasWidths h → n < length (regions_of atoms) → (class_of p h ≡ get_or (regions_of atoms) n 0) ↔ (IsValid h × (get_or numbers (class_of p h) 0 ≡ n))
    exact h n w l = (
      λ e.
          let a = nth n l in (
            sym (valid_said p tests is h w) ∙ ap (has_member (valid_classes p)) (e ∙ a.at) ∙ a.class.valid,
            ap (λ k. get_or numbers k 0) e ∙ numbered n l,
          ),
      λ both.
          let first = number_of_valid h both.0 in
          first.class ∙ ap (λ k. get_or (regions_of atoms) k 0) (sym first.number ∙ both.1),
    )

-- ---- all together

-- the atoms and what keeps them, as they are read
pub read_all : (r : Atomized PartitionClasses) (tests : List (Header → Bool)) → IsPartition (is_valid_header ∷ tests) r.classes.partition → (atoms : List (Atom ℕ)) → AreClassAtoms r.classes.partition tests atoms → r.atoms.leasts ≡ leasts_of atoms → r.classes.classes.items ≡ regions_of atoms → r.atoms.cuts ≡ sets_at (drop 1 r.classes.partition.sets) (regions_of atoms) → length r.classes.numbers.items ≡ r.classes.partition.classes → AreNumbered (regions_of atoms) (length (regions_of atoms)) r.classes.numbers.items → AreRead tests r
read_all r tests is atoms are leasts classes cuts count numbered = record {
  atoms = record {
    leasts = subst (AreLeasts tests) (sym leasts) are.ordered.leasts;
    sets = cuts ∙ sets_said p tests is atoms are ∙ ap (cut_sets tests) (sym leasts);
  };
  classes = record {
    diagram = is.diagram;
    there = is.there;
    within = λ h w. subst (λ n. class_of p h < n) (sym count) (is.within h w);
    exact = λ h n w l.
        let below : n < length (regions_of atoms) = subst (λ (ks : List ℕ). n < length ks) classes l in
        subst (λ (ks : List ℕ). (class_of p h ≡ get_or ks n 0) ↔ (IsValid h × (get_or numbers (class_of p h) 0 ≡ n))) (sym classes) (exact p tests is atoms are numbers numbered h n w below);
  };
  count = ap length classes ∙ length-map atoms (λ (a : Atom ℕ). a.region) ∙ sym (length-map atoms (λ (a : Atom ℕ). a.least)) ∙ ap length (sym leasts);
  numbers = subst (λ (xs : List Header). AreNumbers tests xs (λ h. get_or numbers (class_of p h) 0)) (sym leasts) (are_numbers p tests is atoms are numbers numbered);
}
  where
    p : Partition
    p = r.classes.partition

    numbers : List ℕ
    numbers = r.classes.numbers.items

-- ---- what is asked of them

module _ (c : PartitionClasses) (keeps : KeepsAtoms c) (n : ℕ) (below : n < length c.classes.items) where
  -- the class of an atom has valid headers alone
  pub class_valid : (h : Header) → HasWidths h → class_of c.partition h ≡ get_or c.classes.items n 0 → IsValid h
  class_valid h w e = ((keeps.exact h n w below).0 e).0

  -- and exactly those whose number is the atom's
  pub class_exact : (h : Header) → (has_widths h && (class_of c.partition h == get_or c.classes.items n 0)) ≡ (is_valid_header h && (number_of_class c h == n))
  class_exact h = same_answers (has_widths h && (class_of c.partition h == k)) (is_valid_header h && (number_of_class c h == n)) to from
    where
      k : ℕ
      k = get_or c.classes.items n 0

      to : (has_widths h && (class_of c.partition h == k)) ≡ true → (is_valid_header h && (number_of_class c h == n)) ≡ true
      to e =
          let parts = and_parts (has_widths h) (class_of c.partition h == k) e in
          let both = (keeps.exact h n (widths_of h parts.0) below).0 (eqb-true (class_of c.partition h) k parts.1) in
          and_both (is_valid_header h) (number_of_class c h == n) both.0 (eq-eqb (number_of_class c h) n both.1)

      from : (is_valid_header h && (number_of_class c h == n)) ≡ true → (has_widths h && (class_of c.partition h == k)) ≡ true
      from e =
          let parts = and_parts (is_valid_header h) (number_of_class c h == n) e in
          let w = valid_widths h parts.0 in
          and_both (has_widths h) (class_of c.partition h == k) (widths_true h w)
          (eq-eqb (class_of c.partition h) k ((keeps.exact h n w below).1 (parts.0, eqb-true (number_of_class c h) n parts.1)))

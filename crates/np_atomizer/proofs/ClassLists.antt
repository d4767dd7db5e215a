-- How the classes of a set are listed, and how the numbers of their places are written.
use Rattle.std.proofs.Common.{◌≡◌, ℕ, ◌+◌, ◌<◌, Bool, true, false, List, [], ◌∷◌, ◌++◌, length, get_or, set, sym, ◌∙◌, ap, subst, inl, inr, arith, zero-add, add-zero, get_or-set_same, get_or-set_other, Option, Some, None, eq-eqb}
use Rattle.std.specs.Prelude.{◌==◌, ◌&&◌, nat_lt}
use Rattle.std.specs.Option.{is_some}
use Rattle.std.proofs.lemmas.Bool.{cases_eq, cases_lt, lt-ltb, le-ltb, ne_eqb}
use Rattle.std.proofs.lemmas.List.Elements.{All-nil, All-push}
use Rattle.std.proofs.lemmas.List.Sums.{sum_by_push}
use Rattle.np_space.specs.Flag.{flag_number}
use Rattle.np_space.specs.declared.headers.Header.{Header}
use Rattle.np_atomset.specs.AtomSet.{has_member}
use Rattle.np_atomizer.specs.ClassAtoms.{IsListed, is_listed, AreListed, StandsOnce, AreNumbered}
use Rattle.np_atomizer.specs.declared.atom_list.Atom.{Atom}

-- ---- listing classes

module _ (of : List Bool) (leasts : List (Option Header)) where
  -- the class is one of the set's and has a least member
  abbrev pub is_atom : ℕ → Bool
  is_atom k = has_member of k && is_some (get_or leasts k None)

  -- before the first class
  pub listed_none : (atoms : List (Atom ℕ)) → atoms ≡ [] → AreListed of leasts 0 atoms
  listed_none atoms e =
      subst (AreListed of leasts 0) (sym e) (record {
        each = All-nil (IsListed of leasts);
        count = λ k. ap (λ b. flag_number ((b && has_member of k) && is_some (get_or leasts k None))) (sym (le-ltb k 0 (omega arith)));
      })

  -- one class more is listed where it is an atom
  one_more : (n k : ℕ) → flag_number (is_listed of leasts (n + 1) k) ≡ flag_number (is_listed of leasts n k) + flag_number ((k == n) && is_atom n)
  one_more n k = elim (cases_eq k n) [
    | inl here ↦ rw (lt-ltb k (n + 1) (omega arith), le-ltb k n (omega arith), eq-eqb k n here) (rw here (sym (zero-add (flag_number (is_atom n)))))
    | inr other ↦ rw (still k n other, ne_eqb k n other) (sym (add-zero (flag_number (is_listed of leasts n k))))
  ]
    where
      still : (i j : ℕ) → (i ≡ j → ⊥) → nat_lt i (j + 1) ≡ nat_lt i j
      still i j differ = elim (cases_lt i j) [
        | inl below ↦ lt-ltb i (j + 1) (omega arith) ∙ sym (lt-ltb i j below)
        | inr past ↦ le-ltb i (j + 1) (omega arith) ∙ sym (le-ltb i j past)
      ]

  -- a class that is no atom
  pub listed_same : (n : ℕ) (atoms : List (Atom ℕ)) → AreListed of leasts n atoms → is_atom n ≡ false → AreListed of leasts (n + 1) atoms
  listed_same n atoms so_far none = record {
    each = so_far.each;
    count = λ k. so_far.count k ∙ sym (one_more n k ∙ ap (λ b. flag_number (is_listed of leasts n k) + flag_number ((k == n) && b)) none ∙ nothing (k == n) (flag_number (is_listed of leasts n k)));
  }
    where
      nothing : (b : Bool) (m : ℕ) → m + flag_number (b && false) ≡ m
      nothing true m = add-zero m
      nothing false m = add-zero m

  -- a class that is one
  pub listed_more : (n : ℕ) (least : Header) (atoms after : List (Atom ℕ)) → AreListed of leasts n atoms → n < length leasts → has_member of n ≡ true → get_or leasts n None ≡ Some least → after ≡ atoms ++ record { region = n; least = least } ∷ [] → AreListed of leasts (n + 1) after
  listed_more n least atoms after so_far within member at e =
      subst (AreListed of leasts (n + 1)) (sym e) (record {
        each = All-push (IsListed of leasts) atoms (record { region = n; least = least }) so_far.each (record { within = within; member = member; least = at });
        count = λ k.
            sum_by_push (λ a. flag_number (k == a.region)) atoms (record { region = n; least = least })
            ∙ ap (λ m. m + flag_number (k == n)) (so_far.count k)
            ∙ ap (λ b. flag_number (is_listed of leasts n k) + flag_number b) (sym (and_true (k == n)) ∙ ap (λ b. (k == n) && b) (sym (λ i. member i && is_some (at i))))
            ∙ sym (one_more n k);
      })
    where
      and_true : (b : Bool) → (b && true) ≡ b
      and_true true = λ i. true
      and_true false = λ i. false

-- ---- writing the numbers of places

-- before the first class
pub numbered_none : (classes numbers : List ℕ) → AreNumbered classes 0 numbers
numbered_none classes numbers i l = absurd (omega arith)

-- one class more
pub numbered_more : (classes numbers : List ℕ) (n : ℕ) → StandsOnce classes → n < length classes → get_or classes n 0 < length numbers → AreNumbered classes n numbers → AreNumbered classes (n + 1) (set numbers (get_or classes n 0) n)
numbered_more classes numbers n once below within so_far i l = elim (cases_eq i n) [
  | inl here ↦ rw here (get_or-set_same numbers (get_or classes n 0) n 0 within)
  | inr other ↦ get_or-set_other numbers (get_or classes n 0) (get_or classes i 0) n 0 (λ same. other (once i n (omega arith) below same)) ∙ so_far i (omega arith)
]

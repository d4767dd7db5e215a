-- How the set of a cut is made, atom by atom.
use Rattle.std.proofs.Common.{◌≡◌, ℕ, ◌+◌, ◌<◌, ◌≤◌, Bool, true, false, List, length, get_or, map, set, replicate, sym, ◌∙◌, ap, inl, inr, arith, ext_get_or, length-set, get_or-set_same, get_or-set_other}
use Rattle.std.proofs.lemmas.Bool.{cases_eq, cases_lt}
use Rattle.std.proofs.lemmas.List.{length-map, length-replicate, get_or-replicate, get_or_past, get_or-map}
use Rattle.np_space.specs.Header.{zeros}
use Rattle.np_space.specs.declared.headers.Header.{Header}

-- While the set is made: it has those of the first n atoms that the cut has, and no other.
pub record IsSetTo (test : Header → Bool) (leasts : List Header) (n : ℕ) (set : List Bool) : Type 0 where
  pub long : length set ≡ length leasts
  pub done : (k : ℕ) (d : Header) → k < n → get_or set k false ≡ test (get_or leasts k d)
  pub left : (k : ℕ) → n ≤ k → get_or set k false ≡ false

-- before the first atom
pub set_none : (test : Header → Bool) (leasts : List Header) (s : List Bool) → s ≡ replicate (length leasts) false → IsSetTo test leasts 0 s
set_none test leasts s is = record {
  long = ap length is ∙ length-replicate (length leasts) false;
  done = λ k d l. absurd (omega arith);
  left = λ k l. ap (λ xs. get_or xs k false) is ∙ none k;
}
  where
    none : (k : ℕ) → get_or (replicate (length leasts) false) k false ≡ false
    none k = elim (cases_lt k (length leasts)) [
      | inl within ↦ get_or-replicate (length leasts) k false false within
      | inr past ↦ get_or_past (replicate (length leasts) false) k false (omega (arith, length-replicate {A = Bool} (length leasts) false))
    ]

-- an atom that the cut has
pub set_in : (test : Header → Bool) (leasts : List Header) (n : ℕ) (s : List Bool) (x : Header) (answer : Bool) → IsSetTo test leasts n s → n < length leasts → ((d : Header) → get_or leasts n d ≡ x) → answer ≡ test x → answer ≡ true → IsSetTo test leasts (n + 1) (set s n true)
set_in test leasts n s x answer so_far within at asked has = record {
  long = length-set s n true ∙ so_far.long;
  done = λ k d l.
      elim (cases_eq k n) [
        | inl here ↦ rw here (get_or-set_same s n true false (omega (arith, so_far.long)) ∙ sym (ap test (at d) ∙ sym asked ∙ has))
        | inr other ↦ get_or-set_other s n k true false other ∙ so_far.done k d (omega arith)
      ];
  left = λ k l. get_or-set_other s n k true false (λ e. omega arith) ∙ so_far.left k (omega arith);
}

-- an atom that it has not
pub set_out : (test : Header → Bool) (leasts : List Header) (n : ℕ) (s : List Bool) (x : Header) (answer : Bool) → IsSetTo test leasts n s → ((d : Header) → get_or leasts n d ≡ x) → answer ≡ test x → answer ≡ false → IsSetTo test leasts (n + 1) s
set_out test leasts n s x answer so_far at asked has = record {
  long = so_far.long;
  done = λ k d l.
      elim (cases_eq k n) [
        | inl here ↦ rw here (so_far.left n (omega arith) ∙ sym (ap test (at d) ∙ sym asked ∙ has))
        | inr other ↦ so_far.done k d (omega arith)
      ];
  left = λ k l. so_far.left k (omega arith);
}

-- after the last atom
pub set_all : (test : Header → Bool) (leasts : List Header) (n : ℕ) (s : List Bool) → IsSetTo test leasts n s → length leasts ≤ n → s ≡ map test leasts
set_all test leasts n s so_far all =
    ext_get_or false s (map test leasts) (so_far.long ∙ sym (length-map leasts test))
    (λ k l.
    let within : k < length leasts = omega (arith, so_far.long) in
    so_far.done k zeros (omega arith) ∙ sym (get_or-map test leasts k zeros false within))

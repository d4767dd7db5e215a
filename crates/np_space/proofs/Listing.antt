-- A statement of headers that is decided has a list of its headers, in ascending order.
use Rattle.std.proofs.Common.{◌≡◌, ◌⊎◌, ℕ, zero, suc, ◌<◌, ◌≤◌, ◌^◌, Bool, true, false, List, [], ◌∷◌, ◌++◌, length, map, get_or, refl, sym, ◌∙◌, ap, subst, inl, inr, arith, nat_cmp}
use Rattle.std.specs.Prelude.{nat_eq}
use Rattle.std.specs.List.{All, Contains}
use Rattle.std.specs.List.Sorted.{IsStrictlySortedBy}
use Rattle.std.specs.Ordering.{ordering_then}
use Rattle.std.specs.Cmp.{nat_cmp_is}
use Rattle.std.specs.Cmp.Lexicographic.{slice_cmp}
use Rattle.std.specs.declared.cmp.Ordering.{Ordering}
use Rattle.std.specs.declared.cmp.Ordering.TheVariants.{Less, Equal}
use Rattle.std.proofs.lemmas.Bool.{cases_eq, cases_lt}
use Rattle.std.proofs.lemmas.List.{length-map, get_or-map}
use Rattle.std.proofs.lemmas.List.Elements.{All-nil, All-cons, All-head, All-tail, All-append, All-map, All-weaker, All-from_recursion, recursion_from_All, Contains-push, Contains-append_left, Contains-append_right}
use Rattle.std.proofs.lemmas.Map.Keys.{Less-from_sorted}
use Rattle.np_space.specs.Flag.{flag_number}
use Rattle.np_space.specs.Header.{HasWidths, IsLeastOf, header_order, header_numbers, header_le}
use Rattle.np_space.specs.declared.headers.Header.{Header}
use Rattle.np_space.proofs.FlagLemmas.{flag_small}
use Rattle.np_space.proofs.OrderLemmas.{le_from_less, le_itself}

-- ---- lists that ascend

-- the elements of which a statement holds, in ascending order
pub record IsListing {X : Type 0} (order : X → X → Ordering) (P : X → Type 0) (xs : List X) : Type 0 where
  pub each : All P xs
  pub ascending : IsStrictlySortedBy order xs
  pub every : (x : X) → P x → Contains xs x

-- one list after the other, where each element of the first stands before those of the second
ascend-append : {X : Type 0} (order : X → X → Ordering) (xs ys : List X) → IsStrictlySortedBy order xs → IsStrictlySortedBy order ys
    → All (λ x. All (λ y. order x y ≡ Less) ys) xs → IsStrictlySortedBy order (xs ++ ys)
unfolding IsStrictlySortedBy
ascend-append order [] ys up up' before = up'
ascend-append order (x ∷ xs) ys up up' before = (
  recursion_from_All (λ y. order x y ≡ Less) (xs ++ ys)
      (All-append (λ y. order x y ≡ Less) xs ys (All-from_recursion (λ y. order x y ≡ Less) xs up.0) (All-head (λ z. All (λ y. order z y ≡ Less) ys) x xs before)),
  ascend-append order xs ys up.1 up' (All-tail (λ z. All (λ y. order z y ≡ Less) ys) x xs before),
)

-- each element made into another one, where that keeps the order of those of which P holds
ascend-map : {X Y : Type 0} (order : X → X → Ordering) (other : Y → Y → Ordering) (P : X → Type 0) (f : X → Y) (xs : List X)
    → ((x y : X) → P x → P y → order x y ≡ Less → other (f x) (f y) ≡ Less) → All P xs → IsStrictlySortedBy order xs → IsStrictlySortedBy other (map f xs)
unfolding IsStrictlySortedBy
ascend-map order other P f [] keeps all up = up
ascend-map order other P f (x ∷ xs) keeps all up =
    let here : P x = All-head P x xs all in
    let rest : All P xs = All-tail P x xs all in
    let above : All (λ y. order x y ≡ Less) xs = All-from_recursion (λ y. order x y ≡ Less) xs up.0 in (
      recursion_from_All (λ z. other (f x) z ≡ Less) (map f xs)
          (All-map (λ z. other (f x) z ≡ Less) f xs (λ k d lt. keeps x (get_or xs k d) here (rest k d lt) (above k d lt))),
      ascend-map order other P f xs keeps rest up.1,
    )

-- what is made of an element is in the list of what is made of all
contains-map : {X Y : Type 0} (f : X → Y) (xs : List X) (x : X) → Contains xs x → Contains (map f xs) (f x)
contains-map f xs x c =
    let lt : c.0 < length xs = c.1 in (c.0, omega (arith, length-map xs f), get_or-map f xs c.0 x (f x) lt ∙ ap f c.2)

-- in a list that ascends no header is above itself or a later one
pub le_later : (xs : List Header) (i j : ℕ) (d : Header) → IsStrictlySortedBy header_order xs → i ≤ j → j < length xs → header_le (get_or xs i d) (get_or xs j d) ≡ true
le_later xs i j d up l m =
    elim (cases_lt i j) [
      | inl below ↦ le_from_less (get_or xs i d) (get_or xs j d) (Less-from_sorted header_order xs i j d up below m)
      | inr above ↦
          let same : i ≡ j = omega arith in
          subst (λ n. header_le (get_or xs i d) (get_or xs n d) ≡ true) same (le_itself (get_or xs i d))
    ]

-- ---- listings

-- where the statement holds of nothing
no_listing : {X : Type 0} (order : X → X → Ordering) (P : X → Type 0) → ((x : X) → P x → ⊥) → IsListing order P []
unfolding IsStrictlySortedBy
no_listing order P none = record { each = All-nil P; ascending = tt; every = λ x p. absurd (none x p) }

-- where it holds of one element alone
one_listing : {X : Type 0} (order : X → X → Ordering) (P : X → Type 0) (x : X) → P x → ((y : X) → P y → y ≡ x) → IsListing order P (x ∷ [])
unfolding IsStrictlySortedBy
one_listing order P x p alone = record {
  each = All-cons P x [] p (All-nil P);
  ascending = (tt, tt);
  every = λ y q. subst (λ z. Contains (x ∷ []) z) (sym (alone y q)) (Contains-push [] x);
}

-- two listings, where the elements of the first stand before those of the second
joined : {X : Type 0} (order : X → X → Ordering) (P Q R : X → Type 0) (xs ys : List X) → IsListing order P xs → IsListing order Q ys
    → ((x : X) → P x → R x) → ((x : X) → Q x → R x) → ((x : X) → R x → P x ⊎ Q x) → ((x y : X) → P x → Q y → order x y ≡ Less)
    → IsListing order R (xs ++ ys)
joined order P Q R xs ys first second p q either before = record {
  each = All-append R xs ys (All-weaker P R p xs first.each) (All-weaker Q R q ys second.each);
  ascending = ascend-append order xs ys first.ascending second.ascending (λ i d lt j e lt'. before (get_or xs i d) (get_or ys j e) (first.each i d lt) (second.each j e lt'));
  every = λ x r. elim (either x r) [
    | inl px ↦ Contains-append_left xs ys x (first.every x px)
    | inr qx ↦ Contains-append_right xs ys x (second.every x qx)
  ];
}

-- a listing whose elements are made into others, in the same order
mapped : {X Y : Type 0} (order : X → X → Ordering) (other : Y → Y → Ordering) (P : X → Type 0) (Q : Y → Type 0) (f : X → Y) (xs : List X)
    → IsListing order P xs → ((x : X) → P x → Q (f x)) → ((x y : X) → P x → P y → order x y ≡ Less → other (f x) (f y) ≡ Less)
    → ((y : Y) → Q y → (x : X) × P x × (f x ≡ y)) → IsListing other Q (map f xs)
mapped order other P Q f xs is into keeps back = record {
  each = All-map Q f xs (λ k d lt. into (get_or xs k d) (is.each k d lt));
  ascending = ascend-map order other P f xs keeps is.each is.ascending;
  every = λ y q. let from = back y q in subst (λ z. Contains (map f xs) z) from.2 (contains-map f xs from.0 (is.every from.0 from.1));
}

-- ---- lists of numbers

-- the numbers are as many as the bounds, each below its own
abbrev AreBelow : List ℕ → List ℕ → Type 0
AreBelow [] [] = Unit {0}
AreBelow [] (x ∷ xs) = ⊥
AreBelow (n ∷ bounds) [] = ⊥
AreBelow (n ∷ bounds) (x ∷ xs) = (x < n) × AreBelow bounds xs

-- what comes after this first number
abbrev BeginsWith : List ℕ → (List ℕ → Type 0) → ℕ → List ℕ → Type 0
BeginsWith bounds Q n [] = ⊥
BeginsWith bounds Q n (x ∷ xs) = (x ≡ n) × AreBelow bounds xs × Q (x ∷ xs)

-- the lesser first number decides
lesser_first : (x y : ℕ) (xs ys : List ℕ) → x < y → slice_cmp nat_cmp (x ∷ xs) (y ∷ ys) ≡ Less
lesser_first x y xs ys lt = subst (λ (o : Ordering). ordering_then o (slice_cmp nat_cmp xs ys) ≡ Less) (nat_cmp_is x y Less lt) refl

-- after the same first number the rest decides
same_first : (n : ℕ) (xs ys : List ℕ) → slice_cmp nat_cmp xs ys ≡ Less → slice_cmp nat_cmp (n ∷ xs) (n ∷ ys) ≡ Less
same_first n xs ys less = subst (λ (o : Ordering). ordering_then o (slice_cmp nat_cmp xs ys) ≡ Less) (nat_cmp_is n n Equal refl) less

module _ (bounds : List ℕ) (Q : List ℕ → Type 0) where
  -- of numbers of which the first is below n
  abbrev Below : ℕ → List ℕ → Type 0
  Below n xs = AreBelow (n ∷ bounds) xs × Q xs

  none_below : (xs : List ℕ) → Below 0 xs → ⊥
  none_below [] both = both.0
  none_below (x ∷ xs) both = let lt : x < 0 = both.0.0 in omega arith

  below-more : (n : ℕ) (xs : List ℕ) → Below n xs → Below (suc n) xs
  below-more n [] both = absurd (both.0)
  below-more n (x ∷ xs) both = let lt : x < n = both.0.0 in ((omega arith, both.0.1), both.1)

  begun-below : (n : ℕ) (xs : List ℕ) → BeginsWith bounds Q n xs → Below (suc n) xs
  begun-below n [] begins = absurd begins
  begun-below n (x ∷ xs) begins = let same : x ≡ n = begins.0 in ((omega arith, begins.1), begins.2)

  below-or-begun : (n : ℕ) (xs : List ℕ) → Below (suc n) xs → Below n xs ⊎ BeginsWith bounds Q n xs
  below-or-begun n [] both = absurd (both.0)
  below-or-begun n (x ∷ xs) both =
      let lt : x < suc n = both.0.0 in
      elim (cases_eq x n) [
        | inl same ↦ inr (same, both.0.1, both.1)
        | inr other ↦ inl ((omega arith, both.0.1), both.1)
      ]

  below-before : (n : ℕ) (xs ys : List ℕ) → Below n xs → BeginsWith bounds Q n ys → slice_cmp nat_cmp xs ys ≡ Less
  below-before n [] ys both begins = absurd (both.0)
  below-before n (x ∷ xs) [] both begins = absurd begins
  below-before n (x ∷ xs) (y ∷ ys) both begins =
      let lt : x < n = both.0.0 in
      let same : y ≡ n = begins.0 in
      lesser_first x y xs ys (omega arith)

  -- what is left of such numbers
  begun_by : (n : ℕ) (xs : List ℕ) → BeginsWith bounds Q n xs → (rest : List ℕ) × (AreBelow bounds rest × Q (n ∷ rest)) × (n ∷ rest ≡ xs)
  begun_by n [] begins = absurd begins
  begun_by n (x ∷ xs) begins = (xs, (begins.1, subst (λ k. Q (k ∷ xs)) begins.0 begins.2), ap (λ k. k ∷ xs) (sym begins.0))

  -- a listing for each first number makes one for all that are below a bound
  lists_from : (n : ℕ) → ((k : ℕ) → (rests : List (List ℕ)) × IsListing (slice_cmp nat_cmp) (λ xs. AreBelow bounds xs × Q (k ∷ xs)) rests)
      → (lists : List (List ℕ)) × IsListing (slice_cmp nat_cmp) (Below n) lists
  lists_from zero rests = ([], no_listing (slice_cmp nat_cmp) (Below 0) none_below)
  lists_from (suc n) rests =
      let before = lists_from n rests in
      let last = rests n in
      let begun = mapped (slice_cmp nat_cmp) (slice_cmp nat_cmp) (λ xs. AreBelow bounds xs × Q (n ∷ xs)) (BeginsWith bounds Q n) (λ xs. n ∷ xs) last.0 last.1
      (λ xs both. (refl, both.0, both.1)) (λ xs ys _ _ less. same_first n xs ys less) (begun_by n) in (
        before.0 ++ map (λ xs. n ∷ xs) last.0,
        joined (slice_cmp nat_cmp) (Below n) (BeginsWith bounds Q n) (Below (suc n)) before.0 (map (λ xs. n ∷ xs) last.0) before.1 begun
            (below-more n) (begun-below n) (below-or-begun n) (below-before n),
      )

only_empty : (Q : List ℕ → Type 0) (xs : List ℕ) → AreBelow [] xs × Q xs → xs ≡ []
only_empty Q [] both = refl
only_empty Q (x ∷ xs) both = absurd (both.0)

not_empty : (Q : List ℕ → Type 0) → (Q [] → ⊥) → (xs : List ℕ) → AreBelow [] xs × Q xs → ⊥
not_empty Q none [] both = none both.1
not_empty Q none (x ∷ xs) both = both.0

-- the lists of bounded numbers of which a statement holds that is decided
lists_of : (bounds : List ℕ) (Q : List ℕ → Type 0) → ((xs : List ℕ) → Q xs ⊎ (Q xs → ⊥))
    → (lists : List (List ℕ)) × IsListing (slice_cmp nat_cmp) (λ xs. AreBelow bounds xs × Q xs) lists
lists_of [] Q decided = elim (decided []) [
  | inl has ↦ ([] ∷ [], one_listing (slice_cmp nat_cmp) (λ xs. AreBelow [] xs × Q xs) [] (tt, has) (only_empty Q))
  | inr none ↦ ([], no_listing (slice_cmp nat_cmp) (λ xs. AreBelow [] xs × Q xs) (not_empty Q none))
]
lists_of (n ∷ bounds) Q decided = lists_from bounds Q n (λ k. lists_of bounds (λ xs. Q (k ∷ xs)) (λ xs. decided (k ∷ xs)))

-- ---- headers by their numbers

-- what each of a header's numbers is below
abbrev header_bounds : List ℕ
header_bounds = 2 ^ 32 ∷ 2 ^ 32 ∷ 2 ^ 8 ∷ 2 ^ 16 ∷ 2 ^ 16 ∷ 2 ∷ 2 ^ 6 ∷ []

-- the header of these numbers
abbrev header_of : List ℕ → Header
header_of xs = record {
  src = get_or xs 0 0;
  dst = get_or xs 1 0;
  proto = get_or xs 2 0;
  a = get_or xs 3 0;
  b = get_or xs 4 0;
  est = nat_eq (get_or xs 5 0) 1;
  dscp = get_or xs 6 0;
}

-- a number below 2 is that of its flag
flag_there : (n : ℕ) → n < 2 → flag_number (nat_eq n 1) ≡ n
flag_there zero lt = refl
flag_there (suc zero) lt = refl
flag_there (suc (suc n)) lt = absurd (omega arith)

flag_back : (b : Bool) → nat_eq (flag_number b) 1 ≡ b
flag_back false = refl
flag_back true = refl

-- bounded numbers are those of their header
numbers_there : (xs : List ℕ) → AreBelow header_bounds xs → header_numbers (header_of xs) ≡ xs
numbers_there [] below = absurd below
numbers_there (s ∷ []) below = absurd (below.1)
numbers_there (s ∷ d ∷ []) below = absurd (below.1.1)
numbers_there (s ∷ d ∷ p ∷ []) below = absurd (below.1.1.1)
numbers_there (s ∷ d ∷ p ∷ a ∷ []) below = absurd (below.1.1.1.1)
numbers_there (s ∷ d ∷ p ∷ a ∷ b ∷ []) below = absurd (below.1.1.1.1.1)
numbers_there (s ∷ d ∷ p ∷ a ∷ b ∷ e ∷ []) below = absurd (below.1.1.1.1.1.1)
numbers_there (s ∷ d ∷ p ∷ a ∷ b ∷ e ∷ t ∷ []) below = λ i. s ∷ d ∷ p ∷ a ∷ b ∷ flag_there e below.1.1.1.1.1.0 i ∷ t ∷ []
numbers_there (s ∷ d ∷ p ∷ a ∷ b ∷ e ∷ t ∷ x ∷ xs) below = absurd (below.1.1.1.1.1.1.1)

-- and a header is that of its numbers
numbers_back : (h : Header) → header_of (header_numbers h) ≡ h
numbers_back h = λ i. record { src = h.src; dst = h.dst; proto = h.proto; a = h.a; b = h.b; est = flag_back h.est i; dscp = h.dscp }

-- a header's numbers are below the bounds where its fields are of their widths
numbers_below : (h : Header) → HasWidths h → AreBelow header_bounds (header_numbers h)
numbers_below h w = let flag : flag_number h.est < 2 = omega (arith, flag_small h.est) in (w.src, (w.dst, (w.proto, (w.a, (w.b, (flag, (w.dscp, tt)))))))

-- headers stand in the order of their numbers
order_there : (xs ys : List ℕ) → AreBelow header_bounds xs → AreBelow header_bounds ys → slice_cmp nat_cmp xs ys ≡ Less → header_order (header_of xs) (header_of ys) ≡ Less
unfolding header_order
order_there xs ys below below' less = (λ i. slice_cmp nat_cmp (numbers_there xs below i) (numbers_there ys below' i)) ∙ less

-- the headers of which a statement holds that is decided, and that holds of fields of their widths alone
module _ (Q : Header → Type 0) (decided : (h : Header) → Q h ⊎ (Q h → ⊥)) (widths : (h : Header) → Q h → HasWidths h) where
  pub headers_of : (headers : List Header) × IsListing header_order Q headers
  headers_of =
      let lists = lists_of header_bounds (λ xs. Q (header_of xs)) (λ xs. decided (header_of xs)) in (
        map header_of lists.0,
        mapped (slice_cmp nat_cmp) header_order (λ xs. AreBelow header_bounds xs × Q (header_of xs)) Q header_of lists.0 lists.1
            (λ xs both. both.1) (λ xs ys both both' less. order_there xs ys both.0 both'.0 less)
            (λ h q. (header_numbers h, (numbers_below h (widths h q), subst Q (sym (numbers_back h)) q), numbers_back h)),
      )

  least_of : (headers : List Header) → IsListing header_order Q headers → ((x : Header) × IsLeastOf Q x) ⊎ ((h : Header) → Q h → ⊥)
  least_of [] is = inr (λ h q. let c = is.every h q in let lt : c.0 < 0 = c.1 in omega arith)
  least_of (x ∷ xs) is = inl (
    x,
    record {
      has = All-head Q x xs is.each;
      least = λ h q.
          let c = is.every h q in
          let lt : c.0 < length (x ∷ xs) = c.1 in
          subst (λ z. header_le x z ≡ true) c.2 (le_later (x ∷ xs) 0 c.0 h is.ascending (omega arith) lt);
    },
  )

  -- some header is the least of them, or there is none
  pub least_or_none : ((x : Header) × IsLeastOf Q x) ⊎ ((h : Header) → Q h → ⊥)
  least_or_none = least_of headers_of.0 headers_of.1

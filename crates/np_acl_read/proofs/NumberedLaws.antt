-- Numbered entries, and lists of them.
use Rattle.std.proofs.Common.{◌≡◌, ℕ, zero, suc, ◌≤◌, Bool, true, false, ◌||◌, nat_eq, max, List, [], ◌∷◌, ◌++◌, map, Some, None, refl, sym, ap, ◌∙◌, arith}
use Rattle.std.specs.Prelude.{is_some, slice_get, fold, All}
use Rattle.std.specs.List.{AllByRecursion, IsDistinct, list_any}
use Rattle.std.specs.Map.{lookup, keys_of}
use Rattle.std.specs.BTreeMap.{is_at}
use Rattle.std.specs.Ordering.{nat_cmp, is_lt}
use Rattle.std.specs.Str.{bytes_eq}
use Rattle.std.proofs.lemmas.Bool.Decides.{nat_tests}
use Rattle.std.proofs.lemmas.Cmp.{nat_list_eq_equiv}
use Rattle.std.proofs.lemmas.List.Elements.{All-head, All-tail}
use Rattle.std.proofs.lemmas.Map.Keys.{IsDistinct-head, IsDistinct-tail}
use Rattle.std.proofs.lemmas.Map.Made.{is_some-lookup}
use Rattle.indexmap.specs.IndexMap.{insert_entry}
use Rattle.np_acl.specs.declared.entries.Entry.{Entry}
use Rattle.np_acl_read.specs.Adding.{Numbered, with_list}
use Rattle.np_acl_read.specs.Declaring.{plain_lists}

-- ---- keys that are put

-- a key that is given two values has the second
pub put_twice : {V : Type 0} (es : List (List ℕ × V)) (k : List ℕ) (v w : V) → insert_entry bytes_eq (insert_entry bytes_eq es k v) k w ≡ insert_entry bytes_eq es k w
put_twice [] k v w = rw (nat_list_eq_equiv.refl k) refl
put_twice (e ∷ es) k v w = by (bytes_eq k e.0) refl (put_twice es k v w) where
  by : (b : Bool) → bytes_eq k e.0 ≡ b → insert_entry bytes_eq (insert_entry bytes_eq es k v) k w ≡ insert_entry bytes_eq es k w → insert_entry bytes_eq (insert_entry bytes_eq (e ∷ es) k v) k w ≡ insert_entry bytes_eq (e ∷ es) k w
  by true is rest = rw (is, is) refl
  by false is rest = rw (is, is, rest) refl

-- a key that is none of these is put after them
pub put_new : {V : Type 0} (es : List (List ℕ × V)) (k : List ℕ) (v : V) → list_any (bytes_eq k) (keys_of es) ≡ false → insert_entry bytes_eq es k v ≡ es ++ (k, v) ∷ []
put_new [] k v none = refl
put_new (e ∷ es) k v none = by (bytes_eq k e.0) refl (put_new es k v) none where
  by : (b : Bool) → bytes_eq k e.0 ≡ b → (list_any (bytes_eq k) (keys_of es) ≡ false → insert_entry bytes_eq es k v ≡ es ++ (k, v) ∷ []) → (b || list_any (bytes_eq k) (keys_of es)) ≡ false → insert_entry bytes_eq (e ∷ es) k v ≡ (e ∷ es) ++ (k, v) ∷ []
  by true is rest none = cc
  by false is rest none = rw is (ap (λ l. e ∷ l) (rest none))

-- a list that is there stays as it is
pub open_there : (lists : Numbered) (name : List ℕ) → is_some (lookup (bytes_eq name) lists) ≡ true → with_list lists name ≡ lists
open_there lists name there = rw (sym (is_some-lookup (bytes_eq name) lists) ∙ there) refl

-- and one that isn't is put without entries
pub open_new : (lists : Numbered) (name : List ℕ) → is_some (lookup (bytes_eq name) lists) ≡ false → with_list lists name ≡ insert_entry bytes_eq lists name []
open_new lists name none =
    let away : list_any (bytes_eq name) (keys_of lists) ≡ false = sym (is_some-lookup (bytes_eq name) lists) ∙ none in
    rw (away, put_new lists name [] away) refl

-- ---- keys without repeats

apart_from_after : {V : Type 0} (k : List ℕ) (v : V) (x : List ℕ) (xs ys : List (List ℕ × V)) → AllByRecursion (λ y. bytes_eq x y ≡ false) (keys_of (xs ++ (k, v) ∷ ys)) → bytes_eq x k ≡ false
apart_from_after k v x [] ys all = all.0
apart_from_after k v x (e ∷ xs) ys all = apart_from_after k v x xs ys all.1

-- where no two keys are the same, a key is none of those before it
pub not_before : {V : Type 0} (k : List ℕ) (v : V) (xs ys : List (List ℕ × V)) → IsDistinct bytes_eq (keys_of (xs ++ (k, v) ∷ ys)) → lookup (bytes_eq k) xs ≡ None
not_before k v [] ys apart = refl
not_before k v (x ∷ xs) ys apart =
    let away = nat_list_eq_equiv.symm k x.0 ∙ apart_from_after k v x.0 xs ys (IsDistinct-head bytes_eq x.0 (keys_of (xs ++ (k, v) ∷ ys)) apart) in
    rw away (not_before k v xs ys (IsDistinct-tail bytes_eq x.0 (keys_of (xs ++ (k, v) ∷ ys)) apart))

keys_of_plain : (lists : Numbered) → keys_of (plain_lists lists) ≡ keys_of lists
keys_of_plain [] = refl
keys_of_plain (list ∷ lists) = rw (keys_of_plain lists) refl

-- the next of lists with different names is none of those before it
pub next_is_new : (done : List (List ℕ × List Entry)) (name : List ℕ) (entries : List (ℕ × Entry)) (rest after all : Numbered) → rest ≡ (name, entries) ∷ after → done ++ plain_lists rest ≡ plain_lists all → IsDistinct bytes_eq (keys_of all) → lookup (bytes_eq name) done ≡ None
next_is_new done name entries rest after all first so_far apart =
    let split = rw first at so_far in
    not_before name (map (λ entry. entry.1) entries) done (plain_lists after) (rw (split, keys_of_plain all) apart)

-- ---- numbers

equal_by_cmp : (n x : ℕ) → is_at (nat_cmp n) x ≡ nat_eq n x
equal_by_cmp n x = grind (arith, nat_tests)

any_equal_by_cmp : (n : ℕ) (xs : List ℕ) → list_any (is_at (nat_cmp n)) xs ≡ list_any (nat_eq n) xs
any_equal_by_cmp n [] = refl
any_equal_by_cmp n (x ∷ xs) = rw (equal_by_cmp n x, any_equal_by_cmp n xs) refl

-- a number that is found is one of the keys
pub found_is_any : {V : Type 0} (n : ℕ) (es : List (ℕ × V)) → is_some (lookup (is_at (nat_cmp n)) es) ≡ list_any (nat_eq n) (map (λ e. e.0) es)
found_is_any n es = is_some-lookup (is_at (nat_cmp n)) es ∙ any_equal_by_cmp n (keys_of es)

-- ---- the greatest number

fold_max_low : (acc : ℕ) (xs : List ℕ) → acc ≤ fold max acc xs
fold_max_low acc [] = omega arith
fold_max_low acc (x ∷ xs) = let h = fold_max_low (max acc x) xs in omega arith

at_most : (n x : ℕ) → is_lt (nat_cmp n x) ≡ false → x ≤ n
at_most n x h = grind (arith, nat_tests)

fold_max_bound : (acc n : ℕ) (xs : List ℕ) → acc ≤ n → All (λ x. is_lt (nat_cmp n x) ≡ false) xs → fold max acc xs ≤ n
fold_max_bound acc n [] low all = low
fold_max_bound acc n (x ∷ xs) low all =
    let head : x ≤ n = at_most n x (All-head (λ x. is_lt (nat_cmp n x) ≡ false) x xs all) in
    fold_max_bound (max acc x) n xs (omega arith) (All-tail (λ x. is_lt (nat_cmp n x) ≡ false) x xs all)

fold_max_member : {V : Type 0} (acc : ℕ) (es : List (ℕ × V)) (i n : ℕ) (v : V) → slice_get es i ≡ Some (n, v) → n ≤ fold max acc (keys_of es)
fold_max_member acc [] i n v at = cc
fold_max_member acc (e ∷ es) zero n v at =
    let same : e.0 ≡ n = cc in
    let low = fold_max_low (max acc e.0) (keys_of es) in
    omega arith
fold_max_member acc (e ∷ es) (suc i) n v at = fold_max_member (max acc e.0) es i n v at

-- a number of an entry that no other exceeds is the greatest
pub greatest_is : {V : Type 0} (es : List (ℕ × V)) (i n : ℕ) (v : V) → slice_get es i ≡ Some (n, v) → All (λ x. is_lt (nat_cmp n x) ≡ false) (keys_of es) → n ≡ fold max 0 (map (λ e. e.0) es)
greatest_is es i n v at all =
    let low : n ≤ fold max 0 (keys_of es) = fold_max_member 0 es i n v at in
    let high : fold max 0 (keys_of es) ≤ n = fold_max_bound 0 n (keys_of es) (omega arith) all in
    omega arith

-- What counts of the entries of a list and of the lists at an interface.
use Rattle.std.proofs.Common.{◌≡◌, ℕ, Bool, true, false, cond, nat_eq, List, [], ◌∷◌, Option, Some, None, refl, sym, ap, ◌∙◌, arith}
use Rattle.std.specs.Prelude.{fold}
use Rattle.std.specs.BTreeMap.{insert_entry}
use Rattle.std.specs.List.{AllByRecursion}
use Rattle.std.specs.List.Sorted.{IsStrictlySortedBy}
use Rattle.std.specs.Map.{keys_of, lookup}
use Rattle.std.specs.Option.{option_or}
use Rattle.std.specs.Ordering.{match_ordering, nat_cmp}
use Rattle.std.specs.Str.{bytes_eq}
use Rattle.std.specs.declared.cmp.Ordering.{Ordering}
use Rattle.std.specs.declared.cmp.Ordering.TheVariants.{Less, Equal, Greater}
use Rattle.std.proofs.lemmas.Bool.Decides.{nat_tests}
use Rattle.std.proofs.lemmas.Slice.Eq.{bytes_eq-Decides}
use Rattle.indexmap.specs.IndexMap.{insert_entry as put}
use Rattle.np_acl.specs.declared.entries.Entry.{Entry}
use Rattle.np_acl.specs.declared.kinds.Way.{Way}
use Rattle.np_acl_read.specs.declared.statement.Statement.{Statement}
use Rattle.np_acl_read.specs.Counting.{last_with}
use Rattle.np_acl_read.specs.Declaring.{applied_by, declared_in, entries_of, groups_in, with_entry, with_list_at}

-- ---- the last pair of a key counts

module _ {K V : Type 0} (test : K → Bool) (with_one : List (K × V) → K × V → List (K × V)) (found : (pairs : List (K × V)) (one : K × V) → lookup test (with_one pairs one) ≡ cond (test one.0) (Some one.1) (lookup test pairs)) where
  chosen : (last : Option V) (passes : Bool) (v : V) (before : Option V) → option_or last (cond passes (Some v) before) ≡ option_or (option_or last (cond passes (Some v) None)) before
  chosen None true v before = refl
  chosen None false v before = refl
  chosen (Some x) passes v before = refl

  -- what is found after pairs are added one by one
  found_after : (pairs more : List (K × V)) → lookup test (fold with_one pairs more) ≡ option_or (last_with test more) (lookup test pairs)
  found_after pairs [] = refl
  found_after pairs (one ∷ more) =
      found_after (with_one pairs one) more
      ∙ ap (λ o. option_or (last_with test more) o) (found pairs one)
      ∙ chosen (last_with test more) (test one.0) one.1 (lookup test pairs)

  none_before : (o : Option V) → option_or o None ≡ o
  none_before None = refl
  none_before (Some x) = refl

  -- and where there was none
  pub last_found : (more : List (K × V)) → lookup test (fold with_one [] more) ≡ last_with test more
  last_found more = found_after [] more ∙ none_before (last_with test more)

-- ---- groups

found_put : {V : Type 0} (q : List ℕ) (pairs : List (List ℕ × V)) (k : List ℕ) (v : V) → lookup (bytes_eq q) (put bytes_eq pairs k v) ≡ cond (bytes_eq q k) (Some v) (lookup (bytes_eq q) pairs)
found_put q [] k v = refl
found_put q (e ∷ es) k v = by (bytes_eq k e.0) refl (found_put q es k v) where
  skip : (at at_k : Bool) (o : Option _) → (at_k ≡ true → at ≡ true → ⊥) → cond at (Some e.1) (cond at_k (Some v) o) ≡ cond at_k (Some v) (cond at (Some e.1) o)
  skip true true o apart = absurd (apart refl refl)
  skip true false o apart = refl
  skip false at_k o apart = refl

  by : (b : Bool) → bytes_eq k e.0 ≡ b → lookup (bytes_eq q) (put bytes_eq es k v) ≡ cond (bytes_eq q k) (Some v) (lookup (bytes_eq q) es)
      → lookup (bytes_eq q) (cond b ((e.0, v) ∷ es) (e ∷ put bytes_eq es k v)) ≡ cond (bytes_eq q k) (Some v) (cond (bytes_eq q e.0) (Some e.1) (lookup (bytes_eq q) es))
  by true is rest = let same : k ≡ e.0 = (bytes_eq-Decides k e.0).0 is in rw same (twice (bytes_eq q e.0) (lookup (bytes_eq q) es))
    where
      twice : (b : Bool) (o : Option _) → cond b (Some v) o ≡ cond b (Some v) (cond b (Some e.1) o)
      twice true o = refl
      twice false o = refl
  by false is rest =
      ap (λ o. cond (bytes_eq q e.0) (Some e.1) o) rest
      ∙ skip (bytes_eq q e.0) (bytes_eq q k) (lookup (bytes_eq q) es) (λ at_k at. apart ((bytes_eq-Decides q k).0 at_k) ((bytes_eq-Decides q e.0).0 at))
    where
      apart : q ≡ k → q ≡ e.0 → ⊥
      apart first second = let same : bytes_eq k e.0 ≡ true = (bytes_eq-Decides k e.0).1 (sym first ∙ second) in cc

-- of the lists that are applied at an interface in one way the last one counts
pub last_group_counts : (statements : List Statement) (way : Way) (interface : List ℕ) → lookup (bytes_eq interface) (applied_by statements way) ≡ last_with (bytes_eq interface) (groups_in statements way)
last_group_counts statements way interface = last_found (bytes_eq interface) with_list_at (λ pairs one. found_put interface pairs one.0 one.1) (groups_in statements way)

-- ---- entries

found_numbered : (q : ℕ) (pairs : List (ℕ × Entry)) (n : ℕ) (e : Entry) → lookup (nat_eq q) (insert_entry nat_cmp pairs n e) ≡ cond (nat_eq q n) (Some e) (lookup (nat_eq q) pairs)
found_numbered q [] n e = refl
found_numbered q (p ∷ ps) n e = by (nat_cmp n p.0) refl (found_numbered q ps n e) where
  twice : (b : Bool) (o : Option Entry) → cond b (Some e) o ≡ cond b (Some e) (cond b (Some p.1) o)
  twice true o = refl
  twice false o = refl

  skip : (at at_n : Bool) (o : Option Entry) → (at_n ≡ true → at ≡ true → ⊥) → cond at (Some p.1) (cond at_n (Some e) o) ≡ cond at_n (Some e) (cond at (Some p.1) o)
  skip true true o apart = absurd (apart refl refl)
  skip true false o apart = refl
  skip false at_n o apart = refl

  equal : nat_cmp n p.0 ≡ Equal → n ≡ p.0
  equal is = grind (arith, nat_tests)

  apart : nat_cmp n p.0 ≡ Greater → nat_eq q n ≡ true → nat_eq q p.0 ≡ true → ⊥
  apart is at_n at = grind (arith, nat_tests)

  by : (r : Ordering) → nat_cmp n p.0 ≡ r → lookup (nat_eq q) (insert_entry nat_cmp ps n e) ≡ cond (nat_eq q n) (Some e) (lookup (nat_eq q) ps)
      → lookup (nat_eq q) (match_ordering r ((n, e) ∷ p ∷ ps) ((p.0, e) ∷ ps) (p ∷ insert_entry nat_cmp ps n e)) ≡ cond (nat_eq q n) (Some e) (cond (nat_eq q p.0) (Some p.1) (lookup (nat_eq q) ps))
  by Less is rest = refl
  by Equal is rest = rw (equal is) (twice (nat_eq q p.0) (lookup (nat_eq q) ps))
  by Greater is rest =
      ap (λ o. cond (nat_eq q p.0) (Some p.1) o) rest ∙ skip (nat_eq q p.0) (nat_eq q n) (lookup (nat_eq q) ps) (apart is)

-- the entry of a number is the one that is declared last
pub entry_of_number : (statements : List Statement) (name : List ℕ) (number : ℕ) → lookup (nat_eq number) (entries_of statements name) ≡ last_with (nat_eq number) (declared_in statements name)
entry_of_number statements name number = last_found (nat_eq number) with_entry (λ pairs one. found_numbered number pairs one.0 one.1) (declared_in statements name)

-- numbers above one stay above it with one more that is
all_above : (low n : ℕ) (e : Entry) (pairs : List (ℕ × Entry)) → nat_cmp low n ≡ Less → AllByRecursion (λ x. nat_cmp low x ≡ Less) (keys_of pairs) → AllByRecursion (λ x. nat_cmp low x ≡ Less) (keys_of (insert_entry nat_cmp pairs n e))
all_above low n e [] less all = (less, tt)
all_above low n e (p ∷ ps) less all = by (nat_cmp n p.0) (all_above low n e ps less all.1) where
  by : (r : Ordering) → AllByRecursion (λ x. nat_cmp low x ≡ Less) (keys_of (insert_entry nat_cmp ps n e)) → AllByRecursion (λ x. nat_cmp low x ≡ Less) (keys_of (match_ordering r ((n, e) ∷ p ∷ ps) ((p.0, e) ∷ ps) (p ∷ insert_entry nat_cmp ps n e)))
  by Less rest = (less, all)
  by Equal rest = all
  by Greater rest = (all.0, rest)

less_trans : (x y z : ℕ) → nat_cmp x y ≡ Less → nat_cmp y z ≡ Less → nat_cmp x z ≡ Less
less_trans x y z first second = grind (arith, nat_tests)

all_less : (x y : ℕ) (ns : List ℕ) → nat_cmp x y ≡ Less → AllByRecursion (λ z. nat_cmp y z ≡ Less) ns → AllByRecursion (λ z. nat_cmp x z ≡ Less) ns
all_less x y [] less all = tt
all_less x y (n ∷ ns) less all = (less_trans x y n less all.0, all_less x y ns less all.1)

less_back : (n x : ℕ) → nat_cmp n x ≡ Greater → nat_cmp x n ≡ Less
less_back n x is = grind (arith, nat_tests)

-- numbers that ascend do so with one more at its place
ascend_more : (pairs : List (ℕ × Entry)) (n : ℕ) (e : Entry) → IsStrictlySortedBy nat_cmp (keys_of pairs) → IsStrictlySortedBy nat_cmp (keys_of (insert_entry nat_cmp pairs n e))
unfolding IsStrictlySortedBy
ascend_more [] n e ascend = (tt, tt)
ascend_more (p ∷ ps) n e ascend = by (nat_cmp n p.0) refl (ascend_more ps n e ascend.1) where
  by : (r : Ordering) → nat_cmp n p.0 ≡ r → IsStrictlySortedBy nat_cmp (keys_of (insert_entry nat_cmp ps n e)) → IsStrictlySortedBy nat_cmp (keys_of (match_ordering r ((n, e) ∷ p ∷ ps) ((p.0, e) ∷ ps) (p ∷ insert_entry nat_cmp ps n e)))
  by Less is rest = ((is, all_less n p.0 (keys_of ps) is ascend.0), ascend)
  by Equal is rest = ascend
  by Greater is rest = (all_above p.0 n e ps (less_back n p.0 is) ascend.0, rest)

ascend_after : (pairs more : List (ℕ × Entry)) → IsStrictlySortedBy nat_cmp (keys_of pairs) → IsStrictlySortedBy nat_cmp (keys_of (fold with_entry pairs more))
ascend_after pairs [] ascend = ascend
ascend_after pairs (one ∷ more) ascend = ascend_after (with_entry pairs one) more (ascend_more pairs one.0 one.1 ascend)

none_ascend : IsStrictlySortedBy nat_cmp []
unfolding IsStrictlySortedBy
none_ascend = tt

-- the numbers of a list ascend
pub numbers_ascend : (statements : List Statement) (name : List ℕ) → IsStrictlySortedBy nat_cmp (keys_of (entries_of statements name))
numbers_ascend statements name = ascend_after [] (declared_in statements name) none_ascend

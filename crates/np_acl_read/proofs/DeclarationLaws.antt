-- What is declared grows by one statement at a time.
use Rattle.std.proofs.Common.{◌≡◌, ℕ, ◌+◌, Bool, true, false, ◌||◌, List, [], ◌∷◌, ◌++◌, length, map, Option, Some, None, refl, sym, ap, subst, ◌∙◌, arith}
use Rattle.std.specs.Prelude.{fold}
use Rattle.std.specs.List.{AllByRecursion, IsDistinct, filter_map, list_any}
use Rattle.std.specs.Map.{keys_of}
use Rattle.std.specs.Str.{bytes_eq}
use Rattle.std.proofs.lemmas.Bool.{or_parts}
use Rattle.std.proofs.lemmas.Cmp.{nat_list_eq_equiv}
use Rattle.std.proofs.lemmas.List.Elements.{filter_map-append}
use Rattle.std.proofs.lemmas.List.Folds.{list_any-append}
use Rattle.std.proofs.lemmas.Map.Keys.{IsDistinct-head, IsDistinct-tail, IsDistinct-push}
use Rattle.std.proofs.lemmas.Map.Steps.{list_any_congr}
use Rattle.std.proofs.lemmas.Slice.Eq.{bytes_eq-Decides}
use Rattle.indexmap.specs.IndexMap.{insert_entry as put}
use Rattle.np_acl.specs.declared.entries.Entry.{Entry}
use Rattle.np_acl.specs.declared.kinds.Way.{Way}
use Rattle.np_acl.specs.declared.kinds.Way.TheVariants.{Inward, Outward}
use Rattle.np_acl_read.specs.declared.declared.Section.TheVariants as sections
use Rattle.np_acl_read.specs.declared.statement.NumberedEntry.{NumberedEntry}
use Rattle.np_acl_read.specs.declared.statement.Statement.{Statement}
use Rattle.np_acl_read.specs.declared.statement.Statement.TheVariants as statement
use Rattle.np_acl_read.specs.Adding.{added, entries_named, with_entry_at, with_list}
use Rattle.np_acl_read.specs.Declaring.{declared_by_config, section_after, section_of, list_in, with_name, names_of, entry_in, entry_of_list, with_entry, in_order, entries_of, lists_of, group_in, with_list_at, groups_of}
use Rattle.np_acl_read.specs.Groups.{no_groups, with_group}

-- ---- one more item

-- items that give nothing leave what the others give
pub none_more : {X Y : Type 0} (h : X → Option Y) (xs : List X) (x : X) → h x ≡ None → filter_map h (xs ++ x ∷ []) ≡ filter_map h xs
none_more h [] x none = rw none refl
none_more h (y ∷ xs) x none = rw (none_more h xs x none) refl

pub one_more : {X Y : Type 0} (h : X → Option Y) (xs : List X) (x : X) (y : Y) → h x ≡ Some y → filter_map h (xs ++ x ∷ []) ≡ filter_map h xs ++ y ∷ []
one_more h xs x y one = filter_map-append h xs (x ∷ []) ∙ rw one refl

fold_more : {A B : Type 0} (f : B → A → B) (b : B) (xs : List A) (x : A) → fold f b (xs ++ x ∷ []) ≡ f (fold f b xs) x
fold_more f b [] x = refl
fold_more f b (y ∷ xs) x = fold_more f (f b y) xs x

length_more : {X : Type 0} (xs : List X) (x : X) → length (xs ++ x ∷ []) ≡ length xs + 1
length_more [] x = refl
length_more (y ∷ xs) x = let h = length_more xs x in omega arith

-- ---- names

or_none : (b : Bool) → (b || false) ≡ b
or_none true = refl
or_none false = refl

or_same : (b e : Bool) → (e ≡ true → b ≡ true) → (b || e) ≡ b
or_same true e since = refl
or_same false true since = sym (since refl)
or_same false false since = refl

-- a name is among names with one more where it is among them, or is that one
any_with_name : (name : List ℕ) (names : List (List ℕ)) (one : List ℕ) → list_any (bytes_eq name) (with_name names one) ≡ (list_any (bytes_eq name) names || bytes_eq name one)
any_with_name name names one = by (list_any (bytes_eq one) names) refl where
  by : (b : Bool) → list_any (bytes_eq one) names ≡ b → list_any (bytes_eq name) (with_name names one) ≡ (list_any (bytes_eq name) names || bytes_eq name one)
  by true there = rw there (sym (or_same (list_any (bytes_eq name) names) (bytes_eq name one) (λ is. list_any_congr nat_list_eq_equiv name one names is ∙ there)))
  by false away = rw away (list_any-append (bytes_eq name) names (one ∷ []) ∙ ap (λ b. list_any (bytes_eq name) names || b) (or_none (bytes_eq name one)))

or_assoc : (a b c : Bool) → ((a || b) || c) ≡ (a || (b || c))
or_assoc true b c = refl
or_assoc false b c = refl

any_names_after : (name : List ℕ) (names more : List (List ℕ)) → list_any (bytes_eq name) (fold with_name names more) ≡ (list_any (bytes_eq name) names || list_any (bytes_eq name) more)
any_names_after name names [] = sym (or_none (list_any (bytes_eq name) names))
any_names_after name names (one ∷ more) =
    any_names_after name (with_name names one) more
    ∙ ap (λ b. b || list_any (bytes_eq name) more) (any_with_name name names one)
    ∙ or_assoc (list_any (bytes_eq name) names) (bytes_eq name one) (list_any (bytes_eq name) more)

distinct_with_name : (names : List (List ℕ)) (one : List ℕ) → IsDistinct bytes_eq names → IsDistinct bytes_eq (with_name names one)
distinct_with_name names one apart = by (list_any (bytes_eq one) names) refl where
  by : (b : Bool) → list_any (bytes_eq one) names ≡ b → IsDistinct bytes_eq (with_name names one)
  by true there = rw there apart
  by false away = rw away (IsDistinct-push nat_list_eq_equiv names one apart away)

distinct_after : (names more : List (List ℕ)) → IsDistinct bytes_eq names → IsDistinct bytes_eq (fold with_name names more)
distinct_after names [] apart = apart
distinct_after names (one ∷ more) apart = distinct_after (with_name names one) more (distinct_with_name names one apart)

none_distinct : IsDistinct bytes_eq []
unfolding IsDistinct
none_distinct = tt

-- no name is twice among the names of the lists
names_distinct : (statements : List Statement) → IsDistinct bytes_eq (names_of statements)
names_distinct statements = distinct_after [] (filter_map list_in statements) none_distinct

-- ---- entries

other_entry : (name : List ℕ) (entry : NumberedEntry) (entries : List NumberedEntry) → bytes_eq name entry.list ≡ false → filter_map (entry_of_list name) entries ≡ [] → filter_map (entry_of_list name) (entry ∷ entries) ≡ []
other_entry name entry entries away rest = rw (away, rest) refl

-- a list that no statement names has no entries
no_entries_in : (name : List ℕ) (statements : List Statement) → list_any (bytes_eq name) (filter_map list_in statements) ≡ false → filter_map (entry_of_list name) (filter_map entry_in statements) ≡ []
no_entries_in name [] away = refl
no_entries_in name (statement.Interface interface ∷ statements) away = no_entries_in name statements away
no_entries_in name (statement.Section list kind ∷ statements) away =
    no_entries_in name statements (or_parts (bytes_eq name list) (list_any (bytes_eq name) (filter_map list_in statements)) away).1
no_entries_in name (statement.Remark list ∷ statements) away =
    no_entries_in name statements (or_parts (bytes_eq name list) (list_any (bytes_eq name) (filter_map list_in statements)) away).1
no_entries_in name (statement.ListEntry entry ∷ statements) away =
    let parts = or_parts (bytes_eq name entry.list) (list_any (bytes_eq name) (filter_map list_in statements)) away in
    other_entry name entry (filter_map entry_in statements) parts.0 (no_entries_in name statements parts.1)
no_entries_in name (statement.SectionEntry entry ∷ statements) away =
    let parts = or_parts (bytes_eq name entry.list) (list_any (bytes_eq name) (filter_map list_in statements)) away in
    other_entry name entry (filter_map entry_in statements) parts.0 (no_entries_in name statements parts.1)
no_entries_in name (statement.Group interface way list ∷ statements) away = no_entries_in name statements away
no_entries_in name (statement.Other ∷ statements) away = no_entries_in name statements away

pub no_entries : (name : List ℕ) (statements : List Statement) → list_any (bytes_eq name) (names_of statements) ≡ false → entries_of statements name ≡ []
no_entries name statements away =
    ap (λ entries. in_order entries) (no_entries_in name statements (sym (any_names_after name [] (filter_map list_in statements)) ∙ away))

-- ---- lists

-- each name with what a function gives for it
abbrev listed : {V : Type 0} → (List ℕ → V) → List (List ℕ) → List (List ℕ × V)
listed f names = map (λ name. (name, f name)) names

names_kept : {V : Type 0} (f : List ℕ → V) (names : List (List ℕ)) → keys_of (listed f names) ≡ names
names_kept f [] = refl
names_kept f (name ∷ names) = ap (λ more. name ∷ more) (names_kept f names)

listed_more : {V : Type 0} (f : List ℕ → V) (names : List (List ℕ)) (one : List ℕ) → listed f (names ++ one ∷ []) ≡ listed f names ++ (one, f one) ∷ []
listed_more f [] one = refl
listed_more f (name ∷ names) one = ap (λ more. (name, f name) ∷ more) (listed_more f names one)

-- a list is made without entries where it isn't there
made_with_list : (f : List ℕ → List (ℕ × Entry)) (names : List (List ℕ)) (one : List ℕ) → (list_any (bytes_eq one) names ≡ false → f one ≡ []) → listed f (with_name names one) ≡ with_list (listed f names) one
made_with_list f names one none = by (list_any (bytes_eq one) names) refl where
  by : (b : Bool) → list_any (bytes_eq one) names ≡ b → listed f (with_name names one) ≡ with_list (listed f names) one
  by true there = rw (names_kept f names, there) refl
  by false away = rw (names_kept f names, away, listed_more f names one, none away) refl

-- the entries that are found at a name
pub found_at : (f : List ℕ → List (ℕ × Entry)) (names : List (List ℕ)) (one : List ℕ) → (list_any (bytes_eq one) names ≡ false → f one ≡ []) → entries_named (listed f names) one ≡ f one
found_at f [] one none = sym (none refl)
found_at f (name ∷ names) one none = by (bytes_eq one name) refl (found_at f names one) none where
  by : (b : Bool) → bytes_eq one name ≡ b → ((list_any (bytes_eq one) names ≡ false → f one ≡ []) → entries_named (listed f names) one ≡ f one) → ((b || list_any (bytes_eq one) names) ≡ false → f one ≡ []) → entries_named (listed f (name ∷ names)) one ≡ f one
  by true is rest none = let same : one ≡ name = (bytes_eq-Decides one name).0 is in rw is (ap f (sym same))
  by false is rest none = rw is (rest none)

-- lists that differ from others at no name of theirs are the same
same_lists : {V : Type 0} (f g : List ℕ → V) (one : List ℕ) (names : List (List ℕ)) → ((name : List ℕ) → bytes_eq one name ≡ false → g name ≡ f name) → AllByRecursion (λ name. bytes_eq one name ≡ false) names → listed g names ≡ listed f names
same_lists f g one [] same away = refl
same_lists f g one (name ∷ names) same away = rw (same name away.0, same_lists f g one names same away.1) refl

with_name_after : (name : List ℕ) (names : List (List ℕ)) (one : List ℕ) → bytes_eq one name ≡ false → with_name (name ∷ names) one ≡ name ∷ with_name names one
with_name_after name names one away = by (list_any (bytes_eq one) names) refl where
  by : (b : Bool) → list_any (bytes_eq one) names ≡ b → with_name (name ∷ names) one ≡ name ∷ with_name names one
  by true there = rw (away, there) refl
  by false none = rw (away, none) refl

-- a list that changes is put
put_changed : {V : Type 0} (f g : List ℕ → V) (names : List (List ℕ)) (one : List ℕ) → ((name : List ℕ) → bytes_eq one name ≡ false → g name ≡ f name) → IsDistinct bytes_eq names → listed g (with_name names one) ≡ put bytes_eq (listed f names) one (g one)
put_changed f g [] one same apart = refl
put_changed f g (name ∷ names) one same apart = by (bytes_eq one name) refl (put_changed f g names one same (IsDistinct-tail bytes_eq name names apart)) where
  by : (b : Bool) → bytes_eq one name ≡ b → listed g (with_name names one) ≡ put bytes_eq (listed f names) one (g one) → listed g (with_name (name ∷ names) one) ≡ put bytes_eq (listed f (name ∷ names)) one (g one)
  by true is rest =
      let equal : one ≡ name = (bytes_eq-Decides one name).0 is in
      let away : AllByRecursion (λ name. bytes_eq one name ≡ false) names = subst (λ n. AllByRecursion (λ name. bytes_eq n name ≡ false) names) (sym equal) (IsDistinct-head bytes_eq name names apart) in
      rw (is, same_lists f g one names same away, equal) refl
  by false is rest = rw (with_name_after name names one is, is, same name is, rest) refl

-- one more entry leaves the other lists, and stands at its place in its own
entries_elsewhere : (before : List Statement) (s : Statement) (entry : NumberedEntry) → entry_in s ≡ Some entry → (name : List ℕ) → bytes_eq entry.list name ≡ false → entries_of (before ++ s ∷ []) name ≡ entries_of before name
entries_elsewhere before s entry is name away =
    let apart : bytes_eq name entry.list ≡ false = nat_list_eq_equiv.symm name entry.list ∙ away in
    rw (one_more entry_in before s entry is, none_more (entry_of_list name) (filter_map entry_in before) entry (rw apart refl)) refl

entries_there : (before : List Statement) (s : Statement) (entry : NumberedEntry) → entry_in s ≡ Some entry → entries_of (before ++ s ∷ []) entry.list ≡ with_entry (entries_of before entry.list) (entry.number, entry.entry)
entries_there before s entry is =
    rw (
      one_more entry_in before s entry is,
      one_more (entry_of_list entry.list) (filter_map entry_in before) entry (entry.number, entry.entry) (rw (nat_list_eq_equiv.refl entry.list) refl),
    ) (fold_more with_entry [] (filter_map (entry_of_list entry.list) (filter_map entry_in before)) (entry.number, entry.entry))

names_more : (before : List Statement) (s : Statement) (name : List ℕ) → list_in s ≡ Some name → names_of (before ++ s ∷ []) ≡ with_name (names_of before) name
names_more before s name is = rw (one_more list_in before s name is) (fold_more with_name [] (filter_map list_in before) name)

-- a statement that names no list leaves the lists
lists_kept : (before : List Statement) (s : Statement) → list_in s ≡ None → entry_in s ≡ None → lists_of (before ++ s ∷ []) ≡ lists_of before
lists_kept before s no_list no_entry = rw (none_more list_in before s no_list, none_more entry_in before s no_entry) refl

-- one that names a list makes it
lists_opened : (before : List Statement) (s : Statement) (name : List ℕ) → list_in s ≡ Some name → entry_in s ≡ None → lists_of (before ++ s ∷ []) ≡ with_list (lists_of before) name
lists_opened before s name list no_entry =
    rw (none_more entry_in before s no_entry, names_more before s name list)
    (made_with_list (entries_of before) (names_of before) name (no_entries name before))

-- and one with an entry adds it
lists_added : (before : List Statement) (s : Statement) (entry : NumberedEntry) → list_in s ≡ Some entry.list → entry_in s ≡ Some entry → lists_of (before ++ s ∷ []) ≡ with_entry_at (lists_of before) entry.list (entry.number, entry.entry)
lists_added before s entry list is =
    rw (
      names_more before s entry.list list,
      put_changed (entries_of before) (entries_of (before ++ s ∷ [])) (names_of before) entry.list (entries_elsewhere before s entry is) (names_distinct before),
      entries_there before s entry is,
      found_at (entries_of before) (names_of before) entry.list (no_entries entry.list before),
    ) refl

-- ---- the whole

section_more : (before : List Statement) (s : Statement) → section_of (before ++ s ∷ []) ≡ section_after (section_of before) s
section_more before s = fold_more section_after sections.Closed before s

-- a list that is applied counts at its interface in its way
groups_more : (before : List Statement) (interface : List ℕ) (way : Way) (list : List ℕ) → groups_of (before ++ statement.Group interface way list ∷ []) ≡ with_group (groups_of before) way interface list
groups_more before interface Inward list =
    rw (
      one_more (group_in Inward) before (statement.Group interface Inward list) (interface, list) refl,
      none_more (group_in Outward) before (statement.Group interface Inward list) refl,
      fold_more with_list_at [] (filter_map (group_in Inward) before) (interface, list),
    ) refl
groups_more before interface Outward list =
    rw (
      none_more (group_in Inward) before (statement.Group interface Outward list) refl,
      one_more (group_in Outward) before (statement.Group interface Outward list) (interface, list) refl,
      fold_more with_list_at [] (filter_map (group_in Outward) before) (interface, list),
    ) refl

-- other statements apply none
groups_kept : (before : List Statement) (s : Statement) → group_in Inward s ≡ None → group_in Outward s ≡ None → groups_of (before ++ s ∷ []) ≡ groups_of before
groups_kept before s inward outward = rw (none_more (group_in Inward) before s inward, none_more (group_in Outward) before s outward) refl

-- one statement more declares what it adds
pub declared_one_more : (before : List Statement) (s : Statement) → declared_by_config (before ++ s ∷ []) ≡ added (declared_by_config before) s
unfolding declared_by_config
declared_one_more before (statement.Interface name) =
    rw (
      section_more before (statement.Interface name),
      lists_kept before (statement.Interface name) refl refl,
      groups_kept before (statement.Interface name) refl refl,
      none_more entry_in before (statement.Interface name) refl,
    ) refl
declared_one_more before (statement.Section list kind) =
    rw (
      section_more before (statement.Section list kind),
      lists_opened before (statement.Section list kind) list refl refl,
      groups_kept before (statement.Section list kind) refl refl,
      none_more entry_in before (statement.Section list kind) refl,
    ) refl
declared_one_more before (statement.Remark list) =
    rw (
      section_more before (statement.Remark list),
      lists_opened before (statement.Remark list) list refl refl,
      groups_kept before (statement.Remark list) refl refl,
      none_more entry_in before (statement.Remark list) refl,
    ) refl
declared_one_more before (statement.ListEntry entry) =
    rw (
      section_more before (statement.ListEntry entry),
      lists_added before (statement.ListEntry entry) entry refl refl,
      groups_kept before (statement.ListEntry entry) refl refl,
      one_more entry_in before (statement.ListEntry entry) entry refl,
      length_more (filter_map entry_in before) entry,
    ) refl
declared_one_more before (statement.SectionEntry entry) =
    rw (
      section_more before (statement.SectionEntry entry),
      lists_added before (statement.SectionEntry entry) entry refl refl,
      groups_kept before (statement.SectionEntry entry) refl refl,
      one_more entry_in before (statement.SectionEntry entry) entry refl,
      length_more (filter_map entry_in before) entry,
    ) refl
declared_one_more before (statement.Group interface way list) =
    rw (
      section_more before (statement.Group interface way list),
      lists_kept before (statement.Group interface way list) refl refl,
      groups_more before interface way list,
      none_more entry_in before (statement.Group interface way list) refl,
    ) refl
declared_one_more before statement.Other =
    rw (
      section_more before statement.Other,
      lists_kept before statement.Other refl refl,
      groups_kept before statement.Other refl refl,
      none_more entry_in before statement.Other refl,
    ) refl

-- no statements declare nothing
pub declared_first : declared_by_config [] ≡ record { section = sections.Closed; lists = []; groups = no_groups; entries = 0 }
unfolding declared_by_config
declared_first = refl

-- An entry that a line of a list's section says is among the entries of the list.
use Rattle.std.proofs.Common.{◌≡◌, ℕ, Bool, true, false, cond, nat_eq, List, [], ◌∷◌, ◌++◌, map, Some, None, refl, sym, ap, subst, ◌∙◌}
use Rattle.std.specs.Prelude.{◌||◌, Ok}
use Rattle.std.specs.List.{AllByRecursion, IsDistinct, filter_map, list_any}
use Rattle.std.specs.Map.{keys_of, lookup}
use Rattle.std.specs.Str.{bytes_eq}
use Rattle.std.proofs.lemmas.Cmp.{nat_eq_equiv, nat_list_eq_equiv}
use Rattle.std.proofs.lemmas.List.Elements.{filter_map-append}
use Rattle.std.proofs.lemmas.List.Folds.{list_any-append}
use Rattle.std.proofs.lemmas.Map.Keys.{IsDistinct-head, IsDistinct-tail}
use Rattle.std.proofs.lemmas.Slice.Eq.{bytes_eq-Decides}
use Rattle.np_lines.specs.Reading.{text_says}
use Rattle.np_acl.specs.declared.entries.Entry.{Entry}
use Rattle.np_acl_read.specs.declared.statement.NumberedEntry.{NumberedEntry}
use Rattle.np_acl_read.specs.declared.statement.Statement.{Statement}
use Rattle.np_acl_read.specs.declared.statement.Statement.TheVariants as statement
use Rattle.np_acl_read.specs.Counting.{last_with}
use Rattle.np_acl_read.specs.Declaring.{declared_by_config, declared_in, entries_of, entry_in, entry_of_list, list_in, lists_of, names_of, plain_lists}
use Rattle.np_acl_read.specs.Judging.{line_says}
use Rattle.np_acl_read.proofs.CountingLaws.{entry_of_number}
use Rattle.np_acl_read.proofs.NewNumberLaws.{numbers_apart}
use Rattle.np_notes.specs.Clean.{IsAmong}
use Rattle.np_notes.proofs.NameLaws.{any_once}

-- ---- one entry of those declared

-- the entries that are declared, around that of one statement
declared_around : (front back : List Statement) (e : NumberedEntry) → declared_in (front ++ statement.SectionEntry e ∷ back) e.list ≡ declared_in front e.list ++ (e.number, e.entry) ∷ declared_in back e.list
declared_around front back e =
    ap (λ entries. filter_map (entry_of_list e.list) entries) (filter_map-append entry_in front (statement.SectionEntry e ∷ back))
    ∙ filter_map-append (entry_of_list e.list) (filter_map entry_in front) (e ∷ filter_map entry_in back)
    ∙ ap (λ more. declared_in front e.list ++ more) own
  where
    own : filter_map (entry_of_list e.list) (e ∷ filter_map entry_in back) ≡ (e.number, e.entry) ∷ declared_in back e.list
    own = rw (nat_list_eq_equiv.refl e.list) refl

none_with : (n : ℕ) (pairs : List (ℕ × Entry)) → AllByRecursion (λ y. nat_eq n y ≡ false) (keys_of pairs) → last_with (nat_eq n) pairs ≡ None
none_with n [] away = refl
none_with n (pair ∷ pairs) away = rw (none_with n pairs away.1, away.0) refl

-- with distinct numbers the one that is declared counts
last_is : (front back : List (ℕ × Entry)) (n : ℕ) (x : Entry) → IsDistinct nat_eq (keys_of (front ++ (n, x) ∷ back)) → last_with (nat_eq n) (front ++ (n, x) ∷ back) ≡ Some x
last_is [] back n x apart = rw (none_with n back (IsDistinct-head nat_eq n (keys_of back) apart), nat_eq_equiv.refl n) refl
last_is (pair ∷ front) back n x apart = rw (last_is front back n x (IsDistinct-tail nat_eq pair.0 (keys_of (front ++ (n, x) ∷ back)) apart)) refl

-- what is found by its number is among the entries
found_among : (pairs : List (ℕ × Entry)) (n : ℕ) (x : Entry) → lookup (nat_eq n) pairs ≡ Some x → IsAmong x (map (λ entry. entry.1) pairs)
found_among [] n x found = absurd (cc)
found_among (pair ∷ pairs) n x found = by (nat_eq n pair.0) (found_among pairs n x) found where
  by : (b : Bool) → (lookup (nat_eq n) pairs ≡ Some x → IsAmong x (map (λ entry. entry.1) pairs)) → cond b (Some pair.1) (lookup (nat_eq n) pairs) ≡ Some x → IsAmong x (pair.1 ∷ map (λ entry. entry.1) pairs)
  by true rest is = let same : pair.1 ≡ x = cc in record { front = []; back = map (λ entry. entry.1) pairs; split = ap (λ y. y ∷ map (λ entry. entry.1) pairs) same }
  by false rest is = let more = rest is in record { front = pair.1 ∷ more.front; back = more.back; split = ap (λ l. pair.1 ∷ l) more.split }

-- ---- its list

found_listed : {V : Type 0} (f : List ℕ → V) (names : List (List ℕ)) (one : List ℕ) → list_any (bytes_eq one) names ≡ true → lookup (bytes_eq one) (map (λ name. (name, f name)) names) ≡ Some (f one)
found_listed f [] one there = absurd (cc)
found_listed f (name ∷ names) one there = by (bytes_eq one name) refl (found_listed f names one) there where
  by : (b : Bool) → bytes_eq one name ≡ b → (list_any (bytes_eq one) names ≡ true → lookup (bytes_eq one) (map (λ name. (name, f name)) names) ≡ Some (f one)) → (b || list_any (bytes_eq one) names) ≡ true → cond b (Some (f name)) (lookup (bytes_eq one) (map (λ name. (name, f name)) names)) ≡ Some (f one)
  by true is rest there = ap (λ n. Some (f n)) (sym ((bytes_eq-Decides one name).0 is))
  by false is rest there = rest there

or_true : (b : Bool) → (b || true) ≡ true
or_true true = refl
or_true false = refl

-- the list of an entry is there
named_there : (front back : List Statement) (e : NumberedEntry) → list_any (bytes_eq e.list) (names_of (front ++ statement.SectionEntry e ∷ back)) ≡ true
named_there front back e =
    any_once e.list (filter_map list_in (front ++ statement.SectionEntry e ∷ back))
    ∙ ap (λ names. list_any (bytes_eq e.list) names) (filter_map-append list_in front (statement.SectionEntry e ∷ back))
    ∙ list_any-append (bytes_eq e.list) (filter_map list_in front) (e.list ∷ filter_map list_in back)
    ∙ ap (λ b. list_any (bytes_eq e.list) (filter_map list_in front) || (b || list_any (bytes_eq e.list) (filter_map list_in back))) (nat_list_eq_equiv.refl e.list)
    ∙ or_true (list_any (bytes_eq e.list) (filter_map list_in front))

pub plain_found : (test : List ℕ → Bool) (lists : List (List ℕ × List (ℕ × Entry))) (entries : List (ℕ × Entry)) → lookup test lists ≡ Some entries → lookup test (plain_lists lists) ≡ Some (map (λ entry. entry.1) entries)
plain_found test [] entries found = absurd (cc)
plain_found test (list ∷ lists) entries found = by (test list.0) (plain_found test lists entries) found where
  by : (b : Bool) → (lookup test lists ≡ Some entries → lookup test (plain_lists lists) ≡ Some (map (λ entry. entry.1) entries)) → cond b (Some list.1) (lookup test lists) ≡ Some entries → cond b (Some (map (λ entry. entry.1) list.1)) (lookup test (plain_lists lists)) ≡ Some (map (λ entry. entry.1) entries)
  by true rest is = let same : list.1 ≡ entries = cc in ap (λ l. Some (map (λ entry. entry.1) l)) same
  by false rest is = rest is

-- ---- the whole

pub entry_among : (text : List ℕ) (statements front back : List Statement) (e : NumberedEntry) → text_says (λ before. line_says (declared_by_config before)) text ≡ Ok statements → statements ≡ front ++ statement.SectionEntry e ∷ back
    → (lookup (bytes_eq e.list) (plain_lists (lists_of statements)) ≡ Some (map (λ entry. entry.1) (entries_of statements e.list))) × IsAmong e.entry (map (λ entry. entry.1) (entries_of statements e.list))
entry_among text statements front back e says split = (
  plain_found (bytes_eq e.list) (lists_of statements) (entries_of statements e.list)
      (found_listed (entries_of statements) (names_of statements) e.list (ap (λ s. list_any (bytes_eq e.list) (names_of s)) split ∙ named_there front back e)),
  found_among (entries_of statements e.list) e.number e.entry (entry_of_number statements e.list e.number ∙ ap (λ d. last_with (nat_eq e.number) d) around ∙ last_is (declared_in front e.list) (declared_in back e.list) e.number e.entry apart),
)
  where
    around : declared_in statements e.list ≡ declared_in front e.list ++ (e.number, e.entry) ∷ declared_in back e.list
    around = ap (λ s. declared_in s e.list) split ∙ declared_around front back e

    apart : IsDistinct nat_eq (keys_of (declared_in front e.list ++ (e.number, e.entry) ∷ declared_in back e.list))
    apart = subst (λ d. IsDistinct nat_eq (keys_of d)) around (numbers_apart text statements says e.list)

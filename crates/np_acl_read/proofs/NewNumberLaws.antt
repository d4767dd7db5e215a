-- No two entries of a list in a text have the same number.
use Rattle.std.proofs.Common.{◌≡◌, ℕ, ◌+◌, ◌<◌, ◌≤◌, Bool, true, false, nat_eq, nat_le, max, List, [], ◌∷◌, ◌++◌, map, unwrap_or, Option, Some, None, refl, sym, ap, ◌∙◌, arith}
use Rattle.std.specs.Prelude.{◌||◌, ◌==◌, Ok, Err, fold, is_some, if◌then◌else◌, codes}
use Rattle.std.specs.Fmt.{decimal}
use Rattle.std.specs.List.{IsDistinct, filter_map, list_any}
use Rattle.std.specs.Map.{keys_of, lookup}
use Rattle.std.specs.Option.{option_map_or, option_or}
use Rattle.std.specs.Str.{bytes_eq}
use Rattle.std.proofs.lemmas.Bool.Decides.{nat_tests}
use Rattle.std.proofs.lemmas.Cmp.{nat_eq_equiv}
use Rattle.std.proofs.lemmas.Map.Keys.{IsDistinct-push}
use Rattle.std.proofs.lemmas.Map.Made.{is_some-lookup}
use Rattle.std.proofs.lemmas.Slice.Eq.{bytes_eq-Decides}
use Rattle.np_text.specs.Lines.{lines_of}
use Rattle.np_text.specs.Numbers.{is_numeral, number_of}
use Rattle.np_text.specs.Words.{words_of}
use Rattle.np_lines.specs.Judging.{Judged}
use Rattle.np_lines.specs.Reading.{and_one, at_line, statements_from, text_says}
use Rattle.np_lines.specs.Skipping.{begins_with, words_say}
use Rattle.np_lines.proofs.HoldingLaws.{Holds, holds, faulty, after, free, either_way, at_line_holds, ended_holds, within_holds}
use Rattle.np_entry_read.specs.Entries.{entry_of}
use Rattle.np_entry_read.specs.declared.fault.ConfigWhy.{ConfigWhy}
use Rattle.np_entry_read.specs.declared.fault.ConfigWhy.TheVariants as why
use Rattle.np_acl.specs.declared.entries.Entry.{Entry}
use Rattle.np_acl.specs.declared.kinds.ListKind.{ListKind}
use Rattle.np_acl.specs.declared.kinds.ListKind.TheVariants.{Extended, Standard}
use Rattle.np_acl_read.specs.declared.declared.Declared.{Declared}
use Rattle.np_acl_read.specs.declared.declared.Section.{Section}
use Rattle.np_acl_read.specs.declared.declared.Section.TheVariants as sections
use Rattle.np_acl_read.specs.declared.statement.NumberedEntry.{NumberedEntry}
use Rattle.np_acl_read.specs.declared.statement.Statement.{Statement}
use Rattle.np_acl_read.specs.declared.statement.Statement.TheVariants as statement
use Rattle.np_acl_read.specs.Adding.{entry_limit}
use Rattle.np_acl_read.specs.Counting.{last_with}
use Rattle.np_acl_read.specs.Declaring.{declared_by_config, declared_in, entries_of, entry_in, entry_of_list, lists_of, names_of}
use Rattle.np_acl_read.specs.Judging.{access_list, acted, begins_list_line, entry_or_remark, group_at, group_line, interface_line, ip_line, is_negated, keyword_says, line_of_list, line_says, line_with, list_entry, list_line, list_number, list_statement, next_number, no_line, number_limit, numbered, numbers_in, open_list, other_line, said_or_other, section_entry, section_line, section_statement, sequence_number, unnumbered, unused}
use Rattle.np_acl_read.specs.Words.{action_of, way_of}
use Rattle.np_acl_read.proofs.CountingLaws.{entry_of_number}
use Rattle.np_acl_read.proofs.DeclarationLaws.{found_at, no_entries, none_more, one_more}

-- ---- new numbers

-- a number is none of these
abbrev IsNewOf : List ℕ → ℕ → Type 0
IsNewOf numbers n = list_any (nat_eq n) numbers ≡ false

-- a number of a word is new
unused_new : (numbers : List ℕ) (o : Option ℕ) → Holds (IsNewOf numbers) (unused numbers o)
unused_new numbers None = faulty _ _
unused_new numbers (Some n) = by (n == 0) (list_any (nat_eq n) numbers) refl where
  by : (zero used : Bool) → list_any (nat_eq n) numbers ≡ used → Holds (IsNewOf numbers) (if zero then Err why.BadNumber else (if used then Err why.DuplicateSequence else Ok n))
  by true used is = faulty _ _
  by false true is = faulty _ _
  by false false is = holds _ n is

low_of_fold : (acc : ℕ) (xs : List ℕ) → acc ≤ fold max acc xs
low_of_fold acc [] = omega arith
low_of_fold acc (x ∷ xs) = let h = low_of_fold (max acc x) xs in omega arith

-- so is one above all
above_all : (n acc : ℕ) (xs : List ℕ) → fold max acc xs < n → list_any (nat_eq n) xs ≡ false
above_all n acc [] above = refl
above_all n acc (x ∷ xs) above =
    let low = low_of_fold (max acc x) xs in
    let less : x < n = omega arith in
    rw (apart n x less, above_all n (max acc x) xs above) refl
  where
    apart : (n x : ℕ) → x < n → nat_eq n x ≡ false
    apart n x less = grind (arith, nat_tests)

next_new : (numbers : List ℕ) → Holds (IsNewOf numbers) (next_number numbers)
next_new numbers =
    either_way (IsNewOf numbers) (nat_le (fold max 0 numbers + 10) number_limit) _ _ (holds _ _ (above_all (fold max 0 numbers + 10) 0 numbers (omega arith))) (faulty _ _)

-- an entry's number is new in its list
abbrev IsNewEntry : Declared → NumberedEntry → Type 0
IsNewEntry declared entry = IsNewOf (numbers_in declared.lists entry.list) entry.number

-- so it is of a statement that has one
abbrev IsNewIn : Declared → Statement → Type 0
IsNewIn declared (statement.Interface name) = Unit {0}
IsNewIn declared (statement.Section list kind) = Unit {0}
IsNewIn declared (statement.Remark list) = Unit {0}
IsNewIn declared (statement.ListEntry entry) = IsNewEntry declared entry
IsNewIn declared (statement.SectionEntry entry) = IsNewEntry declared entry
IsNewIn declared (statement.Group interface way list) = Unit {0}
IsNewIn declared statement.Other = Unit {0}

-- and where there is an entry
abbrev IfNewEntry : Declared → Option NumberedEntry → Type 0
IfNewEntry declared None = Unit {0}
IfNewEntry declared (Some entry) = IsNewEntry declared entry

-- and where there is a statement
abbrev IfNewIn : Declared → Option Statement → Type 0
IfNewIn declared None = Unit {0}
IfNewIn declared (Some s) = IsNewIn declared s

-- ---- what lines say has new numbers

numbered_new : (declared : Declared) (list : List ℕ) (kind : ListKind) (word : List ℕ) (permit : Bool) (words : List (List ℕ)) → Holds (IsNewEntry declared) (numbered declared list kind word permit words)
numbered_new declared list kind word permit words =
    after (IsNewOf (numbers_in declared.lists list)) (IsNewEntry declared) (sequence_number (numbers_in declared.lists list) word) _ (unused_new (numbers_in declared.lists list) (number_of word number_limit))
    (λ number new. after (λ e. Unit {0}) (IsNewEntry declared) (entry_of kind permit words) _ (free (entry_of kind permit words))
    (λ entry t. within_holds (IsNewEntry declared) _ entry_limit declared.entries (record { list = list; number = number; entry = entry }) new))

unnumbered_new : (declared : Declared) (list : List ℕ) (kind : ListKind) (permit : Bool) (words : List (List ℕ)) → Holds (IsNewEntry declared) (unnumbered declared list kind permit words)
unnumbered_new declared list kind permit words =
    after (λ e. Unit {0}) (IsNewEntry declared) (entry_of kind permit words) _ (free (entry_of kind permit words))
    (λ entry t. after (IsNewOf (numbers_in declared.lists list)) (IsNewEntry declared) (next_number (numbers_in declared.lists list)) _ (next_new (numbers_in declared.lists list))
    (λ number new. within_holds (IsNewEntry declared) _ entry_limit declared.entries (record { list = list; number = number; entry = entry }) new))

list_entry_new : (declared : Declared) (list : List ℕ) (kind : ListKind) (number : Option (List ℕ)) (permit : Bool) (words : List (List ℕ)) → Holds (IsNewEntry declared) (list_entry declared list kind number permit words)
list_entry_new declared list kind None permit words = unnumbered_new declared list kind permit words
list_entry_new declared list kind (Some word) permit words = numbered_new declared list kind word permit words

acted_new : (declared : Declared) (list : List ℕ) (kind : ListKind) (number : Option (List ℕ)) (word : List ℕ) (action : Option Bool) (words : List (List ℕ)) → Holds (IfNewEntry declared) (acted declared list kind number word action words)
acted_new declared list kind number word None words = faulty _ _
acted_new declared list kind number word (Some permit) words =
    after (IsNewEntry declared) (IfNewEntry declared) (list_entry declared list kind number permit words) _ (list_entry_new declared list kind number permit words) (λ entry new. holds _ (Some entry) new)

entry_or_remark_new : (declared : Declared) (list : List ℕ) (kind : ListKind) (number : Option (List ℕ)) (words : List (List ℕ)) → Holds (IfNewEntry declared) (entry_or_remark declared list kind number words)
unfolding entry_or_remark
entry_or_remark_new declared list kind number [] = faulty _ _
entry_or_remark_new declared list kind number (word ∷ words) =
    either_way (IfNewEntry declared) (bytes_eq word (codes "remark")) _ _ (holds _ None tt) (acted_new declared list kind number word (action_of word) words)

line_of_list_new : (declared : Declared) (list : Option (ℕ × ListKind)) (words : List (List ℕ)) → Holds (IsNewIn declared) (line_of_list declared list words)
line_of_list_new declared None words = holds _ statement.Other tt
line_of_list_new declared (Some list) words =
    after (IfNewEntry declared) (IsNewIn declared) (entry_or_remark declared (decimal list.0) list.1 None words) _ (entry_or_remark_new declared (decimal list.0) list.1 None words)
    (λ entry new. holds _ (list_statement (decimal list.0) entry) (by entry new))
  where
    by : (entry : Option NumberedEntry) → IfNewEntry declared entry → IsNewIn declared (list_statement (decimal list.0) entry)
    by None new = tt
    by (Some entry) new = new

list_line_new : (declared : Declared) (words : List (List ℕ)) → Holds (IsNewIn declared) (list_line declared words)
unfolding list_line
list_line_new declared [] = holds _ statement.Other tt
list_line_new declared (word ∷ words) = line_of_list_new declared (list_number word) words

interface_line_new : (declared : Declared) (words : List (List ℕ)) → Holds (IsNewIn declared) (interface_line words)
interface_line_new declared [] = faulty _ _
interface_line_new declared (name ∷ words) = holds _ (statement.Interface name) tt

open_list_new : (declared : Declared) (kind : ListKind) (words : List (List ℕ)) → Holds (IsNewIn declared) (open_list kind words)
unfolding open_list
open_list_new declared kind [] = faulty _ _
open_list_new declared kind (name ∷ []) = holds _ (statement.Section name kind) tt
open_list_new declared kind (name ∷ more ∷ words) = faulty _ _

access_list_new : (declared : Declared) (words : List (List ℕ)) → Holds (IsNewIn declared) (access_list words)
unfolding access_list
access_list_new declared [] = holds _ statement.Other tt
access_list_new declared (word ∷ words) =
    either_way (IsNewIn declared) (bytes_eq word (codes "extended")) _ _ (open_list_new declared Extended words)
    (either_way (IsNewIn declared) (bytes_eq word (codes "standard")) _ _ (open_list_new declared Standard words) (holds _ statement.Other tt))

group_at_new : (declared : Declared) (interface : List ℕ) (words : List (List ℕ)) → Holds (IsNewIn declared) (group_at interface words)
unfolding group_at
group_at_new declared interface [] = faulty _ _
group_at_new declared interface (list ∷ []) = faulty _ _
group_at_new declared interface (list ∷ word ∷ words) =
    after (λ w. Unit {0}) (IsNewIn declared) (way_of word) _ (free (way_of word)) (λ way t. ended_holds (IsNewIn declared) _ words (statement.Group interface way list) tt)

group_line_new : (declared : Declared) (section : Section) (words : List (List ℕ)) → Holds (IsNewIn declared) (group_line section words)
group_line_new declared sections.Closed words = faulty _ _
group_line_new declared (sections.Interface name) words = group_at_new declared name words
group_line_new declared (sections.List name kind) words = faulty _ _

ip_line_new : (declared : Declared) (words : List (List ℕ)) → Holds (IsNewIn declared) (ip_line declared words)
unfolding ip_line
ip_line_new declared [] = holds _ statement.Other tt
ip_line_new declared (word ∷ words) =
    either_way (IsNewIn declared) (bytes_eq word (codes "access-list")) _ _ (access_list_new declared words)
    (either_way (IsNewIn declared) (bytes_eq word (codes "access-group")) _ _ (group_line_new declared declared.section words) (holds _ statement.Other tt))

no_line_new : (declared : Declared) (words : List (List ℕ)) → Holds (IsNewIn declared) (no_line declared words)
no_line_new declared words = either_way (IsNewIn declared) (is_negated declared.section words) _ _ (faulty _ _) (holds _ statement.Other tt)

-- a keyword's line, where there is one
abbrev IfHolds : Declared → Option (Judged ConfigWhy Statement) → Type 0
IfHolds declared None = Unit {0}
IfHolds declared (Some judged) = Holds (IsNewIn declared) judged

keyword_new : (declared : Declared) (word : List ℕ) (words : List (List ℕ)) → IfHolds declared (keyword_says declared word words)
keyword_new declared word words = by (bytes_eq word (codes "interface")) (bytes_eq word (codes "access-list")) (bytes_eq word (codes "ip")) (bytes_eq word (codes "no")) where
  by : (interface list ip negated : Bool) → IfHolds declared (if interface then Some (interface_line words) else (if list then Some (list_line declared words) else (if ip then Some (ip_line declared words) else (if negated then Some (no_line declared words) else None))))
  by true list ip negated = interface_line_new declared words
  by false true ip negated = list_line_new declared words
  by false false true negated = ip_line_new declared words
  by false false false true = no_line_new declared words
  by false false false false = tt

section_entry_new : (declared : Declared) (list : List ℕ) (kind : ListKind) (words : List (List ℕ)) → Holds (IfNewEntry declared) (section_entry declared list kind words)
unfolding section_entry
section_entry_new declared list kind [] = entry_or_remark_new declared list kind None []
section_entry_new declared list kind (word ∷ words) =
    either_way (IfNewEntry declared) (is_numeral word) _ _ (entry_or_remark_new declared list kind (Some word) words) (entry_or_remark_new declared list kind None (word ∷ words))

section_line_new : (declared : Declared) (list : List ℕ) (kind : ListKind) (words : List (List ℕ)) → Holds (IfNewIn declared) (section_line declared list kind words)
section_line_new declared list kind words =
    after (IfNewEntry declared) (IfNewIn declared) (section_entry declared list kind words) _ (section_entry_new declared list kind words) (λ entry new. holds _ (section_statement entry) (by entry new))
  where
    by : (entry : Option NumberedEntry) → IfNewEntry declared entry → IfNewIn declared (section_statement entry)
    by None new = tt
    by (Some entry) new = new

other_line_new : (declared : Declared) (section : Section) (word : List ℕ) (words : List (List ℕ)) → Holds (IfNewIn declared) (other_line declared section word words)
other_line_new declared sections.Closed word words = holds _ (Some statement.Other) tt
other_line_new declared (sections.Interface name) word words = holds _ (Some statement.Other) tt
other_line_new declared (sections.List name kind) word words =
    either_way (IfNewIn declared) (begins_list_line word) _ _ (section_line_new declared name kind words) (holds _ (Some statement.Other) tt)

said_or_other_new : (declared : Declared) (o : Option (Judged ConfigWhy Statement)) (word : List ℕ) (words : List (List ℕ)) → IfHolds declared o → Holds (IfNewIn declared) (said_or_other declared o word words)
said_or_other_new declared None word words new = other_line_new declared declared.section word words
said_or_other_new declared (Some judged) word words new = after (IsNewIn declared) (IfNewIn declared) judged _ new (λ s new. holds _ (Some s) new)

line_with_new : (declared : Declared) (word : List ℕ) (words : List (List ℕ)) → Holds (IfNewIn declared) (line_with declared word words)
line_with_new declared word words = said_or_other_new declared (keyword_says declared word words) word (word ∷ words) (keyword_new declared word words)

words_new : (declared : Declared) (words : List (List ℕ)) → Holds (IfNewIn declared) (words_say 33 (line_with declared) words)
words_new declared [] = holds _ None tt
words_new declared (word ∷ words) = either_way (IfNewIn declared) (begins_with 33 word) _ _ (holds _ None tt) (line_with_new declared word words)

-- the number of an entry that a line says is new in its list
line_new : (declared : Declared) (line : List ℕ) → Holds (IfNewIn declared) (line_says declared line)
unfolding line_says
line_new declared line = words_new declared (words_of line)

-- ---- the numbers of a list

-- the numbers of a list are those that are declared
some_or : {V : Type 0} (o p : Option V) → is_some (option_or o p) ≡ (is_some p || is_some o)
some_or None None = refl
some_or None (Some y) = refl
some_or (Some x) None = refl
some_or (Some x) (Some y) = refl

some_last : {K V : Type 0} (test : K → Bool) (pairs : List (K × V)) → is_some (last_with test pairs) ≡ list_any test (keys_of pairs)
some_last test [] = refl
some_last test (pair ∷ pairs) =
    some_or (last_with test pairs) (if test pair.0 then Some pair.1 else None) ∙ (λ i. found (test pair.0) i || some_last test pairs i)
  where
    found : (b : Bool) → is_some (if b then Some pair.1 else None) ≡ b
    found true = refl
    found false = refl

numbers_of_entries : (o : Option (List (ℕ × Entry))) → option_map_or (λ entries. map (λ entry. entry.0) entries) o [] ≡ keys_of (unwrap_or o [])
numbers_of_entries None = refl
numbers_of_entries (Some entries) = refl

-- a number that is none of a list's is none of those declared
undeclared : (before : List Statement) (name : List ℕ) (n : ℕ) → IsNewOf (numbers_in (lists_of before) name) n → list_any (nat_eq n) (keys_of (declared_in before name)) ≡ false
undeclared before name n new =
    let all : numbers_in (lists_of before) name ≡ keys_of (entries_of before name) = numbers_of_entries (lookup (bytes_eq name) (lists_of before)) ∙ ap (λ entries. keys_of entries) (found_at (entries_of before) (names_of before) name (no_entries name before)) in
    sym (some_last (nat_eq n) (declared_in before name))
    ∙ ap (λ o. is_some o) (sym (entry_of_number before name n))
    ∙ is_some-lookup (nat_eq n) (entries_of before name)
    ∙ ap (λ numbers. list_any (nat_eq n) numbers) (sym all)
    ∙ new

-- the numbers of a list, as statements declare them, are distinct
abbrev pub AreApart : List Statement → Type 0
AreApart statements = (name : List ℕ) → IsDistinct nat_eq (keys_of (declared_in statements name))

keys_more : (pairs : List (ℕ × Entry)) (one : ℕ × Entry) → keys_of (pairs ++ one ∷ []) ≡ keys_of pairs ++ one.0 ∷ []
keys_more [] one = refl
keys_more (pair ∷ pairs) one = ap (λ keys. pair.0 ∷ keys) (keys_more pairs one)

-- a statement without an entry leaves the numbers
apart_kept : (before : List Statement) (s : Statement) → entry_in s ≡ None → AreApart before → AreApart (before ++ s ∷ [])
apart_kept before s none apart name = rw (none_more entry_in before s none) (apart name)

-- one with an entry of a new number keeps them distinct
apart_more : (before : List Statement) (s : Statement) (entry : NumberedEntry) → entry_in s ≡ Some entry → IsNewEntry (declared_by_config before) entry → AreApart before → AreApart (before ++ s ∷ [])
unfolding declared_by_config
apart_more before s entry is new apart name = rw (one_more entry_in before s entry is) (by (bytes_eq name entry.list) refl) where
  by : (b : Bool) → bytes_eq name entry.list ≡ b → IsDistinct nat_eq (keys_of (filter_map (entry_of_list name) (filter_map entry_in before ++ entry ∷ [])))
  by false away = rw (none_more (entry_of_list name) (filter_map entry_in before) entry (rw away refl)) (apart name)
  by true there =
      let same : name ≡ entry.list = (bytes_eq-Decides name entry.list).0 there in
      let fresh : list_any (nat_eq entry.number) (keys_of (declared_in before name)) ≡ false = undeclared before name entry.number (rw same new) in
      rw (
        one_more (entry_of_list name) (filter_map entry_in before) entry (entry.number, entry.entry) (rw there refl),
        keys_more (declared_in before name) (entry.number, entry.entry),
      ) (IsDistinct-push nat_eq_equiv (keys_of (declared_in before name)) entry.number (apart name) fresh)

apart_step : (before : List Statement) (s : Statement) → IsNewIn (declared_by_config before) s → AreApart before → AreApart (before ++ s ∷ [])
apart_step before (statement.Interface name) new apart = apart_kept before (statement.Interface name) refl apart
apart_step before (statement.Section list kind) new apart = apart_kept before (statement.Section list kind) refl apart
apart_step before (statement.Remark list) new apart = apart_kept before (statement.Remark list) refl apart
apart_step before (statement.ListEntry entry) new apart = apart_more before (statement.ListEntry entry) entry refl new apart
apart_step before (statement.SectionEntry entry) new apart = apart_more before (statement.SectionEntry entry) entry refl new apart
apart_step before (statement.Group interface way list) new apart = apart_kept before (statement.Group interface way list) refl apart
apart_step before statement.Other new apart = apart_kept before statement.Other refl apart

-- ---- texts

-- a line whose numbers are new keeps them distinct
line_apart : (before : List Statement) (said : Option Statement) → IfNewIn (declared_by_config before) said → AreApart before → AreApart (and_one before said)
line_apart before None new apart = apart
line_apart before (Some s) new apart = apart_step before s new apart

apart_from : (before : List Statement) (number : ℕ) (lines : List (List ℕ)) → AreApart before → Holds AreApart (statements_from (λ earlier. line_says (declared_by_config earlier)) before number lines)
apart_from before number [] apart = holds _ before apart
apart_from before number (line ∷ lines) apart =
    after (IfNewIn (declared_by_config before)) AreApart (at_line number (line_says (declared_by_config before) line)) _
    (at_line_holds _ number _ (line_new (declared_by_config before) line))
    (λ said new. apart_from (and_one before said) (number + 1) lines (line_apart before said new apart))

none_apart : AreApart []
unfolding IsDistinct
none_apart name = tt

-- the statements of a text give a list no number twice
pub numbers_apart : (text : List ℕ) (statements : List Statement) → text_says (λ before. line_says (declared_by_config before)) text ≡ Ok statements → (name : List ℕ) → IsDistinct nat_eq (keys_of (declared_in statements name))
numbers_apart text statements says = (apart_from [] 1 (lines_of text) none_apart).of statements says

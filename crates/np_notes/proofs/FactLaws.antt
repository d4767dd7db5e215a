-- What is known of a line by what it says.
use Rattle.std.proofs.Common.{◌≡◌, ◌⊎◌, inl, inr, length, arith, ℕ, Bool, true, false, List, [], ◌∷◌, Option, Some, None, refl, sym, ap, ◌∙◌}
use Rattle.std.specs.Prelude.{nat_lt, ◌&&◌, ◌||◌, ◌==◌, Ok, is_some, if◌then◌else◌, codes}
use Rattle.std.specs.Char.{is_ascii_digit}
use Rattle.std.specs.Fmt.{decimal}
use Rattle.std.specs.Str.{all_ascii_digits, bytes_eq}
use Rattle.std.proofs.lemmas.Bool.Decides.{nat_tests}
use Rattle.std.proofs.lemmas.Slice.Eq.{bytes_eq-Decides}
use Rattle.np_text.specs.Numbers.{is_numeral}
use Rattle.np_text.specs.Words.{words_of}
use Rattle.np_lines.specs.Judging.{Judged}
use Rattle.np_lines.specs.Skipping.{begins_with, is_skipped, words_say}
use Rattle.np_lines.proofs.HoldingLaws.{Holds, holds, faulty, after, free, itself, either_way, ended_holds, within_holds}
use Rattle.np_acl.specs.declared.kinds.ListKind.{ListKind}
use Rattle.np_acl.specs.declared.kinds.ListKind.TheVariants.{Extended, Standard}
use Rattle.np_entry_read.specs.declared.fault.ConfigWhy.{ConfigWhy}
use Rattle.np_entry_read.specs.Entries.{entry_of}
use Rattle.np_acl_read.specs.declared.declared.Declared.{Declared}
use Rattle.np_acl_read.specs.declared.declared.Section.{Section}
use Rattle.np_acl_read.specs.declared.declared.Section.TheVariants as sections
use Rattle.np_acl_read.specs.declared.statement.NumberedEntry.{NumberedEntry}
use Rattle.np_acl_read.specs.declared.statement.Statement.{Statement}
use Rattle.np_acl_read.specs.declared.statement.Statement.TheVariants as statement
use Rattle.np_acl_read.specs.Adding.{entry_limit}
use Rattle.np_acl_read.specs.Judging.{access_list, acted, begins_list_line, entry_or_remark, group_at, group_line, in_list, interface_line, ip_line, is_negated, keyword_says, line_of_list, line_says, line_with, list_entry, list_line, list_number, list_statement, next_number, no_line, numbers_in, open_list, other_line, said_or_other, section_entry, section_line, section_statement, sequence_number}
use Rattle.np_acl_read.specs.Words.{action_of, action_word, way_of}
use Rattle.np_notes.specs.Clean.{SaysEntry}
use Rattle.np_notes.specs.Shape.{begins_entry, looks_like_entry, word_at}

-- ---- the words of an entry

-- an entry of this list that these words say after the action
abbrev IsSaidBy : List ℕ → ListKind → Bool → List (List ℕ) → NumberedEntry → Type 0
IsSaidBy list kind permit words entry = (entry.list ≡ list) × (entry_of kind permit words ≡ Ok entry.entry)

list_entry_is : (declared : Declared) (list : List ℕ) (kind : ListKind) (number : Option (List ℕ)) (permit : Bool) (words : List (List ℕ)) → Holds (IsSaidBy list kind permit words) (list_entry declared list kind number permit words)
list_entry_is declared list kind None permit words =
    after (λ e. entry_of kind permit words ≡ Ok e) (IsSaidBy list kind permit words) (entry_of kind permit words) _ (itself (entry_of kind permit words))
    (λ entry is. after (λ n. Unit {0}) (IsSaidBy list kind permit words) (next_number (numbers_in declared.lists list)) _ (free (next_number (numbers_in declared.lists list)))
    (λ number t. within_holds (IsSaidBy list kind permit words) _ entry_limit declared.entries (record { list = list; number = number; entry = entry }) (refl, is)))
list_entry_is declared list kind (Some word) permit words =
    after (λ n. Unit {0}) (IsSaidBy list kind permit words) (sequence_number (numbers_in declared.lists list) word) _ (free (sequence_number (numbers_in declared.lists list) word))
    (λ number t. after (λ e. entry_of kind permit words ≡ Ok e) (IsSaidBy list kind permit words) (entry_of kind permit words) _ (itself (entry_of kind permit words))
    (λ entry is. within_holds (IsSaidBy list kind permit words) _ entry_limit declared.entries (record { list = list; number = number; entry = entry }) (refl, is)))

-- these words are an action, and words that say the rest of the entry; or the first is `remark`
abbrev IsActed : List ℕ → ListKind → List (List ℕ) → Option NumberedEntry → Type 0
IsActed list kind words None = word_at words 0 ≡ codes "remark"
IsActed list kind words (Some entry) = (permit : Bool) × (rest : List (List ℕ)) × (words ≡ action_word permit ∷ rest) × IsSaidBy list kind permit rest entry

acted_is : (declared : Declared) (list : List ℕ) (kind : ListKind) (number : Option (List ℕ)) (word : List ℕ) (words : List (List ℕ)) (action : Option Bool) → action_of word ≡ action → Holds (IsActed list kind (word ∷ words)) (acted declared list kind number word action words)
acted_is declared list kind number word words None is = faulty _ _
acted_is declared list kind number word words (Some permit) is =
    after (IsSaidBy list kind permit words) (IsActed list kind (word ∷ words)) (list_entry declared list kind number permit words) _ (list_entry_is declared list kind number permit words)
    (λ entry said. holds _ (Some entry) (permit, words, ap (λ w. w ∷ words) (by (bytes_eq word (codes "permit")) (bytes_eq word (codes "deny")) permit refl refl is), said))
  where
    by : (first second permit : Bool) → bytes_eq word (codes "permit") ≡ first → bytes_eq word (codes "deny") ≡ second → (if first then Some true else (if second then Some false else None)) ≡ Some permit → word ≡ action_word permit
    by true second true first_is second_is is = (bytes_eq-Decides word (codes "permit")).0 first_is
    by true second false first_is second_is is = absurd (cc)
    by false true true first_is second_is is = absurd (cc)
    by false true false first_is second_is is = (bytes_eq-Decides word (codes "deny")).0 second_is
    by false false permit first_is second_is is = absurd (cc)

entry_or_remark_is : (declared : Declared) (list : List ℕ) (kind : ListKind) (number : Option (List ℕ)) (words : List (List ℕ)) → Holds (IsActed list kind words) (entry_or_remark declared list kind number words)
unfolding entry_or_remark
entry_or_remark_is declared list kind number [] = faulty _ _
entry_or_remark_is declared list kind number (word ∷ words) = by (bytes_eq word (codes "remark")) refl where
  by : (b : Bool) → bytes_eq word (codes "remark") ≡ b → Holds (IsActed list kind (word ∷ words)) (if b then Ok None else acted declared list kind number word (action_of word) words)
  by true is = holds _ None ((bytes_eq-Decides word (codes "remark")).0 is)
  by false is = acted_is declared list kind number word words (action_of word) refl

-- these words are a remark, with a number before it or without one
abbrev IsRemark : List (List ℕ) → Type 0
IsRemark words = (word_at words 0 ≡ codes "remark") ⊎ ((is_numeral (word_at words 0) ≡ true) × (word_at words 1 ≡ codes "remark"))

-- what the words of a line of a list say
abbrev IsListLine : List ℕ → ListKind → List (List ℕ) → Option NumberedEntry → Type 0
IsListLine list kind words None = IsRemark words
IsListLine list kind words (Some entry) = (entry.list ≡ list) × SaysEntry kind words entry.entry

numbered_is : (list : List ℕ) (kind : ListKind) (number : List ℕ) (words : List (List ℕ)) (entry : Option NumberedEntry) → is_numeral number ≡ true → IsActed list kind words entry → IsListLine list kind (number ∷ words) entry
numbered_is list kind number words None numeral is = inr (numeral, second words is) where
  second : (words : List (List ℕ)) → word_at words 0 ≡ codes "remark" → word_at (number ∷ words) 1 ≡ codes "remark"
  second [] is = is
  second (word ∷ words) is = is
numbered_is list kind number words (Some entry) numeral is =
    (is.3.0, record { permit = is.0; rest = is.1; split = inr (number, numeral, ap (λ w. number ∷ w) is.2); means = is.3.1 })

unnumbered_is : (list : List ℕ) (kind : ListKind) (words : List (List ℕ)) (entry : Option NumberedEntry) → IsActed list kind words entry → IsListLine list kind words entry
unnumbered_is list kind words None is = inl is
unnumbered_is list kind words (Some entry) is = (is.3.0, record { permit = is.0; rest = is.1; split = inl is.2; means = is.3.1 })

section_entry_is : (declared : Declared) (list : List ℕ) (kind : ListKind) (words : List (List ℕ)) → Holds (IsListLine list kind words) (section_entry declared list kind words)
unfolding section_entry
section_entry_is declared list kind [] = weaker (entry_or_remark declared list kind None []) (entry_or_remark_is declared list kind None []) where
  weaker : (j : Judged ConfigWhy (Option NumberedEntry)) → Holds (IsActed list kind []) j → Holds (IsListLine list kind []) j
  weaker j is = record { of = λ entry at. unnumbered_is list kind [] entry (is.of entry at) }
section_entry_is declared list kind (word ∷ words) = by (is_numeral word) refl where
  number : (j : Judged ConfigWhy (Option NumberedEntry)) → is_numeral word ≡ true → Holds (IsActed list kind words) j → Holds (IsListLine list kind (word ∷ words)) j
  number j numeral is = record { of = λ entry at. numbered_is list kind word words entry numeral (is.of entry at) }

  none : (j : Judged ConfigWhy (Option NumberedEntry)) → Holds (IsActed list kind (word ∷ words)) j → Holds (IsListLine list kind (word ∷ words)) j
  none j is = record { of = λ entry at. unnumbered_is list kind (word ∷ words) entry (is.of entry at) }

  by : (b : Bool) → is_numeral word ≡ b → Holds (IsListLine list kind (word ∷ words)) (if b then entry_or_remark declared list kind (Some word) words else entry_or_remark declared list kind None (word ∷ words))
  by true numeral = number (entry_or_remark declared list kind (Some word) words) numeral (entry_or_remark_is declared list kind (Some word) words)
  by false numeral = none (entry_or_remark declared list kind None (word ∷ words)) (entry_or_remark_is declared list kind None (word ∷ words))

-- ---- what a line says

-- what is known of what a line of these words says in this section
abbrev pub IsSaidIn : Section → List (List ℕ) → Option Statement → Type 0
IsSaidIn section words None = (is_skipped 33 words ≡ true) ⊎ ((in_list section ≡ true) × IsRemark words)
IsSaidIn section words (Some (statement.Interface name)) = Unit {0}
IsSaidIn section words (Some (statement.Section list kind)) = Unit {0}
IsSaidIn section words (Some (statement.Remark list)) = Unit {0}
IsSaidIn section words (Some (statement.ListEntry entry)) = Unit {0}
IsSaidIn section words (Some (statement.SectionEntry entry)) = (kind : ListKind) × (section ≡ sections.List entry.list kind) × SaysEntry kind words entry.entry
IsSaidIn section words (Some (statement.Group interface way list)) = section ≡ sections.Interface interface
IsSaidIn section words (Some statement.Other) = Unit {0}

-- a statement that needs the section of its interface, where it applies a list, and no list's
abbrev IsKeywordIn : Section → Statement → Type 0
IsKeywordIn section (statement.Interface name) = Unit {0}
IsKeywordIn section (statement.Section list kind) = Unit {0}
IsKeywordIn section (statement.Remark list) = Unit {0}
IsKeywordIn section (statement.ListEntry entry) = Unit {0}
IsKeywordIn section (statement.SectionEntry entry) = ⊥
IsKeywordIn section (statement.Group interface way list) = section ≡ sections.Interface interface
IsKeywordIn section statement.Other = Unit {0}

keyword_said : (section : Section) (words : List (List ℕ)) (s : Statement) → IsKeywordIn section s → IsSaidIn section words (Some s)
keyword_said section words (statement.Interface name) is = tt
keyword_said section words (statement.Section list kind) is = tt
keyword_said section words (statement.Remark list) is = tt
keyword_said section words (statement.ListEntry entry) is = tt
keyword_said section words (statement.SectionEntry entry) is = absurd is
keyword_said section words (statement.Group interface way list) is = is
keyword_said section words statement.Other is = tt

module _ (section : Section) where
  line_of_list_is : (declared : Declared) (list : Option (ℕ × ListKind)) (words : List (List ℕ)) → Holds (IsKeywordIn section) (line_of_list declared list words)
  line_of_list_is declared None words = holds _ statement.Other tt
  line_of_list_is declared (Some list) words =
      after (λ e. Unit {0}) (IsKeywordIn section) (entry_or_remark declared (decimal list.0) list.1 None words) _ (free (entry_or_remark declared (decimal list.0) list.1 None words))
      (λ entry t. holds _ (list_statement (decimal list.0) entry) (by entry t))
    where
      by : (entry : Option NumberedEntry) → Unit {0} → IsKeywordIn section (list_statement (decimal list.0) entry)
      by None t = tt
      by (Some entry) t = tt

  list_line_is : (declared : Declared) (words : List (List ℕ)) → Holds (IsKeywordIn section) (list_line declared words)
  unfolding list_line
  list_line_is declared [] = holds _ statement.Other tt
  list_line_is declared (word ∷ words) = line_of_list_is declared (list_number word) words

  interface_line_is : (words : List (List ℕ)) → Holds (IsKeywordIn section) (interface_line words)
  interface_line_is [] = faulty _ _
  interface_line_is (name ∷ words) = holds _ (statement.Interface name) tt

  open_list_is : (kind : ListKind) (words : List (List ℕ)) → Holds (IsKeywordIn section) (open_list kind words)
  unfolding open_list
  open_list_is kind [] = faulty _ _
  open_list_is kind (name ∷ []) = holds _ (statement.Section name kind) tt
  open_list_is kind (name ∷ more ∷ words) = faulty _ _

  access_list_is : (words : List (List ℕ)) → Holds (IsKeywordIn section) (access_list words)
  unfolding access_list
  access_list_is [] = holds _ statement.Other tt
  access_list_is (word ∷ words) =
      either_way (IsKeywordIn section) (bytes_eq word (codes "extended")) _ _ (open_list_is Extended words)
      (either_way (IsKeywordIn section) (bytes_eq word (codes "standard")) _ _ (open_list_is Standard words) (holds _ statement.Other tt))

group_at_is : (interface : List ℕ) (words : List (List ℕ)) → Holds (IsKeywordIn (sections.Interface interface)) (group_at interface words)
unfolding group_at
group_at_is interface [] = faulty _ _
group_at_is interface (list ∷ []) = faulty _ _
group_at_is interface (list ∷ word ∷ words) =
    after (λ w. Unit {0}) (IsKeywordIn (sections.Interface interface)) (way_of word) _ (free (way_of word)) (λ way t. ended_holds (IsKeywordIn (sections.Interface interface)) _ words (statement.Group interface way list) refl)

group_line_is : (section : Section) (words : List (List ℕ)) → Holds (IsKeywordIn section) (group_line section words)
group_line_is sections.Closed words = faulty _ _
group_line_is (sections.Interface name) words = group_at_is name words
group_line_is (sections.List name kind) words = faulty _ _

ip_line_is : (declared : Declared) (words : List (List ℕ)) → Holds (IsKeywordIn declared.section) (ip_line declared words)
unfolding ip_line
ip_line_is declared [] = holds _ statement.Other tt
ip_line_is declared (word ∷ words) =
    either_way (IsKeywordIn declared.section) (bytes_eq word (codes "access-list")) _ _ (access_list_is declared.section words)
    (either_way (IsKeywordIn declared.section) (bytes_eq word (codes "access-group")) _ _ (group_line_is declared.section words) (holds _ statement.Other tt))

no_line_is : (declared : Declared) (words : List (List ℕ)) → Holds (IsKeywordIn declared.section) (no_line declared words)
no_line_is declared words = either_way (IsKeywordIn declared.section) (is_negated declared.section words) _ _ (faulty _ _) (holds _ statement.Other tt)

abbrev IfHolds : Section → Option (Judged ConfigWhy Statement) → Type 0
IfHolds section None = Unit {0}
IfHolds section (Some judged) = Holds (IsKeywordIn section) judged

keyword_is : (declared : Declared) (word : List ℕ) (words : List (List ℕ)) → IfHolds declared.section (keyword_says declared word words)
keyword_is declared word words = by (bytes_eq word (codes "interface")) (bytes_eq word (codes "access-list")) (bytes_eq word (codes "ip")) (bytes_eq word (codes "no")) where
  by : (interface list ip negated : Bool) → IfHolds declared.section (if interface then Some (interface_line words) else (if list then Some (list_line declared words) else (if ip then Some (ip_line declared words) else (if negated then Some (no_line declared words) else None))))
  by true list ip negated = interface_line_is declared.section words
  by false true ip negated = list_line_is declared.section declared words
  by false false true negated = ip_line_is declared words
  by false false false true = no_line_is declared words
  by false false false false = tt

section_line_is : (declared : Declared) (list : List ℕ) (kind : ListKind) (words : List (List ℕ)) → Holds (IsSaidIn (sections.List list kind) words) (section_line declared list kind words)
section_line_is declared list kind words =
    after (IsListLine list kind words) (IsSaidIn (sections.List list kind) words) (section_entry declared list kind words) _ (section_entry_is declared list kind words)
    (λ entry is. holds _ (section_statement entry) (by entry is))
  where
    by : (entry : Option NumberedEntry) → IsListLine list kind words entry → IsSaidIn (sections.List list kind) words (section_statement entry)
    by None is = inr (refl, is)
    by (Some entry) is = (kind, ap (λ l. sections.List l kind) (sym is.0), is.1)

other_line_is : (declared : Declared) (section : Section) (word : List ℕ) (words : List (List ℕ)) → Holds (IsSaidIn section words) (other_line declared section word words)
other_line_is declared sections.Closed word words = holds _ (Some statement.Other) tt
other_line_is declared (sections.Interface name) word words = holds _ (Some statement.Other) tt
other_line_is declared (sections.List name kind) word words =
    either_way (IsSaidIn (sections.List name kind) words) (begins_list_line word) _ _ (section_line_is declared name kind words) (holds _ (Some statement.Other) tt)

said_or_other_is : (declared : Declared) (o : Option (Judged ConfigWhy Statement)) (word : List ℕ) (words : List (List ℕ)) → IfHolds declared.section o → Holds (IsSaidIn declared.section words) (said_or_other declared o word words)
said_or_other_is declared None word words is = other_line_is declared declared.section word words
said_or_other_is declared (Some judged) word words is = after (IsKeywordIn declared.section) (IsSaidIn declared.section words) judged _ is (λ s keyword. holds _ (Some s) (keyword_said declared.section words s keyword))

words_are : (declared : Declared) (words : List (List ℕ)) → Holds (IsSaidIn declared.section words) (words_say 33 (line_with declared) words)
words_are declared [] = holds _ None (inl refl)
words_are declared (word ∷ words) = by (begins_with 33 word) refl where
  by : (b : Bool) → begins_with 33 word ≡ b → Holds (IsSaidIn declared.section (word ∷ words)) (if b then Ok None else line_with declared word words)
  by true is = holds _ None (inl is)
  by false is = said_or_other_is declared (keyword_says declared word words) word (word ∷ words) (keyword_is declared word words)

line_is : (declared : Declared) (line : List ℕ) → Holds (IsSaidIn declared.section (words_of line)) (line_says declared line)
unfolding line_says
line_is declared line = words_are declared (words_of line)

-- what is known of what a line says
pub said_in : (declared : Declared) (line : List ℕ) (said : Option Statement) → line_says declared line ≡ Ok said → IsSaidIn declared.section (words_of line) said
said_in declared line said is = (line_is declared line).of said is

-- ---- lines that look like entries

entry_no_number : (word : List ℕ) → begins_entry word ≡ true → is_numeral word ≡ false
entry_no_number word is = by (bytes_eq word (codes "permit")) (bytes_eq word (codes "deny")) (bytes_eq word (codes "dynamic")) (bytes_eq word (codes "evaluate")) refl refl refl refl is where
  same : (text : List ℕ) → is_numeral text ≡ false → bytes_eq word text ≡ true → is_numeral word ≡ false
  same text none equal = ap is_numeral ((bytes_eq-Decides word text).0 equal) ∙ none

  by : (permit deny dynamic evaluate : Bool) → bytes_eq word (codes "permit") ≡ permit → bytes_eq word (codes "deny") ≡ deny → bytes_eq word (codes "dynamic") ≡ dynamic → bytes_eq word (codes "evaluate") ≡ evaluate → (((permit || deny) || dynamic) || evaluate) ≡ true → is_numeral word ≡ false
  by true deny dynamic evaluate p d y e is = same (codes "permit") refl p
  by false true dynamic evaluate p d y e is = same (codes "deny") refl d
  by false false true evaluate p d y e is = same (codes "dynamic") refl y
  by false false false true p d y e is = same (codes "evaluate") refl e
  by false false false false p d y e is = absurd (cc)

-- a word that may be the first of a line that looks like an entry
abbrev MayBegin : List ℕ → Type 0
MayBegin word = (begins_entry word ≡ true) ⊎ (is_numeral word ≡ true)

or_either : (a b : Bool) → (a || b) ≡ true → (a ≡ true) ⊎ (b ≡ true)
or_either true b is = inl refl
or_either false b is = inr is

and_both : (a b : Bool) → (a && b) ≡ true → (a ≡ true) × (b ≡ true)
and_both true b is = (refl, is)
and_both false b is = absurd (cc)

may_begin : (first second : List ℕ) → looks_like_entry first second ≡ true → MayBegin first
may_begin first second is =
    elim (or_either (begins_entry first) (is_numeral first && begins_entry second) is) [ inl entry ↦ inl entry | inr number ↦ inr (and_both (is_numeral first) (begins_entry second) number).0 ]

-- such a word is none of the others
is_none : (word text : List ℕ) → begins_entry text ≡ false → is_numeral text ≡ false → MayBegin word → bytes_eq word text ≡ false
is_none word text no_entry no_number is = by (bytes_eq word text) refl where
  by : (b : Bool) → bytes_eq word text ≡ b → b ≡ false
  by true equal =
      let same : word ≡ text = (bytes_eq-Decides word text).0 equal in
      elim is [ inl entry ↦ absurd (let e : true ≡ false = sym entry ∙ ap begins_entry same ∙ no_entry in cc) | inr number ↦ absurd (let e : true ≡ false = sym number ∙ ap is_numeral same ∙ no_number in cc) ]
  by false equal = refl

no_mark : (word : List ℕ) → MayBegin word → begins_with 33 word ≡ false
no_mark [] is = refl
no_mark (b ∷ bs) is = by (b == 33) refl where
  plain : (text : List ℕ) → begins_with 33 text ≡ false → bytes_eq (b ∷ bs) text ≡ true → (b == 33) ≡ false
  plain text none equal = ap (begins_with 33) ((bytes_eq-Decides (b ∷ bs) text).0 equal) ∙ none

  entry : (permit deny dynamic evaluate : Bool) → bytes_eq (b ∷ bs) (codes "permit") ≡ permit → bytes_eq (b ∷ bs) (codes "deny") ≡ deny → bytes_eq (b ∷ bs) (codes "dynamic") ≡ dynamic → bytes_eq (b ∷ bs) (codes "evaluate") ≡ evaluate → (((permit || deny) || dynamic) || evaluate) ≡ true → (b == 33) ≡ false
  entry true deny dynamic evaluate p d y e is = plain (codes "permit") refl p
  entry false true dynamic evaluate p d y e is = plain (codes "deny") refl d
  entry false false true evaluate p d y e is = plain (codes "dynamic") refl y
  entry false false false true p d y e is = plain (codes "evaluate") refl e
  entry false false false false p d y e is = absurd (cc)

  digit : is_ascii_digit b ≡ true → (b == 33) ≡ true → ⊥
  digit is mark = grind (arith, nat_tests)

  by : (mark : Bool) → (b == 33) ≡ mark → mark ≡ false
  by false is_mark = refl
  by true is_mark =
      elim is [
        | inl begins ↦ sym is_mark ∙ entry (bytes_eq (b ∷ bs) (codes "permit")) (bytes_eq (b ∷ bs) (codes "deny")) (bytes_eq (b ∷ bs) (codes "dynamic")) (bytes_eq (b ∷ bs) (codes "evaluate")) refl refl refl refl begins
        | inr number ↦ absurd (digit (and_both (is_ascii_digit b) (all_ascii_digits bs) (and_both (nat_lt 0 (length (b ∷ bs))) (all_ascii_digits (b ∷ bs)) number).1).0 is_mark)
      ]

in_lists : (word : List ℕ) → MayBegin word → begins_list_line word ≡ true
in_lists word is = by (is_numeral word) (bytes_eq word (codes "permit")) (bytes_eq word (codes "deny")) (bytes_eq word (codes "remark")) (bytes_eq word (codes "dynamic")) (bytes_eq word (codes "evaluate")) is where
  by : (number permit deny remark dynamic evaluate : Bool) → ((((permit || deny) || dynamic) || evaluate) ≡ true) ⊎ (number ≡ true)
      → ((((number || is_some (if permit then Some true else (if deny then Some false else None))) || remark) || dynamic) || evaluate) ≡ true
  by true permit deny remark dynamic evaluate is = refl
  by false true deny remark dynamic evaluate is = refl
  by false false true remark dynamic evaluate is = refl
  by false false false true dynamic evaluate is = refl
  by false false false false true evaluate is = refl
  by false false false false false true is = refl
  by false false false false false false is = elim is [ inl none ↦ none | inr none ↦ none ]

-- a line that looks like an entry is an entry of the list whose section is open, or declares nothing where none is open
abbrev pub IsLookingIn : Section → Option Statement → Type 0
IsLookingIn section None = ⊥
IsLookingIn section (Some (statement.Interface name)) = ⊥
IsLookingIn section (Some (statement.Section list kind)) = ⊥
IsLookingIn section (Some (statement.Remark list)) = ⊥
IsLookingIn section (Some (statement.ListEntry entry)) = ⊥
IsLookingIn section (Some (statement.SectionEntry entry)) = Unit {0}
IsLookingIn section (Some (statement.Group interface way list)) = ⊥
IsLookingIn section (Some statement.Other) = in_list section ≡ false

no_remark : (first second : List ℕ) → looks_like_entry first second ≡ true → (first ≡ codes "remark") ⊎ ((is_numeral first ≡ true) × (second ≡ codes "remark")) → ⊥
no_remark first second looks (inl is) = let e : false ≡ true = sym (ap (λ w. looks_like_entry w second) is) ∙ looks in absurd (cc)
no_remark first second looks (inr is) =
    elim (or_either (begins_entry first) (is_numeral first && begins_entry second) looks) [
      | inl entry ↦ let e : true ≡ false = sym is.0 ∙ entry_no_number first entry in absurd (cc)
      | inr number ↦ let e : true ≡ false = sym (and_both (is_numeral first) (begins_entry second) number).1 ∙ ap begins_entry is.1 in absurd (cc)
    ]

section_looking : (declared : Declared) (list : List ℕ) (kind : ListKind) (words : List (List ℕ)) → looks_like_entry (word_at words 0) (word_at words 1) ≡ true → Holds (IsLookingIn (sections.List list kind)) (section_line declared list kind words)
section_looking declared list kind words looks =
    after (IsListLine list kind words) (IsLookingIn (sections.List list kind)) (section_entry declared list kind words) _ (section_entry_is declared list kind words)
    (λ entry is. holds _ (section_statement entry) (by entry is))
  where
    by : (entry : Option NumberedEntry) → IsListLine list kind words entry → IsLookingIn (sections.List list kind) (section_statement entry)
    by None is = no_remark (word_at words 0) (word_at words 1) looks is
    by (Some entry) is = tt

other_looking : (declared : Declared) (section : Section) (word : List ℕ) (words : List (List ℕ)) → begins_list_line word ≡ true → looks_like_entry (word_at words 0) (word_at words 1) ≡ true → Holds (IsLookingIn section) (other_line declared section word words)
other_looking declared sections.Closed word words begins looks = holds _ (Some statement.Other) refl
other_looking declared (sections.Interface name) word words begins looks = holds _ (Some statement.Other) refl
other_looking declared (sections.List name kind) word words begins looks = rw begins (section_looking declared name kind words looks)

no_keyword : (declared : Declared) (word : List ℕ) (words : List (List ℕ)) → MayBegin word → keyword_says declared word words ≡ None
no_keyword declared word words is =
    rw (is_none word (codes "interface") refl refl is, is_none word (codes "access-list") refl refl is, is_none word (codes "ip") refl refl is, is_none word (codes "no") refl refl is) refl

words_looking : (declared : Declared) (words : List (List ℕ)) → looks_like_entry (word_at words 0) (word_at words 1) ≡ true → Holds (IsLookingIn declared.section) (words_say 33 (line_with declared) words)
words_looking declared [] looks = absurd (cc)
words_looking declared (word ∷ words) looks =
    let begins : MayBegin word = may_begin word (word_at (word ∷ words) 1) looks in
    rw (no_mark word begins, no_keyword declared word words begins) (other_looking declared declared.section word (word ∷ words) (in_lists word begins) looks)

line_looking : (declared : Declared) (line : List ℕ) → looks_like_entry (word_at (words_of line) 0) (word_at (words_of line) 1) ≡ true → Holds (IsLookingIn declared.section) (line_says declared line)
unfolding line_says
line_looking declared line looks = words_looking declared (words_of line) looks

-- what a line says that looks like an entry
pub looking_in : (declared : Declared) (line : List ℕ) (said : Option Statement) → line_says declared line ≡ Ok said → looks_like_entry (word_at (words_of line) 0) (word_at (words_of line) 1) ≡ true → IsLookingIn declared.section said
looking_in declared line said is looks = (line_looking declared line looks).of said is

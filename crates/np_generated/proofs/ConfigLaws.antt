-- A generated configuration is read as the one that is meant.
use Rattle.std.proofs.Common.{◌≡◌, ℕ, ◌+◌, ◌*◌, ◌<◌, ◌≤◌, true, false, max, List, [], ◌∷◌, ◌++◌, length, map, Option, Some, codes, refl, sym, ap, ◌∙◌, append-nil, append_assoc, arith}
use Rattle.std.specs.Prelude.{Ok, fold}
use Rattle.std.specs.BTreeMap.{insert_entry}
use Rattle.std.specs.Cmp.{nat_cmp_is}
use Rattle.std.specs.List.{AllByRecursion}
use Rattle.std.specs.Ordering.{nat_cmp}
use Rattle.std.specs.declared.cmp.Ordering.TheVariants.{Greater}
use Rattle.std.proofs.lemmas.Bool.{le-leb}
use Rattle.std.proofs.lemmas.List.{length-map, map-append}
use Rattle.std.proofs.lemmas.List.Sums.{fold-append}
use Rattle.np_text.specs.Joined.{AreLinesOfWords, joined_line}
use Rattle.np_lines.specs.Reading.{EachSays, statements_said}
use Rattle.np_acl.specs.declared.entries.Entry.{Entry}
use Rattle.np_acl.specs.declared.kinds.Way.TheVariants.{Inward}
use Rattle.np_acl_read.specs.Applied.{Applied}
use Rattle.np_acl_read.specs.Adding.{Numbered, added}
use Rattle.np_acl_read.specs.Declaring.{config_with, declared_by_config, plain_lists}
use Rattle.np_acl_read.specs.Judging.{group_at, ip_line, line_says, next_number, number_limit, numbers_in}
use Rattle.np_acl_read.specs.Reading.{config_of}
use Rattle.np_acl_read.specs.declared.config.Config.{Config}
use Rattle.np_acl_read.specs.declared.declared.Declared.{Declared}
use Rattle.np_acl_read.specs.declared.declared.Section.{Section}
use Rattle.np_acl_read.specs.declared.declared.Section.TheVariants as sections
use Rattle.np_acl_read.specs.declared.statement.Statement.{Statement}
use Rattle.np_acl_read.specs.declared.statement.Statement.TheVariants as statement
use Rattle.np_acl_read.proofs.DeclarationLaws.{declared_one_more}
use Rattle.np_acl_read.proofs.LineReading.{joined_lines_read}
use Rattle.np_generate.specs.ConfigLines.{config_lines, entry_line, entry_lines}
use Rattle.np_generate.specs.Drawn.{a_net, some_entries}
use Rattle.np_generate.specs.Generated.{config_text, drawn, generated_configs}
use Rattle.np_generate.specs.declared.drawn.DrawnEntry.{DrawnEntry}
use Rattle.np_generated.specs.Configs.{config_meant, entry_meant}
use Rattle.np_generated.proofs.DrawnLaws.{IsDrawn, entries_counted, entries_within, turns_counted, turns_within}
use Rattle.np_generated.proofs.EntryLaws.{entry_line_words, entry_said, numbered_entry}

-- ---- entries with their numbers

-- the lists where the list 100 has these entries; without any it isn't there
abbrev listed : List (ℕ × Entry) → Numbered
listed [] = []
listed (entry ∷ entries) = (codes "100", entry ∷ entries) ∷ []

-- the list that is applied
abbrev groups_meant : Applied
groups_meant = record { inward = (codes "e0", codes "100") ∷ []; outward = [] }

-- what is declared where the list 100 has so many entries
abbrev declared_at : Section → List (ℕ × Entry) → ℕ → Declared
declared_at section done count = record { section = section; lists = listed done; groups = groups_meant; entries = count }

-- the entries after so many others, with their numbers
abbrev with_numbers : ℕ → List DrawnEntry → List (ℕ × Entry)
with_numbers n [] = []
with_numbers n (entry ∷ entries) = (10 * n + 10, entry_meant entry) ∷ with_numbers (n + 1) entries

-- what their lines say
abbrev statements_from : ℕ → List DrawnEntry → List Statement
statements_from n [] = []
statements_from n (entry ∷ entries) = statement.ListEntry (numbered_entry entry (10 * n + 10)) ∷ statements_from (n + 1) entries

-- entries whose greatest number is this one
record AreUpTo (greatest : ℕ) (done : List (ℕ × Entry)) : Type 0 where
  each : AllByRecursion (λ entry. entry.0 ≤ greatest) done
  most : fold max 0 (map (λ entry. entry.0) done) ≡ greatest

numbers_listed : (done : List (ℕ × Entry)) → numbers_in (listed done) (codes "100") ≡ map (λ entry. entry.0) done
numbers_listed [] = refl
numbers_listed (entry ∷ entries) = refl

-- the next number
next_of : (n : ℕ) (done : List (ℕ × Entry)) → AreUpTo (10 * n) done → n < 40 → next_number (numbers_in (listed done) (codes "100")) ≡ Ok (10 * n + 10)
next_of n done up few =
    let small : 10 * n + 10 ≤ number_limit = omega arith in
    rw (numbers_listed done, up.most, le-leb (10 * n + 10) number_limit small) refl

-- an entry with a greater number stands after the others
put_last : (done : List (ℕ × Entry)) (greatest k : ℕ) (entry : Entry) → AllByRecursion (λ entry. entry.0 ≤ greatest) done → greatest < k → insert_entry nat_cmp done k entry ≡ done ++ (k, entry) ∷ []
put_last [] greatest k entry each above = refl
put_last (first ∷ done) greatest k entry each above =
    let below : first.0 ≤ greatest = each.0 in
    let after : Greater ≡ nat_cmp k first.0 = nat_cmp_is k first.0 Greater (omega arith) in
    rw (← after) (ap (λ more. first ∷ more) (put_last done greatest k entry each.1 above))

-- one entry more
entry_added : (section : Section) (done : List (ℕ × Entry)) (n : ℕ) (entry : DrawnEntry) → AreUpTo (10 * n) done →
    added (declared_at section done n) (statement.ListEntry (numbered_entry entry (10 * n + 10))) ≡ declared_at sections.Closed (done ++ (10 * n + 10, entry_meant entry) ∷ []) (n + 1)
entry_added section [] n entry up = refl
entry_added section (first ∷ done) n entry up =
    let last : insert_entry nat_cmp (first ∷ done) (10 * n + 10) (entry_meant entry) ≡ (first ∷ done) ++ (10 * n + 10, entry_meant entry) ∷ [] =
    put_last (first ∷ done) (10 * n) (10 * n + 10) (entry_meant entry) up.each (omega arith) in
    ap (λ entries. record { section = sections.Closed; lists = (codes "100", entries) ∷ []; groups = groups_meant; entries = n + 1 }) last

up_to_more : (n : ℕ) (done : List (ℕ × Entry)) (entry : Entry) → AreUpTo (10 * n) done → AreUpTo (10 * (n + 1)) (done ++ (10 * n + 10, entry) ∷ [])
up_to_more n done entry up = record { each = each_more done up.each; most = most } where
  numbers : List ℕ
  numbers = map (λ entry. entry.0) done

  most : fold max 0 (map (λ entry. entry.0) (done ++ (10 * n + 10, entry) ∷ [])) ≡ 10 * (n + 1)
  most =
      ap (fold max 0) (map-append (λ entry. entry.0) done ((10 * n + 10, entry) ∷ []))
      ∙ fold-append max 0 (map (λ entry. entry.0) done) ((10 * n + 10) ∷ [])
      ∙ ap (λ greatest. max greatest (10 * n + 10)) up.most
      ∙ omega arith

  each_more : (done : List (ℕ × Entry)) → AllByRecursion (λ entry. entry.0 ≤ 10 * n) done → AllByRecursion (λ entry. entry.0 ≤ 10 * (n + 1)) (done ++ (10 * n + 10, entry) ∷ [])
  each_more [] each = (omega arith, tt)
  each_more (first ∷ done) each = let below : first.0 ≤ 10 * n = each.0 in (omega arith, each_more done each.1)

-- ---- the lines of the list

lines_say : (before : List Statement) (section : Section) (done : List (ℕ × Entry)) (n : ℕ) (entries : List DrawnEntry) →
    declared_by_config before ≡ declared_at section done n → AreUpTo (10 * n) done → n + length entries ≤ 40 → AllByRecursion IsDrawn entries →
    EachSays (λ before. line_says (declared_by_config before)) before (map (λ line. joined_line line.0 line.1) (entry_lines entries)) (map (λ s. Some s) (statements_from n entries))
lines_say before section done n [] so_far up few within = tt
lines_say before section done n (entry ∷ entries) so_far up few within =
    (first, lines_say (before ++ said ∷ []) sections.Closed (done ++ (10 * n + 10, entry_meant entry) ∷ []) (n + 1) entries (declared_one_more before said ∙ ap (λ d. added d said) so_far ∙ entry_added section done n entry up) (up_to_more n done (entry_meant entry) up) (omega arith) within.1)
  where
    said : Statement
    said = statement.ListEntry (numbered_entry entry (10 * n + 10))

    first : line_says (declared_by_config before) (joined_line false (entry_line entry)) ≡ Ok (Some said)
    first =
        ap (λ d. line_says d (joined_line false (entry_line entry))) so_far
        ∙ entry_said (declared_at section done n) entry (10 * n + 10) within.0 (next_of n done up (omega arith)) (omega arith)

lines_declare : (before : List Statement) (section : Section) (done : List (ℕ × Entry)) (n : ℕ) (entries : List DrawnEntry) →
    declared_by_config before ≡ declared_at section done n → AreUpTo (10 * n) done →
    config_with (declared_by_config (before ++ statements_from n entries)) ≡ record { lists = plain_lists (listed (done ++ with_numbers n entries)); groups = groups_meant }
lines_declare before section done n [] so_far up =
    ap (λ statements. config_with (declared_by_config statements)) (append-nil before)
    ∙ ap config_with so_far
    ∙ ap (λ entries. record { lists = plain_lists (listed entries); groups = groups_meant }) (sym (append-nil done))
lines_declare before section done n (entry ∷ entries) so_far up =
    ap (λ statements. config_with (declared_by_config statements)) (sym (append_assoc before (said ∷ []) (statements_from (n + 1) entries)))
    ∙ lines_declare (before ++ said ∷ []) sections.Closed (done ++ (10 * n + 10, entry_meant entry) ∷ []) (n + 1) entries (declared_one_more before said ∙ ap (λ d. added d said) so_far ∙ entry_added section done n entry up) (up_to_more n done (entry_meant entry) up)
    ∙ ap (λ all. record { lists = plain_lists (listed all); groups = groups_meant }) (append_assoc done ((10 * n + 10, entry_meant entry) ∷ []) (with_numbers (n + 1) entries))
  where
    said : Statement
    said = statement.ListEntry (numbered_entry entry (10 * n + 10))

entries_unnumbered : (n : ℕ) (entries : List DrawnEntry) → map (λ entry. entry.1) (with_numbers n entries) ≡ map entry_meant entries
entries_unnumbered n [] = refl
entries_unnumbered n (entry ∷ entries) = ap (λ more. entry_meant entry ∷ more) (entries_unnumbered (n + 1) entries)

-- ---- the whole text

-- the interface, and the list that is applied there
abbrev head : List Statement
head = statement.Interface (codes "e0") ∷ statement.Group (codes "e0") Inward (codes "100") ∷ []

head_declares : declared_by_config head ≡ declared_at (sections.Interface (codes "e0")) [] 0
unfolding declared_by_config
head_declares = refl

interface_said : line_says (declared_by_config []) (joined_line false (codes "interface" ∷ codes "e0" ∷ [])) ≡ Ok (Some (statement.Interface (codes "e0")))
unfolding line_says declared_by_config
interface_said = refl

group_said : line_says (declared_by_config (statement.Interface (codes "e0") ∷ [])) (joined_line true (codes "ip" ∷ codes "access-group" ∷ codes "100" ∷ codes "in" ∷ [])) ≡ Ok (Some (statement.Group (codes "e0") Inward (codes "100")))
unfolding line_says ip_line group_at declared_by_config
group_said = refl

all_said : {S : Type 0} (statements : List S) → statements_said (map (λ s. Some s) statements) ≡ statements
all_said [] = refl
all_said (s ∷ statements) = ap (λ more. s ∷ more) (all_said statements)

entry_lines_words : (entries : List DrawnEntry) → AllByRecursion IsDrawn entries → AreLinesOfWords (entry_lines entries)
entry_lines_words [] within = tt
entry_lines_words (entry ∷ entries) within = (entry_line_words entry within.0, entry_lines_words entries within.1)

-- a configuration is read as the one that is meant
pub record AreEntries (entries : List DrawnEntry) : Type 0 where
  pub many : length entries ≡ 40
  pub within : AllByRecursion IsDrawn entries

meant_by : (entries : List DrawnEntry) → AreEntries entries → config_with (declared_by_config (head ++ statements_from 0 entries)) ≡ config_meant entries
meant_by entries are = lines_declare head (sections.Interface (codes "e0")) [] 0 entries head_declares (record { each = tt; most = refl }) ∙ by entries are.many where
  declares : List DrawnEntry → Config
  declares entries = record { lists = plain_lists (listed (with_numbers 0 entries)); groups = groups_meant }

  by : (entries : List DrawnEntry) → length entries ≡ 40 → declares entries ≡ config_meant entries
  by [] none = absurd (omega arith)
  by (entry ∷ entries) many = ap (λ plain. record { lists = (codes "100", plain) ∷ []; groups = groups_meant }) (entries_unnumbered 0 (entry ∷ entries))

config_read : (entries : List DrawnEntry) → AreEntries entries → config_of (config_text entries) ≡ Ok (config_meant entries)
unfolding config_lines
config_read entries are =
    joined_lines_read (config_lines entries) saids
    ((refl, (refl, tt)), ((refl, (refl, (refl, (refl, tt)))), entry_lines_words entries are.within))
    (interface_said, (group_said, lines_say head (sections.Interface (codes "e0")) [] 0 entries head_declares (record { each = tt; most = refl }) (omega (arith, are.many)) are.within))
    ∙ ap (λ statements. Ok (config_with (declared_by_config (head ++ statements)))) (all_said (statements_from 0 entries))
    ∙ ap (λ config. Ok config) (meant_by entries are)
  where
    saids : List (Option Statement)
    saids = Some (statement.Interface (codes "e0")) ∷ Some (statement.Group (codes "e0") Inward (codes "100")) ∷ map (λ s. Some s) (statements_from 0 entries)

-- ---- all configurations of a seed

all_read : (lists : List (List DrawnEntry)) → AllByRecursion AreEntries lists → map config_of (map config_text lists) ≡ map (λ entries. Ok (config_meant entries)) lists
all_read [] are = refl
all_read (entries ∷ lists) are = rw (config_read entries are.0, all_read lists are.1) refl

pub configs_read : (seed : ℕ) → map config_of (generated_configs seed) ≡ map (λ entries. Ok (config_meant entries)) (drawn seed).0.entries
unfolding drawn
configs_read seed =
    all_read (drawn seed).0.entries (turns_within AreEntries (λ k. some_entries) 0 24 (a_net seed).1 (λ n x. record { many = entries_counted x; within = entries_within x }))

pub configs_counted : (seed : ℕ) → length (generated_configs seed) ≡ 24
unfolding drawn
configs_counted seed = length-map (drawn seed).0.entries config_text ∙ turns_counted (λ k. some_entries) 0 24 (a_net seed).1

-- The lines of a configuration are read one after another.
use Rattle.std.proofs.Common.{◌≡◌, ℕ, ◌+◌, List, [], ◌∷◌, ◌++◌, map, Option, Some, None, refl, sym, ap, subst, ◌∙◌, append-nil, append_assoc}
use Rattle.std.specs.Prelude.{Ok, Err}
use Rattle.std.specs.List.{cons_option, enumerate_from}
use Rattle.np_text.specs.Lines.{lines_of, numbered_lines}
use Rattle.np_lines.specs.Declaring.{added_if, lines_give}
use Rattle.np_lines.specs.Judging.{Judged, ◌>>=◌}
use Rattle.np_lines.specs.Reading.{and_one, at_line, statements_from, text_says}
use Rattle.np_lines.proofs.LineReading.{text_gives_lines}
use Rattle.np_entry_read.specs.declared.fault.ConfigWhy.{ConfigWhy}
use Rattle.np_acl_read.specs.declared.config.Config.{Config}
use Rattle.np_acl_read.specs.declared.declared.Declared.{Declared}
use Rattle.np_acl_read.specs.declared.statement.Statement.{Statement}
use Rattle.np_acl_read.specs.Adding.{added}
use Rattle.np_acl_read.specs.Declaring.{config_with, declared_by_config, section_of}
use Rattle.np_acl_read.specs.Judging.{line_says}
use Rattle.np_acl_read.specs.Reading.{config_of}
use Rattle.np_acl_read.proofs.DeclarationLaws.{declared_one_more}
use Rattle.np_notes.specs.Clean.{AreItsLines}
use Rattle.np_notes.specs.ReadLines.{ReadLine, lines_from, read_after, read_lines, statements_of, unless_faulty}

-- ---- lines that are read

-- each line says what it says after lines that declare this, and those before it
abbrev pub IsReading : Declared → List ReadLine → Type 0
IsReading declared [] = Unit {0}
IsReading declared (line ∷ lines) = (line.section ≡ declared.section) × (line_says declared line.bytes ≡ Ok line.said) × IsReading (added_if added declared line.said) lines

pub reading_is : (declared : Declared) (lines : List (ℕ × List ℕ)) → IsReading declared (lines_from declared lines)
reading_is declared [] = tt
reading_is declared (line ∷ lines) = by (line_says declared line.1) refl (λ said. reading_is (added_if added declared said) lines) where
  by : (j : Judged ConfigWhy (Option Statement)) → line_says declared line.1 ≡ j → ((said : Option Statement) → IsReading (added_if added declared said) (lines_from (added_if added declared said) lines))
      → IsReading declared (unless_faulty j (λ said. read_after declared line.0 line.1 said ∷ lines_from (added_if added declared said) lines))
  by (Ok said) is rest = (refl, is, rest said)
  by (Err e) is rest = tt

-- what is declared after lines
abbrev pub declared_after : Declared → List ReadLine → Declared
declared_after declared [] = declared
declared_after declared (line ∷ lines) = declared_after (added_if added declared line.said) lines

pub reading_rest : (declared : Declared) (before rest : List ReadLine) → IsReading declared (before ++ rest) → IsReading (declared_after declared before) rest
reading_rest declared [] rest reads = reads
reading_rest declared (line ∷ before) rest reads = reading_rest (added_if added declared line.said) before rest reads.2

-- it is what their statements declare
pub declared_is : (statements : List Statement) (lines : List ReadLine) → declared_after (declared_by_config statements) lines ≡ declared_by_config (statements ++ statements_of lines)
declared_is statements [] = ap declared_by_config (sym (append-nil statements))
declared_is statements (line ∷ lines) = by line.said (λ more. declared_is more lines) where
  by : (said : Option Statement) → ((more : List Statement) → declared_after (declared_by_config more) lines ≡ declared_by_config (more ++ statements_of lines))
      → declared_after (added_if added (declared_by_config statements) said) lines ≡ declared_by_config (statements ++ cons_option said (statements_of lines))
  by None rest = rest statements
  by (Some s) rest =
      ap (λ d. declared_after d lines) (sym (declared_one_more statements s))
      ∙ rest (statements ++ s ∷ [])
      ∙ ap declared_by_config (append_assoc statements (s ∷ []) (statements_of lines))

-- ---- lines of an accepted text

-- without a fault all lines are read, and they declare the configuration
pub whole : (declared : Declared) (lines : List (ℕ × List ℕ)) (config : Config) → lines_give line_says added config_with declared lines ≡ Ok config → (map (λ line. (line.number, line.bytes)) (lines_from declared lines) ≡ lines) × (config_with (declared_after declared (lines_from declared lines)) ≡ config)
whole declared [] config gives = (refl, cc)
whole declared (line ∷ lines) config gives = by (line_says declared line.1) (λ said. whole (added_if added declared said) lines config) gives where
  by : (j : Judged ConfigWhy (Option Statement))
      → ((said : Option Statement) → lines_give line_says added config_with (added_if added declared said) lines ≡ Ok config → (map (λ l. (l.number, l.bytes)) (lines_from (added_if added declared said) lines) ≡ lines) × (config_with (declared_after (added_if added declared said) (lines_from (added_if added declared said) lines)) ≡ config))
      → ((at_line line.0 j >>= λ said. Ok (added_if added declared said)) >>= λ next. lines_give line_says added config_with next lines) ≡ Ok config
      → (map (λ l. (l.number, l.bytes)) (unless_faulty j (λ said. read_after declared line.0 line.1 said ∷ lines_from (added_if added declared said) lines)) ≡ line ∷ lines)
      × (config_with (declared_after declared (unless_faulty j (λ said. read_after declared line.0 line.1 said ∷ lines_from (added_if added declared said) lines))) ≡ config)
  by (Ok said) rest gives = let more = rest said gives in (ap (λ l. line ∷ l) more.0, more.1)
  by (Err e) rest gives = absurd (cc)

-- and they say the statements of the text
statements_are : (before : List Statement) (number : ℕ) (lines : List (List ℕ)) (config : Config) → lines_give line_says added config_with (declared_by_config before) (enumerate_from number lines) ≡ Ok config
    → statements_from (λ earlier. line_says (declared_by_config earlier)) before number lines ≡ Ok (before ++ statements_of (lines_from (declared_by_config before) (enumerate_from number lines)))
statements_are before number [] config gives = ap (λ all. Ok all) (sym (append-nil before))
statements_are before number (line ∷ lines) config gives = by (line_says (declared_by_config before) line) (λ more. statements_are more (number + 1) lines config) gives where
  by : (j : Judged ConfigWhy (Option Statement))
      → ((more : List Statement) → lines_give line_says added config_with (declared_by_config more) (enumerate_from (number + 1) lines) ≡ Ok config → statements_from (λ earlier. line_says (declared_by_config earlier)) more (number + 1) lines ≡ Ok (more ++ statements_of (lines_from (declared_by_config more) (enumerate_from (number + 1) lines))))
      → ((at_line number j >>= λ said. Ok (added_if added (declared_by_config before) said)) >>= λ next. lines_give line_says added config_with next (enumerate_from (number + 1) lines)) ≡ Ok config
      → (at_line number j >>= λ said. statements_from (λ earlier. line_says (declared_by_config earlier)) (and_one before said) (number + 1) lines)
      ≡ Ok (before ++ statements_of (unless_faulty j (λ said. read_after (declared_by_config before) number line said ∷ lines_from (added_if added (declared_by_config before) said) (enumerate_from (number + 1) lines))))
  by (Ok None) rest gives = rest before gives
  by (Ok (Some s)) rest gives =
      let grown : declared_by_config (before ++ s ∷ []) ≡ added (declared_by_config before) s = declared_one_more before s in
      rest (before ++ s ∷ []) (ap (λ d. lines_give line_says added config_with d (enumerate_from (number + 1) lines)) grown ∙ gives)
      ∙ ap (λ d. Ok ((before ++ s ∷ []) ++ statements_of (lines_from d (enumerate_from (number + 1) lines)))) grown
      ∙ ap (λ all. Ok all) (append_assoc before (s ∷ []) (statements_of (lines_from (added (declared_by_config before) s) (enumerate_from (number + 1) lines))))
  by (Err e) rest gives = absurd (cc)

pub gives_config : (text : List ℕ) (config : Config) → config_of text ≡ Ok config → lines_give line_says added config_with (declared_by_config []) (numbered_lines text) ≡ Ok config
gives_config text config is = sym (text_gives_lines line_says declared_by_config added config_with declared_one_more text) ∙ is

pub statements_read : (text : List ℕ) (config : Config) → config_of text ≡ Ok config → text_says (λ before. line_says (declared_by_config before)) text ≡ Ok (statements_of (read_lines text))
statements_read text config is = statements_are [] 1 (lines_of text) config (gives_config text config is)

pub config_read : (text : List ℕ) (config : Config) → config_of text ≡ Ok config → config_with (declared_by_config (statements_of (read_lines text))) ≡ config
config_read text config is = ap config_with (sym (declared_is [] (read_lines text))) ∙ (whole (declared_by_config []) (numbered_lines text) config (gives_config text config is)).1

section_declared : (statements : List Statement) → (declared_by_config statements).section ≡ section_of statements
unfolding declared_by_config
section_declared statements = refl

pub lines_are_its : (text : List ℕ) (config : Config) → config_of text ≡ Ok config → AreItsLines text (read_lines text)
lines_are_its text config is = record {
  all = (whole (declared_by_config []) (numbered_lines text) config (gives_config text config is)).0;
  statements = statements_read text config is;
  each = λ before after line split.
      let reads : IsReading (declared_by_config []) (before ++ line ∷ after) = subst (IsReading (declared_by_config [])) split (reading_is (declared_by_config []) (numbered_lines text)) in
      let here = reading_rest (declared_by_config []) before (line ∷ after) reads in
      let same : declared_after (declared_by_config []) before ≡ declared_by_config (statements_of before) = declared_is [] before in
      record {
        section = here.0 ∙ ap (λ d. d.section) same ∙ section_declared (statements_of before);
        said = ap (λ d. line_says d line.bytes) (sym same) ∙ here.1;
      };
}

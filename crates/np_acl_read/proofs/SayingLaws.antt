-- What a line says, by its first word.
use Rattle.std.proofs.Common.{◌≡◌, ℕ, Bool, true, false, List, ◌∷◌, drop, Option, Some, None, refl, ap, sym, ◌∙◌}
use Rattle.std.specs.Prelude.{◌&&◌, ◌||◌, not, Ok, Err, codes, if◌then◌else◌}
use Rattle.std.specs.Str.{bytes_eq}
use Rattle.np_text.specs.Words.{words_of}
use Rattle.np_lines.specs.Skipping.{begins_with, is_skipped}
use Rattle.np_lines.proofs.SkippedLines.{skipped_say_nothing, unmarked_say}
use Rattle.np_lines.specs.Answers.{StopsAs}
use Rattle.np_lines.specs.Judging.{Judged}
use Rattle.np_lines.specs.declared.line_error.LineError.{LineError}
use Rattle.np_lines.specs.declared.line_error.LineError.TheVariants as stop
use Rattle.np_entry_read.specs.declared.fault.ConfigWhy.{ConfigWhy}
use Rattle.np_acl_read.specs.declared.declared.Declared.{Declared}
use Rattle.np_acl_read.specs.declared.declared.Section.{Section}
use Rattle.np_acl_read.specs.declared.declared.Section.TheVariants as sections
use Rattle.np_acl_read.specs.declared.statement.Statement.{Statement}
use Rattle.np_acl_read.specs.declared.statement.Statement.TheVariants as statement
use Rattle.np_acl_read.specs.Answers.{GivesIf}
use Rattle.np_acl_read.specs.Judging.{begins_list_line, begins_other, in_list, interface_line, ip_line, line_says, line_with, list_line, no_line, other_line, said_by, said_or_other, section_line}

-- a line that is skipped declares nothing
pub says_nothing : (declared : Declared) (line : List ℕ) → is_skipped 33 (words_of line) ≡ true → line_says declared line ≡ Ok None
unfolding line_says
says_nothing declared line skipped = skipped_say_nothing 33 (line_with declared) (words_of line) skipped

-- a line of this section that begins no line of its list is another line
section_other : (declared : Declared) (section : Section) (word : List ℕ) (words : List (List ℕ)) → not (in_list section && begins_list_line word) ≡ true → other_line declared section word words ≡ Ok (Some statement.Other)
section_other declared sections.Closed word words other = refl
section_other declared (sections.Interface name) word words other = refl
section_other declared (sections.List name kind) word words other = by (begins_list_line word) other where
  by : (b : Bool) → not b ≡ true → (if b then section_line declared name kind words else Ok (Some statement.Other)) ≡ Ok (Some statement.Other)
  by true other = cc
  by false other = refl

-- words of which the first begins another line say that
other_says : (declared : Declared) (word : List ℕ) (words : List (List ℕ)) → begins_other declared.section word ≡ true → line_with declared word words ≡ Ok (Some statement.Other)
other_says declared word words other = by (bytes_eq word (codes "interface")) (bytes_eq word (codes "access-list")) (bytes_eq word (codes "ip")) (bytes_eq word (codes "no")) other where
  by : (interface list ip negated : Bool) → (not (((interface || list) || ip) || negated) && not (in_list declared.section && begins_list_line word)) ≡ true
      → said_or_other declared (if interface then Some (interface_line words) else (if list then Some (list_line declared words) else (if ip then Some (ip_line declared words) else (if negated then Some (no_line declared words) else None)))) word (word ∷ words) ≡ Ok (Some statement.Other)
  by true list ip negated other = cc
  by false true ip negated other = cc
  by false false true negated other = cc
  by false false false true other = cc
  by false false false false other = section_other declared declared.section word (word ∷ words) other

-- a line whose first word begins another line is one
pub says_other : (declared : Declared) (line word : List ℕ) → words_of line ≡ word ∷ drop 1 (words_of line) → begins_with 33 word ≡ false → begins_other declared.section word ≡ true → line_says declared line ≡ Ok (Some statement.Other)
unfolding line_says
says_other declared line word split unmarked other =
    unmarked_say 33 (line_with declared) (words_of line) word (drop 1 (words_of line)) split unmarked ∙ other_says declared word (drop 1 (words_of line)) other

-- and any other line says what its words say
pub says_by_words : (declared : Declared) (line word : List ℕ) → words_of line ≡ word ∷ drop 1 (words_of line) → begins_with 33 word ≡ false → begins_other declared.section word ≡ false → line_says declared line ≡ said_by declared (words_of line)
unfolding line_says
says_by_words declared line word split unmarked this =
    unmarked_say 33 (line_with declared) (words_of line) word (drop 1 (words_of line)) split unmarked ∙ ap (said_by declared) (sym split)

-- a line with a keyword says what the keyword's line says
pub keyword_said : (declared : Declared) (o : Option (Judged ConfigWhy Statement)) (word : List ℕ) (words : List (List ℕ)) (s : Statement) → GivesIf (Some (Ok s)) o → said_or_other declared o word words ≡ Ok (Some s)
keyword_said declared None word words s gives = absurd gives
keyword_said declared (Some judged) word words s gives = rw gives refl

-- or has its fault
pub keyword_faulty : (declared : Declared) (o : Option (Judged ConfigWhy Statement)) (word : List ℕ) (words : List (List ℕ)) (e : LineError ConfigWhy) → GivesIf {X = Statement} (Some (Err e)) o → StopsAs e (said_or_other declared o word words)
keyword_faulty declared None word words e gives = absurd gives
keyword_faulty declared (Some judged) word words (stop.Faulty why) gives = rw gives refl
keyword_faulty declared (Some judged) word words (stop.Memory e) gives = tt

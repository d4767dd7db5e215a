-- A line of an entry in its canonical words, in the section of its list.
use Rattle.std.proofs.Common.{◌≡◌, ℕ, ◌<◌, Bool, true, false, List, ◌∷◌, Some, refl, sym, ap, subst, ◌∙◌}
use Rattle.std.specs.Prelude.{Ok}
use Rattle.std.proofs.lemmas.Bool.{lt-ltb}
use Rattle.np_text.specs.Words.{words_of}
use Rattle.np_lines.specs.Judging.{◌>>=◌}
use Rattle.np_lines.specs.Skipping.{words_say}
use Rattle.np_space.specs.declared.spans.Span.{Span}
use Rattle.np_acl.specs.declared.entries.Entry.{Entry}
use Rattle.np_acl.specs.declared.kinds.ListKind.TheVariants.{Extended}
use Rattle.np_entry_read.specs.Canonical.{IsWritten, entry_words}
use Rattle.np_entry_read.proofs.CanonicalLaws.{entry_reads_back}
use Rattle.np_acl_read.specs.declared.declared.Declared.{Declared}
use Rattle.np_acl_read.specs.declared.declared.Section.{Section}
use Rattle.np_acl_read.specs.declared.declared.Section.TheVariants as sections
use Rattle.np_acl_read.specs.declared.statement.Statement.{Statement}
use Rattle.np_acl_read.specs.declared.statement.Statement.TheVariants as statement
use Rattle.np_acl_read.specs.Adding.{entry_limit}
use Rattle.np_acl_read.specs.Judging.{entry_or_remark, line_says, line_with, next_number, numbers_in, other_line, section_entry, section_statement, unnumbered}
use Rattle.np_acl_read.specs.Words.{action_word}

-- an entry in its canonical words gets the next number of its list
canonical_unnumbered : (declared : Declared) (list : List ℕ) (e : Entry) (a b : Span) (n : ℕ) → IsWritten e a b → next_number (numbers_in declared.lists list) ≡ Ok n → declared.entries < entry_limit → unnumbered declared list Extended e.permit (entry_words e a b) ≡ Ok (record { list = list; number = n; entry = e })
canonical_unnumbered declared list e a b n written next room = rw (entry_reads_back e a b written, next, lt-ltb declared.entries entry_limit room) refl

-- its line says it
pub entry_line : (declared : Declared) (list line : List ℕ) (e : Entry) (a b : Span) (n : ℕ) → words_of line ≡ action_word e.permit ∷ entry_words e a b → IsWritten e a b → declared.section ≡ sections.List list Extended → next_number (numbers_in declared.lists list) ≡ Ok n → declared.entries < entry_limit
    → line_says declared line ≡ Ok (Some (statement.SectionEntry (record { list = list; number = n; entry = e })))
unfolding line_says section_entry entry_or_remark
entry_line declared list line e a b n words written section next room =
    ap (words_say 33 (line_with declared)) words ∙ by e.permit (canonical_unnumbered declared list e a b n written next room)
  where
    said : Statement
    said = statement.SectionEntry (record { list = list; number = n; entry = e })

    by : (permit : Bool) → unnumbered declared list Extended permit (entry_words e a b) ≡ Ok (record { list = list; number = n; entry = e })
        → words_say 33 (line_with declared) (action_word permit ∷ entry_words e a b) ≡ Ok (Some said)
    by true unnumbered_is =
        let P : Section → Type 0 = λ s. other_line declared s (action_word true) (action_word true ∷ entry_words e a b) ≡ Ok (Some said) in
        let inner : P (sections.List list Extended) = ap (λ judged. (judged >>= λ entry. Ok (Some entry)) >>= λ entry. Ok (section_statement entry)) unnumbered_is in
        subst P (sym section) inner
    by false unnumbered_is =
        let P : Section → Type 0 = λ s. other_line declared s (action_word false) (action_word false ∷ entry_words e a b) ≡ Ok (Some said) in
        let inner : P (sections.List list Extended) = ap (λ judged. (judged >>= λ entry. Ok (Some entry)) >>= λ entry. Ok (section_statement entry)) unnumbered_is in
        subst P (sym section) inner

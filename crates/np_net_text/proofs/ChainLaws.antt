-- Lines of words that each declare something, read one after another.
use Rattle.std.proofs.Common.{◌≡◌, ℕ, ◌+◌, Bool, false, List, [], ◌∷◌, ◌++◌, map, Option, Some, Ok, sym, refl, ap, ◌∙◌, subst}
use Rattle.std.specs.List.{AllByRecursion}
use Rattle.np_text.specs.Joined.{AreLinesOfWords, joined_line, text_of_lines}
use Rattle.np_text.specs.Lines.{lines_of}
use Rattle.np_text.specs.Words.{words_of}
use Rattle.np_text.proofs.JoinedLaws.{words_of-joined_line, lines_of-joined_text, words_of-joined_text}
use Rattle.np_lines.specs.Judging.{Judged}
use Rattle.np_lines.specs.Reading.{statements_from}
use Rattle.np_net_read.specs.declared.fault.NetWhy.{NetWhy}
use Rattle.np_net_read.specs.declared.declared.Declared.{Declared}
use Rattle.np_net_read.specs.declared.statement.Statement.{Statement}
use Rattle.np_net_read.specs.Declaring.{declared_by_network, network_of}
use Rattle.np_net_read.specs.Fitting.{added}
use Rattle.np_net_read.specs.Judging.{words_say, line_says}
use Rattle.np_net_read.specs.Reading.{net_of}
use Rattle.np_net_read.proofs.DeclarationLaws.{declared_one_more}
use Rattle.np_net_read.specs.Words.{ArePlainWords}
use Rattle.np_net_text.proofs.PlainWords.{plain_words, plain_line}

abbrev pub Lines : Type 0
Lines = List (List (List ℕ))

-- each line declares something after those before it, and all of them together take what is declared to what is declared after them
abbrev pub ReadsInto : Declared → Lines → Declared → Type 0
ReadsInto declared [] after = declared ≡ after
ReadsInto declared (words ∷ lines) after = (s : Statement) × (words_say declared words ≡ Ok (Some s)) × ReadsInto (added declared s) lines after

pub then_reads : (declared middle after : Declared) (xs ys : Lines) → ReadsInto declared xs middle → ReadsInto middle ys after → ReadsInto declared (xs ++ ys) after
then_reads declared middle after [] ys h k = subst (λ d. ReadsInto d ys after) (sym h) k
then_reads declared middle after (x ∷ xs) ys h k = (h.0, h.1, then_reads (added declared h.0) middle after xs ys h.2 k)

-- each word of each line is a plain one
abbrev pub ArePlainLines : Lines → Type 0
ArePlainLines lines = AllByRecursion (λ words. ArePlainWords words) lines

pub plain_lines_append : (xs ys : Lines) → ArePlainLines xs → ArePlainLines ys → ArePlainLines (xs ++ ys)
plain_lines_append [] ys h k = k
plain_lines_append (x ∷ xs) ys h k = (h.0, plain_lines_append xs ys h.1 k)

-- ---- one line, and lines

line_reads : (declared : Declared) (words : List (List ℕ)) (said : Judged NetWhy (Option Statement)) → ArePlainWords words → words_say declared words ≡ said → line_says declared (joined_line false words) ≡ said
unfolding line_says
line_reads declared words said plain h = rw (plain_line words plain, words_of-joined_line false words (plain_words words plain)) h

statements_read : (before : List Statement) (n : ℕ) (lines : Lines) (after : Declared) → ArePlainLines lines → ReadsInto (declared_by_network before) lines after → (final : List Statement) × (statements_from (λ earlier. line_says (declared_by_network earlier)) before n (map (joined_line false) lines) ≡ Ok final) × (declared_by_network final ≡ after)
statements_read before n [] after plain h = (before, refl, h)
statements_read before n (words ∷ lines) after plain h =
    let rest = statements_read (before ++ h.0 ∷ []) (n + 1) lines after plain.1 (subst (λ d. ReadsInto d lines after) (sym (declared_one_more before h.0)) h.2) in
    (rest.0, rw (line_reads (declared_by_network before) words (Ok (Some h.0)) plain.0 h.1) rest.1, rest.2)

-- ---- a text of such lines

all_plain : (lines : Lines) → ArePlainLines lines → AreLinesOfWords (map (λ words. (false, words)) lines)
all_plain [] h = tt
all_plain (words ∷ lines) h = (plain_words words h.0, all_plain lines h.1)

joined_each : (lines : Lines) → map (λ (line : Bool × List (List ℕ)). joined_line line.0 line.1) (map (λ words. (false, words)) lines) ≡ map (joined_line false) lines
joined_each [] = refl
joined_each (words ∷ lines) = ap (λ l. joined_line false words ∷ l) (joined_each lines)

words_each : (lines : Lines) → map (λ (line : Bool × List (List ℕ)). line.1) (map (λ words. (false, words)) lines) ≡ lines
words_each [] = refl
words_each (words ∷ lines) = ap (λ l. words ∷ l) (words_each lines)

pub lines_of_plain : (lines : Lines) → ArePlainLines lines → lines_of (text_of_lines lines) ≡ map (joined_line false) lines
lines_of_plain lines plain = lines_of-joined_text (map (λ words. (false, words)) lines) (all_plain lines plain) ∙ joined_each lines

-- its words are those that it was made of
pub words_of_plain : (lines : Lines) → ArePlainLines lines → map words_of (lines_of (text_of_lines lines)) ≡ lines
words_of_plain lines plain = words_of-joined_text (map (λ words. (false, words)) lines) (all_plain lines plain) ∙ words_each lines

-- the network that it declares
pub net_of_plain : (lines : Lines) (after : Declared) → ArePlainLines lines → ReadsInto (declared_by_network []) lines after → net_of (text_of_lines lines) ≡ Ok (network_of after)
net_of_plain lines after plain h =
    let read = statements_read [] 1 lines after plain h in
    rw (lines_of_plain lines plain, read.1, read.2) refl

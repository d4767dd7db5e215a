-- What a list of words means: a predicate, or the first fault.
use Rattle.std.specs.Prelude.{◌≡◌, ℕ, zero, suc, ◌+◌, Bool, false, ◌&&◌, not, List, [], ◌∷◌, Option, Some, None, Result, Ok, Err, codes, if◌then◌else◌}
use Rattle.std.specs.Char.{is_ascii_alphabetic}
use Rattle.std.specs.Option.{ok_or}
use Rattle.std.specs.Str.{bytes_eq}
use Rattle.np_text.specs.Numbers.{number_of}
use Rattle.np_lines.specs.Answers.{texts}
use Rattle.np_lines.specs.Judging.{Judged, ◌>>=◌}
use Rattle.np_space.specs.declared.patterns.Ternary.{Ternary}
use Rattle.np_space.specs.declared.spans.Span.{Span}
use Rattle.np_pred.specs.declared.dscp.DscpSpan.{DscpSpan}
use Rattle.np_pred.specs.declared.predicate.Pred.{Pred}
use Rattle.np_pred.specs.declared.predicate.Pred.TheVariants as pred
use Rattle.np_pred.specs.declared.keywords.Field.{Field}
use Rattle.np_pred.specs.declared.keywords.Field.TheVariants as field
use Rattle.np_pred.specs.declared.keywords.Operator.{Operator}
use Rattle.np_pred.specs.declared.keywords.Operator.TheVariants as operator
use Rattle.np_pred.specs.declared.pred_error.PredError.{PredError}
use Rattle.np_pred.specs.declared.pred_error.PredError.TheVariants as error
use Rattle.np_pred.specs.declared.pred_error.PredFault.{PredFault}
use Rattle.np_pred.specs.declared.pred_error.PredFault.TheVariants as fault
use Rattle.np_pred.specs.declared.words_left.Left.{Left}
use Rattle.np_pred.specs.declared.reading.Begun.{Begun}
use Rattle.np_pred.specs.declared.reading.Begun.TheVariants as begun
use Rattle.np_pred.specs.declared.reading.TheConstants.{NESTING_LIMIT}
use Rattle.np_pred.specs.Areas.{AreaList, sources_named}
use Rattle.np_pred.specs.Dscp.{dscp_span_of}
use Rattle.np_pred.specs.Keywords.{constant_of, field_of, operator_of}
use Rattle.np_pred.specs.Patterns.{addresses_of}
use Rattle.np_pred.specs.Ports.{ports_of}

-- the words that are left, and the position of the first of them; the first of all words is at 0
pub record Rest : Type 0 where
  pub at : ℕ
  pub words : List (List ℕ)

-- these words, the first of them at this position
abbrev pub rest_from : ℕ → List (List ℕ) → Rest
rest_from at words = record { at = at; words = words }

-- what reading gives: a value and the words after it, or the first fault
abbrev pub Read : Type 0 → Type 0
Read X = Judged PredFault (X × Rest)

-- the first word
abbrev pub word_in : ℕ → List (List ℕ) → Read (List ℕ)
word_in at [] = Err fault.Unfinished
word_in at (word ∷ words) = Ok (word, record { at = at + 1; words = words })

-- the first of the words that are left
abbrev pub word_at : Rest → Read (List ℕ)
word_at rest = word_in rest.at rest.words

-- ---- arguments

-- the first byte is a letter
abbrev pub has_letter_first : List ℕ → Bool
has_letter_first [] = false
has_letter_first (b ∷ bs) = is_ascii_alphabetic b

-- a word that begins with a letter and isn't `none` is an area's name
abbrev pub is_area_name : List ℕ → Bool
is_area_name word = has_letter_first word && not (bytes_eq word (codes "none"))

-- the addresses of an area, or of a word with prefixes
unfoldable pub sources_of : AreaList → ℕ → List ℕ → Judged PredFault (List Ternary)
sources_of areas at word =
    if is_area_name word then ok_or (sources_named areas word) (fault.UnknownArea at)
    else ok_or (addresses_of word) (fault.BadWord at)

-- a number of one byte
abbrev pub octet_of : ℕ → List ℕ → Judged PredFault ℕ
octet_of at word = ok_or (number_of word 255) (fault.BadWord at)

-- a port, or the first and the last of several
abbrev pub port_span_of : ℕ → List ℕ → Judged PredFault Span
port_span_of at word = ok_or (ports_of word) (fault.BadWord at)

-- a value of DSCP, or the first and the last of several
abbrev pub dscp_values_of : ℕ → List ℕ → Judged PredFault DscpSpan
dscp_values_of at word = ok_or (dscp_span_of word) (fault.BadWord at)

-- the predicate of a field and the word after it
unfoldable pub argument_of : AreaList → Field → ℕ → List ℕ → Judged PredFault Pred
argument_of areas field.Proto at word = octet_of at word >>= λ value. Ok (pred.Proto value)
argument_of areas field.Src at word = sources_of areas at word >>= λ sources. Ok (pred.Src sources)
argument_of areas field.Dst at word = sources_of areas at word >>= λ sources. Ok (pred.Dst sources)
argument_of areas field.SrcPort at word = port_span_of at word >>= λ value. Ok (pred.SrcPort value)
argument_of areas field.DstPort at word = port_span_of at word >>= λ value. Ok (pred.DstPort value)
argument_of areas field.IcmpType at word = octet_of at word >>= λ value. Ok (pred.IcmpType value)
argument_of areas field.IcmpCode at word = octet_of at word >>= λ value. Ok (pred.IcmpCode value)
argument_of areas field.Dscp at word = dscp_values_of at word >>= λ values. Ok (pred.Dscp values)

-- the same with the word taken from those that are left
unfoldable pub argument_at : AreaList → Field → Rest → Read Pred
argument_at areas f rest = word_at rest >>= λ word. argument_of areas f rest.at word.0 >>= λ p. Ok (p, word.1)

-- ---- predicates

-- what a word begins that stands at this position: a word that is a predicate, a field with its argument, or an operator
abbrev pub begun_as : AreaList → ℕ → Rest → Option Pred → Option Field → Option Operator → Read Begun
begun_as areas at rest (Some p) f o = Ok (begun.Whole p, rest)
begun_as areas at rest None (Some f) o = argument_at areas f rest >>= λ p. Ok (begun.Whole p.0, p.1)
begun_as areas at rest None None (Some o) = Ok (begun.Open o, rest)
begun_as areas at rest None None None = Err (fault.BadWord at)

-- what the first of the words that are left begins
unfoldable pub begun_at : AreaList → Rest → Read Begun
begun_at areas rest = word_at rest >>= λ word. begun_as areas rest.at word.1 (constant_of word.0) (field_of word.0) (operator_of word.0)

-- the whole, once its operands are read as well
abbrev pub completed : (Rest → Read Pred) → Begun → Rest → Read Pred
completed read (begun.Whole p) rest = Ok (p, rest)
completed read (begun.Open operator.Not) rest = read rest >>= λ p. Ok (pred.Not p.0, p.1)
completed read (begun.Open operator.And) rest = read rest >>= λ p. read p.1 >>= λ q. Ok (pred.And p.0 q.0, q.1)
completed read (begun.Open operator.Or) rest = read rest >>= λ p. read p.1 >>= λ q. Ok (pred.Or p.0 q.0, q.1)

-- the predicate at the front, with so many levels of nesting left; a word at none of them is too deep
unfoldable pub pred_at : AreaList → ℕ → Rest → Read Pred
pred_at areas zero rest = word_at rest >>= λ word. Err (fault.TooDeep rest.at)
pred_at areas (suc levels) rest = begun_at areas rest >>= λ b. completed (pred_at areas levels) b.0 b.1

-- nothing may follow a whole predicate
abbrev pub nothing_after : Pred → ℕ → List (List ℕ) → Judged PredFault Pred
nothing_after p at [] = Ok p
nothing_after p at (word ∷ words) = Err (fault.Extra at)

-- the predicate that the words are, or the first fault
unfoldable pub pred_of : AreaList → List (List ℕ) → Judged PredFault Pred
pred_of areas words = pred_at areas NESTING_LIMIT (rest_from 0 words) >>= λ p. nothing_after p.0 p.1.at p.1.words

-- the position of the word at which a fault is, if it is at one
abbrev pub fault_at : PredFault → Option ℕ
fault_at (fault.BadWord at) = Some at
fault_at fault.Unfinished = None
fault_at (fault.Extra at) = Some at
fault_at (fault.TooDeep at) = Some at
fault_at (fault.UnknownArea at) = Some at

-- ---- what calls answer

-- what a call leaves, with its position
abbrev pub rest_of : Left → Rest
rest_of left = record { at = left.at; words = texts left.words.now }

-- a fault is the one that reading gives, and want of memory may come at any time
abbrev pub FailsAs : {X : Type 0} → PredError → Judged PredFault X → Type 0
FailsAs (error.Fault fault) read = read ≡ Err fault
FailsAs (error.Memory e) read = Unit {0}

-- a call gives what reading gives
abbrev pub Gives : {X : Type 0} → Result X PredError → Judged PredFault X → Type 0
Gives (Ok x) read = read ≡ Ok x
Gives (Err e) read = FailsAs e read

-- the same of a call that leaves words
abbrev pub GivesBefore : {X : Type 0} → Result X PredError → Rest → Read X → Type 0
GivesBefore (Ok x) rest read = read ≡ Ok (x, rest)
GivesBefore (Err e) rest read = FailsAs e read

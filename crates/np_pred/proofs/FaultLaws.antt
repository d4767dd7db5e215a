-- A fault at a word depends on the words up to this one alone.
use Rattle.std.proofs.Common.{◌≡◌, ℕ, zero, suc, ◌+◌, ◌<◌, ◌≤◌, Bool, true, false, cond, List, [], ◌∷◌, ◌++◌, length, take, drop, Option, Some, None, Result, Ok, Err, inl, inr, ◌⊎◌, sym, refl, ap, ◌∙◌, arith}
use Rattle.std.specs.Option.{ok_or}
use Rattle.std.proofs.lemmas.List.{take-append-drop, length-take-le}
use Rattle.np_text.specs.Numbers.{number_of}
use Rattle.np_pred.specs.declared.predicate.Pred.{Pred}
use Rattle.np_pred.specs.declared.predicate.Pred.TheVariants as pred
use Rattle.np_pred.specs.declared.keywords.Field.{Field}
use Rattle.np_pred.specs.declared.keywords.Field.TheVariants as field
use Rattle.np_pred.specs.declared.keywords.Operator.{Operator}
use Rattle.np_pred.specs.declared.keywords.Operator.TheVariants as operator
use Rattle.np_pred.specs.declared.pred_error.PredFault.{PredFault}
use Rattle.np_pred.specs.declared.pred_error.PredFault.TheVariants as fault
use Rattle.np_pred.specs.declared.reading.Begun.{Begun}
use Rattle.np_pred.specs.declared.reading.Begun.TheVariants as begun
use Rattle.np_pred.specs.declared.reading.TheConstants.{NESTING_LIMIT}
use Rattle.np_pred.specs.Areas.{AreaList, sources_named}
use Rattle.np_pred.specs.Keywords.{constant_of, field_of, operator_of}
use Rattle.np_pred.specs.Dscp.{dscp_span_of}
use Rattle.np_pred.specs.Patterns.{addresses_of}
use Rattle.np_pred.specs.Ports.{ports_of}
use Rattle.np_lines.specs.Judging.{◌>>=◌}
use Rattle.np_pred.specs.Reading.{Rest, rest_from, Read, word_in, is_area_name, sources_of, octet_of, port_span_of, dscp_values_of, argument_of, argument_at, begun_as, begun_at, completed, pred_at, nothing_after, pred_of, fault_at}

-- a list of words
abbrev Words : Type 0
Words = List (List ℕ)

-- ---- reading goes on from word to word

-- a reader never goes back, keeps the end of the words, and its faults at words are at those that were left
abbrev IsOnward : {X : Type 0} → Rest → Read X → Type 0
IsOnward rest (Ok p) = (rest.at ≤ p.1.at) × (p.1.at + length p.1.words ≡ rest.at + length rest.words)
IsOnward rest (Err f) = (m : ℕ) → fault_at f ≡ Some m → (rest.at ≤ m) × (m < rest.at + length rest.words)

-- one step and then others
onward-trans : {B : Type 0} (rest next : Rest) (r : Read B) → rest.at ≤ next.at → next.at + length next.words ≡ rest.at + length rest.words → IsOnward next r → IsOnward rest r
onward-trans rest next (Ok p) le same h = let a : next.at ≤ p.1.at = h.0 in let b : p.1.at + length p.1.words ≡ next.at + length next.words = h.1 in (omega arith, b ∙ same)
onward-trans rest next (Err f) le same h = λ m e. let w = h m e in let a : next.at ≤ m = w.0 in let b : m < next.at + length next.words = w.1 in (omega arith, omega arith)

-- a step and what goes on from it
onward-bind : {A B : Type 0} (rest : Rest) (r : Read A) (k : A × Rest → Read B) → IsOnward rest r → ((p : A × Rest) → IsOnward p.1 (k p)) → IsOnward rest (r >>= k)
onward-bind rest (Ok p) k h g = onward-trans rest p.1 (k p) h.0 h.1 (g p)
onward-bind rest (Err f) k h g = h

-- where no word is left
onward-unfinished : (X : Type 0) (rest : Rest) → IsOnward {X = X} rest (Err fault.Unfinished)
onward-unfinished X rest = λ m e. cc

-- the place after a word
module _ (at : ℕ) (word : List ℕ) (words : Words) where
  -- a fault at this word
  onward-here : (X : Type 0) (f : PredFault) → fault_at f ≡ Some at → IsOnward {X = X} (rest_from at (word ∷ words)) (Err f)
  onward-here X f here = λ m e. let same : at ≡ m = cc in (omega arith, omega arith)

-- the fault of a word, if any, is at its place
abbrev IsAt : {X : Type 0} → ℕ → Result X PredFault → Type 0
IsAt at (Ok x) = Unit {0}
IsAt at (Err f) = (m : ℕ) → fault_at f ≡ Some m → m ≡ at

-- a value that is made into another
at-bind : {A B : Type 0} (at : ℕ) (r : Result A PredFault) (k : A → B) → IsAt at r → IsAt at (r >>= λ x. Ok (k x))
at-bind at (Ok x) k h = tt
at-bind at (Err f) k h = h

-- a value, or a fault at this place
at-ok_or : {X : Type 0} (at : ℕ) (o : Option X) (f : PredFault) → fault_at f ≡ Some at → IsAt at (ok_or o f)
at-ok_or at (Some x) f e = tt
at-ok_or at None f e = λ m h. cc

-- either of two
at-either : {X : Type 0} (at : ℕ) (b : Bool) (r s : Result X PredFault) → IsAt at r → IsAt at s → IsAt at (cond b r s)
at-either at true r s h k = h
at-either at false r s h k = k

-- of addresses
sources-at : (areas : AreaList) (at : ℕ) (word : List ℕ) → IsAt at (sources_of areas at word)
unfolding sources_of
sources-at areas at word = at-either at (is_area_name word) (ok_or (sources_named areas word) (fault.UnknownArea at)) (ok_or (addresses_of word) (fault.BadWord at)) (at-ok_or at (sources_named areas word) (fault.UnknownArea at) refl) (at-ok_or at (addresses_of word) (fault.BadWord at) refl)

-- of a number of one byte
octet-at : (at : ℕ) (word : List ℕ) → IsAt at (octet_of at word)
octet-at at word = at-ok_or at (number_of word 255) (fault.BadWord at) refl

-- of a span of ports
ports-at : (at : ℕ) (word : List ℕ) → IsAt at (port_span_of at word)
ports-at at word = at-ok_or at (ports_of word) (fault.BadWord at) refl

-- of a span of DSCP values
dscp-at : (at : ℕ) (word : List ℕ) → IsAt at (dscp_values_of at word)
dscp-at at word = at-ok_or at (dscp_span_of word) (fault.BadWord at) refl

-- of an argument
argument-at : (areas : AreaList) (f : Field) (at : ℕ) (word : List ℕ) → IsAt at (argument_of areas f at word)
unfolding argument_of
argument-at areas field.Proto at word = at-bind at (octet_of at word) (λ value. pred.Proto value) (octet-at at word)
argument-at areas field.Src at word = at-bind at (sources_of areas at word) (λ sources. pred.Src sources) (sources-at areas at word)
argument-at areas field.Dst at word = at-bind at (sources_of areas at word) (λ sources. pred.Dst sources) (sources-at areas at word)
argument-at areas field.SrcPort at word = at-bind at (port_span_of at word) (λ value. pred.SrcPort value) (ports-at at word)
argument-at areas field.DstPort at word = at-bind at (port_span_of at word) (λ value. pred.DstPort value) (ports-at at word)
argument-at areas field.IcmpType at word = at-bind at (octet_of at word) (λ value. pred.IcmpType value) (octet-at at word)
argument-at areas field.IcmpCode at word = at-bind at (octet_of at word) (λ value. pred.IcmpCode value) (octet-at at word)
argument-at areas field.Dscp at word = at-bind at (dscp_values_of at word) (λ values. pred.Dscp values) (dscp-at at word)

-- a value of a word, and the words after it
abbrev with_rest : {A : Type 0} → Rest → Result A PredFault → Read A
with_rest rest r = r >>= λ x. Ok (x, rest)

-- a word that is judged by itself
onward-with_rest : {A : Type 0} (at : ℕ) (word : List ℕ) (words : Words) (r : Result A PredFault) → IsAt at r → IsOnward (rest_from at (word ∷ words)) (with_rest (rest_from (at + 1) words) r)
onward-with_rest at word words (Ok x) h = (omega arith, omega arith)
onward-with_rest at word words (Err f) h = λ m e. let same = h m e in (omega arith, omega arith)

-- an argument
onward-argument_at : (areas : AreaList) (f : Field) (at : ℕ) (words : Words) → IsOnward (rest_from at words) (argument_at areas f (rest_from at words))
unfolding argument_at
onward-argument_at areas f at [] = onward-unfinished Pred (rest_from at [])
onward-argument_at areas f at (word ∷ words) = onward-with_rest at word words (argument_of areas f at word) (argument-at areas f at word)

-- reading that stays where it is
module _ (rest : Rest) where
  -- a value without a step
  stays : {A : Type 0} (x : A) → IsOnward rest (Ok (x, rest))
  stays x = (omega arith, refl)

-- what a word begins, by its kind
onward-begun_as : (areas : AreaList) (at : ℕ) (word : List ℕ) (words : Words) (c : Option Pred) (f : Option Field) (o : Option Operator) → IsOnward (rest_from at (word ∷ words)) (begun_as areas at (rest_from (at + 1) words) c f o)
onward-begun_as areas at word words (Some p) f o = (omega arith, omega arith)
onward-begun_as areas at word words None (Some f) o =
    onward-trans (rest_from at (word ∷ words)) (rest_from (at + 1) words) (argument_at areas f (rest_from (at + 1) words) >>= λ p. Ok (begun.Whole p.0, p.1)) (omega arith) (omega arith)
    (onward-bind (rest_from (at + 1) words) (argument_at areas f (rest_from (at + 1) words)) (λ p. Ok (begun.Whole p.0, p.1)) (onward-argument_at areas f (at + 1) words) (λ p. stays p.1 (begun.Whole p.0)))
onward-begun_as areas at word words None None (Some o) = (omega arith, omega arith)
onward-begun_as areas at word words None None None = onward-here at word words Begun (fault.BadWord at) refl

-- what the next word begins
onward-begun_at : (areas : AreaList) (at : ℕ) (words : Words) → IsOnward (rest_from at words) (begun_at areas (rest_from at words))
unfolding begun_at
onward-begun_at areas at [] = onward-unfinished Begun (rest_from at [])
onward-begun_at areas at (word ∷ words) = onward-begun_as areas at word words (constant_of word) (field_of word) (operator_of word)

module _ (read : Rest → Read Pred) (h : (rest : Rest) → IsOnward rest (read rest)) where
  -- the operands of what is begun
  onward-completed : (b : Begun) (rest : Rest) → IsOnward rest (completed read b rest)
  onward-completed (begun.Whole p) rest = stays rest p
  onward-completed (begun.Open operator.Not) rest = onward-bind rest (read rest) (λ p. Ok (pred.Not p.0, p.1)) (h rest) (λ p. stays p.1 (pred.Not p.0))
  onward-completed (begun.Open operator.And) rest =
      onward-bind rest (read rest) (λ p. read p.1 >>= λ q. Ok (pred.And p.0 q.0, q.1)) (h rest)
      (λ p. onward-bind p.1 (read p.1) (λ q. Ok (pred.And p.0 q.0, q.1)) (h p.1) (λ q. stays q.1 (pred.And p.0 q.0)))
  onward-completed (begun.Open operator.Or) rest =
      onward-bind rest (read rest) (λ p. read p.1 >>= λ q. Ok (pred.Or p.0 q.0, q.1)) (h rest)
      (λ p. onward-bind p.1 (read p.1) (λ q. Ok (pred.Or p.0 q.0, q.1)) (h p.1) (λ q. stays q.1 (pred.Or p.0 q.0)))

-- a word where no level is left
abbrev too_deep : ℕ → Words → Read Pred
too_deep at words = word_in at words >>= λ word. Err (fault.TooDeep at)

-- a word where no level is left
onward-deep : (at : ℕ) (words : Words) → IsOnward (rest_from at words) (too_deep at words)
onward-deep at [] = onward-unfinished Pred (rest_from at [])
onward-deep at (word ∷ words) = onward-here at word words Pred (fault.TooDeep at) refl

-- a predicate
onward-pred_at : (areas : AreaList) (levels : ℕ) (rest : Rest) → IsOnward rest (pred_at areas levels rest)
unfolding pred_at
onward-pred_at areas zero rest = onward-deep rest.at rest.words
onward-pred_at areas (suc levels) rest =
    onward-bind rest (begun_at areas rest) (λ b. completed (pred_at areas levels) b.0 b.1) (onward-begun_at areas rest.at rest.words)
    (λ b. onward-completed (pred_at areas levels) (onward-pred_at areas levels) b.0 b.1)

-- ---- reading of words that begin alike

-- what is left begins at `end` or after it, or the fault is there
abbrev IsPast : {X : Type 0} → ℕ → Read X → Type 0
IsPast end (Ok p) = end ≤ p.1.at
IsPast end (Err f) = (m : ℕ) → fault_at f ≡ Some m → end ≤ m

-- what goes on from a place past the end stays past it
past-onward : {X : Type 0} (end : ℕ) (rest : Rest) (r : Read X) → end ≤ rest.at → IsOnward rest r → IsPast end r
past-onward end rest (Ok p) le h = let a : rest.at ≤ p.1.at = h.0 in omega arith
past-onward end rest (Err f) le h = λ m e. let a : rest.at ≤ m = (h m e).0 in omega arith

-- what goes on from a step past the end
past-bind : {A B : Type 0} (end : ℕ) (r : Read A) (k : A × Rest → Read B) → IsPast end r → ((p : A × Rest) → IsOnward p.1 (k p)) → IsPast end (r >>= k)
past-bind end (Ok p) k h g = past-onward end p.1 (k p) h (g p)
past-bind end (Err f) k h g = h

-- both readings have the same value, and what is left of the first words is the same
record IsBefore (X : Type 0) (end : ℕ) (back other : Words) (r s : Read X) : Type 0 where
  value : X
  at : ℕ
  front : Words
  first : r ≡ Ok (value, rest_from at (front ++ back))
  second : s ≡ Ok (value, rest_from at (front ++ other))
  ends : at + length front ≡ end

-- both readings have the same fault
record HaveFault (X : Type 0) (r s : Read X) : Type 0 where
  cause : PredFault
  first : r ≡ Err cause
  second : s ≡ Err cause

-- of words that begin alike up to `end`, both readings are the same up to there
abbrev AreAlike : (X : Type 0) → ℕ → Words → Words → Read X → Read X → Type 0
AreAlike X end back other r s = IsBefore X end back other r s ⊎ (HaveFault X r s ⊎ IsPast end r)

module _ (end : ℕ) (back other : Words) where
  -- a step that is alike and what goes on from it
  alike-bind : {A B : Type 0} (r s : Read A) (k : A × Rest → Read B) → AreAlike A end back other r s →
      ((x : A) (at : ℕ) (front : Words) → at + length front ≡ end → AreAlike B end back other (k (x, rest_from at (front ++ back))) (k (x, rest_from at (front ++ other)))) →
      ((p : A × Rest) → IsOnward p.1 (k p)) → AreAlike B end back other (r >>= k) (s >>= k)
  alike-bind r s k (inl b) g o = rw (b.first, b.second) (g b.value b.at b.front b.ends)
  alike-bind r s k (inr (inl f)) g o = inr (inl (record { cause = f.cause; first = rw f.first refl; second = rw f.second refl }))
  alike-bind r s k (inr (inr past)) g o = inr (inr (past-bind end r k past o))

  -- a value before the end
  alike-ok : {A : Type 0} (x : A) (at : ℕ) (front : Words) → at + length front ≡ end → AreAlike A end back other (Ok (x, rest_from at (front ++ back))) (Ok (x, rest_from at (front ++ other)))
  alike-ok x at front ends = inl (record { value = x; at = at; front = front; first = refl; second = refl; ends = ends })

  -- the same fault
  alike-err : {A : Type 0} (f : PredFault) → AreAlike A end back other (Err f) (Err f)
  alike-err f = inr (inl (record { cause = f; first = refl; second = refl }))

  -- a word that is judged by itself
  alike-with_rest : {A : Type 0} (at : ℕ) (front : Words) (r : Result A PredFault) → at + length front ≡ end → AreAlike A end back other (with_rest (rest_from at (front ++ back)) r) (with_rest (rest_from at (front ++ other)) r)
  alike-with_rest at front (Ok x) ends = alike-ok x at front ends
  alike-with_rest at front (Err f) ends = alike-err f

  -- an argument
  alike-argument_at : (areas : AreaList) (f : Field) (at : ℕ) (front : Words) → at + length front ≡ end → AreAlike Pred end back other (argument_at areas f (rest_from at (front ++ back))) (argument_at areas f (rest_from at (front ++ other)))
  unfolding argument_at
  alike-argument_at areas f at [] ends = inr (inr (past-onward end (rest_from at back) (argument_at areas f (rest_from at back)) (omega arith) (onward-argument_at areas f at back)))
  alike-argument_at areas f at (word ∷ front) ends = alike-with_rest (at + 1) front (argument_of areas f at word) (omega arith)

  -- what a word begins, by its kind
  alike-begun_as : (areas : AreaList) (start at : ℕ) (front : Words) (c : Option Pred) (f : Option Field) (o : Option Operator) → at + length front ≡ end → AreAlike Begun end back other (begun_as areas start (rest_from at (front ++ back)) c f o) (begun_as areas start (rest_from at (front ++ other)) c f o)
  alike-begun_as areas start at front (Some p) f o ends = alike-ok (begun.Whole p) at front ends
  alike-begun_as areas start at front None (Some f) o ends =
      alike-bind (argument_at areas f (rest_from at (front ++ back))) (argument_at areas f (rest_from at (front ++ other))) (λ p. Ok (begun.Whole p.0, p.1))
      (alike-argument_at areas f at front ends) (λ p at front ends. alike-ok (begun.Whole p) at front ends) (λ p. stays p.1 (begun.Whole p.0))
  alike-begun_as areas start at front None None (Some o) ends = alike-ok (begun.Open o) at front ends
  alike-begun_as areas start at front None None None ends = alike-err (fault.BadWord start)

  -- what the next word begins
  alike-begun_at : (areas : AreaList) (at : ℕ) (front : Words) → at + length front ≡ end → AreAlike Begun end back other (begun_at areas (rest_from at (front ++ back))) (begun_at areas (rest_from at (front ++ other)))
  unfolding begun_at
  alike-begun_at areas at [] ends = inr (inr (past-onward end (rest_from at back) (begun_at areas (rest_from at back)) (omega arith) (onward-begun_at areas at back)))
  alike-begun_at areas at (word ∷ front) ends = alike-begun_as areas at (at + 1) front (constant_of word) (field_of word) (operator_of word) (omega arith)

  module _ (read : Rest → Read Pred) (h : (rest : Rest) → IsOnward rest (read rest))
      (a : (at : ℕ) (front : Words) → at + length front ≡ end → AreAlike Pred end back other (read (rest_from at (front ++ back))) (read (rest_from at (front ++ other)))) where
    -- two operands
    alike-two : (join : Pred → Pred → Pred) (at : ℕ) (front : Words) → at + length front ≡ end →
        AreAlike Pred end back other (read (rest_from at (front ++ back)) >>= λ p. read p.1 >>= λ q. Ok (join p.0 q.0, q.1)) (read (rest_from at (front ++ other)) >>= λ p. read p.1 >>= λ q. Ok (join p.0 q.0, q.1))
    alike-two join at front ends =
        alike-bind (read (rest_from at (front ++ back))) (read (rest_from at (front ++ other))) (λ p. read p.1 >>= λ q. Ok (join p.0 q.0, q.1)) (a at front ends)
        (λ p at front ends. alike-bind (read (rest_from at (front ++ back))) (read (rest_from at (front ++ other))) (λ q. Ok (join p q.0, q.1)) (a at front ends)
        (λ q at front ends. alike-ok (join p q) at front ends) (λ q. stays q.1 (join p q.0)))
        (λ p. onward-bind p.1 (read p.1) (λ q. Ok (join p.0 q.0, q.1)) (h p.1) (λ q. stays q.1 (join p.0 q.0)))

    -- the operands of what is begun
    alike-completed : (b : Begun) (at : ℕ) (front : Words) → at + length front ≡ end → AreAlike Pred end back other (completed read b (rest_from at (front ++ back))) (completed read b (rest_from at (front ++ other)))
    alike-completed (begun.Whole p) at front ends = alike-ok p at front ends
    alike-completed (begun.Open operator.Not) at front ends =
        alike-bind (read (rest_from at (front ++ back))) (read (rest_from at (front ++ other))) (λ p. Ok (pred.Not p.0, p.1)) (a at front ends)
        (λ p at front ends. alike-ok (pred.Not p) at front ends) (λ p. stays p.1 (pred.Not p.0))
    alike-completed (begun.Open operator.And) at front ends = alike-two (λ p q. pred.And p q) at front ends
    alike-completed (begun.Open operator.Or) at front ends = alike-two (λ p q. pred.Or p q) at front ends

  -- a predicate
  alike-pred_at : (areas : AreaList) (levels at : ℕ) (front : Words) → at + length front ≡ end → AreAlike Pred end back other (pred_at areas levels (rest_from at (front ++ back))) (pred_at areas levels (rest_from at (front ++ other)))
  unfolding pred_at
  alike-pred_at areas levels at [] ends = inr (inr (past-onward end (rest_from at back) (pred_at areas levels (rest_from at back)) (omega arith) (onward-pred_at areas levels (rest_from at back))))
  alike-pred_at areas zero at (word ∷ front) ends = alike-err (fault.TooDeep at)
  alike-pred_at areas (suc levels) at (word ∷ front) ends =
      alike-bind (begun_at areas (rest_from at (word ∷ (front ++ back)))) (begun_at areas (rest_from at (word ∷ (front ++ other)))) (λ b. completed (pred_at areas levels) b.0 b.1)
      (alike-begun_at areas at (word ∷ front) ends)
      (λ b at front ends. alike-completed (pred_at areas levels) (onward-pred_at areas levels) (alike-pred_at areas levels) b at front ends)
      (λ b. onward-completed (pred_at areas levels) (onward-pred_at areas levels) b.0 b.1)

-- ---- the whole

-- the whole, once its predicate is read
abbrev whole : Read Pred → Result Pred PredFault
whole r = r >>= λ p. nothing_after p.0 p.1.at p.1.words

-- a fault after the whole is at the next word
extra_at : (p : Pred) (at : ℕ) (words : Words) (f : PredFault) (n : ℕ) → nothing_after p at words ≡ Err f → fault_at f ≡ Some n → (n ≡ at) × (0 < length words)
extra_at p at [] f n e h = cc
extra_at p at (word ∷ words) f n e h =
    let same : fault.Extra at ≡ f = cc in
    let place : Some at ≡ Some n = ap fault_at same ∙ h in
    let here : n ≡ at = cc in
    (here, omega arith)

-- the whole, by what its predicate gives
within_read : (words : Words) (r : Read Pred) (f : PredFault) (n : ℕ) → IsOnward (rest_from 0 words) r → whole r ≡ Err f → fault_at f ≡ Some n → n < length words
within_read words (Ok p) f n o e h =
    let extra = extra_at p.0 p.1.at p.1.words f n e h in
    let same : p.1.at + length p.1.words ≡ 0 + length words = o.1 in
    let here : n ≡ p.1.at = extra.0 in
    let some : 0 < length p.1.words = extra.1 in
    omega arith
within_read words (Err g) f n o e h = let same : g ≡ f = cc in let last : n < 0 + length words = (o n (rw same h)).1 in omega arith

-- a fault is at a word that there is
pub fault_within : (areas : AreaList) (words : List (List ℕ)) (f : PredFault) (n : ℕ) → pred_of areas words ≡ Err f → fault_at f ≡ Some n → n < length words
unfolding pred_of
fault_within areas words f n e h = within_read words (pred_at areas NESTING_LIMIT (rest_from 0 words)) f n (onward-pred_at areas NESTING_LIMIT (rest_from 0 words)) e h

module _ (n : ℕ) (back other : Words) (f : PredFault) (h : fault_at f ≡ Some n) where
  -- a word too much is the same for both
  extra_both : (p : Pred) (at : ℕ) (front : Words) → at + length front ≡ n + 1 → nothing_after p at (front ++ back) ≡ Err f → nothing_after p at (front ++ other) ≡ Err f
  extra_both p at [] ends e = let place : n ≡ at = (extra_at p at back f n e h).0 in absurd (omega arith)
  extra_both p at (word ∷ front) ends e = e

  -- what is past the end has no fault before it
  past_neither : (r : Read Pred) → IsPast (n + 1) r → whole r ≡ Err f → ⊥
  past_neither (Ok p) past e = let place : n ≡ p.1.at = (extra_at p.0 p.1.at p.1.words f n e h).0 in omega arith
  past_neither (Err g) past e = let same : g ≡ f = cc in let late : n + 1 ≤ n = past n (rw same h) in omega arith

  -- readings that are alike have the same fault
  same_whole : (r s : Read Pred) → AreAlike Pred (n + 1) back other r s → whole r ≡ Err f → whole s ≡ Err f
  same_whole r s (inl b) e =
      let one : nothing_after b.value b.at (b.front ++ back) ≡ Err f = rw b.first at e in
      rw b.second (extra_both b.value b.at b.front b.ends one)
  same_whole r s (inr (inl g)) e = let one : Err g.cause ≡ Err f = rw g.first at e in rw g.second one
  same_whole r s (inr (inr past)) e = absurd (past_neither r past e)

  -- words that are a common first part and others
  same_fronts : (areas : AreaList) (front : Words) → length front ≡ n + 1 → pred_of areas (front ++ back) ≡ Err f → pred_of areas (front ++ other) ≡ Err f
  unfolding pred_of
  same_fronts areas front long e =
      same_whole (pred_at areas NESTING_LIMIT (rest_from 0 (front ++ back))) (pred_at areas NESTING_LIMIT (rest_from 0 (front ++ other)))
      (alike-pred_at (n + 1) back other areas NESTING_LIMIT 0 front (omega arith)) e

-- words with the same first ones have the same fault
pub fault_by_first_words : (areas : AreaList) (words others : List (List ℕ)) (f : PredFault) (n : ℕ) → pred_of areas words ≡ Err f → fault_at f ≡ Some n → take (n + 1) others ≡ take (n + 1) words → pred_of areas others ≡ Err f
fault_by_first_words areas words others f n e h same =
    let within : n < length words = fault_within areas words f n e h in
    let long : length (take (n + 1) words) ≡ n + 1 = length-take-le (n + 1) words (omega arith) in
    let one : take (n + 1) words ++ drop (n + 1) words ≡ words = take-append-drop (n + 1) words in
    let two : take (n + 1) others ++ drop (n + 1) others ≡ others = take-append-drop (n + 1) others in
    let start : pred_of areas (take (n + 1) words ++ drop (n + 1) words) ≡ Err f = ap (pred_of areas) one ∙ e in
    let there = same_fronts n (drop (n + 1) words) (drop (n + 1) others) f h areas (take (n + 1) words) long start in
    ap (pred_of areas) (sym two ∙ ap (λ front. front ++ drop (n + 1) others) same) ∙ there

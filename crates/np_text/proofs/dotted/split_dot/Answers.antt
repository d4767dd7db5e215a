use Rattle.std.proofs.Common.{◌≡◌, ℕ, ◌<◌, List, [], ◌∷◌, length, Option, Some, None}
use Rattle.std.specs.Borrow.{Bor}
use Rattle.std.specs.List.{slice_split, position_or_len, before_first, after_first}
use Rattle.std.specs.Option.{IfNone, IfSome, OnSome}
use Rattle.std.proofs.lemmas.List.Splits.{slice_split_first}
use Rattle.np_text.specs.Addresses.{is_dot}
use Rattle.np_text.proofs.AddressLaws.{slice_split-one}
use Rattle.np_text.proofs.dotted.split_dot.Goals as goal

no_dot : {A : Type 0} (word : List ℕ) (r : Option A) → IfNone r (position_or_len is_dot word ≡ length word) → IfNone r (slice_split is_dot word ≡ word ∷ [])
no_dot word None h = slice_split-one is_dot word h
no_dot word (Some x) h = tt

at_dot : (word : List ℕ) (r : Option (Bor (List ℕ) × Bor (List ℕ))) → OnSome r (position_or_len is_dot word < length word) → IfSome r (λ x. x.0.now ≡ before_first is_dot word) → IfSome r (λ x. x.1.now ≡ after_first is_dot word) → IfSome r (λ x. slice_split is_dot word ≡ x.0.now ∷ slice_split is_dot x.1.now)
at_dot word None found before after = tt
at_dot word (Some x) found before after = rw (before, after) (slice_split_first is_dot word 0 found)

pub returns-clause-none : goal.returns-clause-none
returns-clause-none c = no_dot c.args.word.now c.split_once.result c.split_once.ensures.none

pub returns-clause-parts : goal.returns-clause-parts
returns-clause-parts c = at_dot c.args.word.now c.split_once.result c.split_once.ensures.found c.split_once.ensures.before c.split_once.ensures.after

use Rattle.std.proofs.Common.{◌≡◌, ℕ, ◌<◌, List, [], ◌∷◌, length, Option, Some, None}
use Rattle.std.specs.Borrow.{Bor}
use Rattle.std.specs.List.{slice_split, position_or_len, before_first, after_first}
use Rattle.std.specs.Option.{IfNone, IfSome, OnSome}
use Rattle.std.proofs.lemmas.List.Splits.{slice_split_first}
use Rattle.np_pred.specs.Patterns.{is_comma}
use Rattle.np_text.proofs.AddressLaws.{slice_split-one}
use Rattle.np_pred.proofs.address_lists.split_comma.Goals as goal

no_comma : {A : Type 0} (word : List ℕ) (r : Option A) → IfNone r (position_or_len is_comma word ≡ length word) → IfNone r (slice_split is_comma word ≡ word ∷ [])
no_comma word None h = slice_split-one is_comma word h
no_comma word (Some x) h = tt

at_comma : (word : List ℕ) (r : Option (Bor (List ℕ) × Bor (List ℕ))) → OnSome r (position_or_len is_comma word < length word) → IfSome r (λ x. x.0.now ≡ before_first is_comma word) → IfSome r (λ x. x.1.now ≡ after_first is_comma word) → IfSome r (λ x. slice_split is_comma word ≡ x.0.now ∷ slice_split is_comma x.1.now)
at_comma word None found before behind = tt
at_comma word (Some x) found before behind = rw (before, behind) (slice_split_first is_comma word 0 found)

pub returns-clause-none : goal.returns-clause-none
returns-clause-none c = no_comma c.args.word.now c.split_once.result c.split_once.ensures.none

pub returns-clause-parts : goal.returns-clause-parts
returns-clause-parts c = at_comma c.args.word.now c.split_once.result c.split_once.ensures.found c.split_once.ensures.before c.split_once.ensures.after

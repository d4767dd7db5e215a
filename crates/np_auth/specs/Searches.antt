-- What the check looks for among the least headers and their passages, and what it finds.
use Rattle.std.specs.Prelude.{◌≡◌, ℕ, ◌<◌, Bool, true, ◌&&◌, List, length, slice_index_or, Option, None, Some}
use Rattle.np_space.specs.Header.{zeros}
use Rattle.np_space.specs.declared.headers.Header.{Header}
use Rattle.np_pred.specs.Meaning.{pred_holds}
use Rattle.np_pred.specs.declared.predicate.Pred.{Pred}
use Rattle.np_atomset.specs.AtomSet.{has_member}
use Rattle.np_net.specs.Plan.{Plan}
use Rattle.np_ipsec.specs.Searching.{IsFirstListed}
use Rattle.np_ipsec.specs.Steps.{area_has}
use Rattle.np_auth.specs.Passages.{passage_at}
use Rattle.np_auth.specs.declared.marking.Passage.{Passage}

-- a packet of the predicate that an area may send
abbrev pub is_sent : Plan → Pred → ℕ → Header → Bool
is_sent net pred a h = pred_holds pred h && area_has net a h

-- the header at a place is one that an area sends
abbrev pub IsSentAt : Plan → Pred → ℕ → List Header → ℕ → Type 0
IsSentAt net pred a headers n = is_sent net pred a (slice_index_or headers n zeros) ≡ true

-- the header at a place is in a set, and the predicate holds for it
abbrev pub IsMeantIn : List Bool → List Header → Pred → ℕ → Type 0
IsMeantIn set headers pred n = (has_member set n && pred_holds pred (slice_index_or headers n zeros)) ≡ true

-- no header of the predicate passes at one of the first passages
abbrev pub NonePasses : List Passage → List Header → Pred → ℕ → Type 0
NonePasses list headers pred end = (m : ℕ) → m < end → (n : ℕ) → n < length headers → IsMeantIn (passage_at list m).passing headers pred n → ⊥

-- the first passage where a header of the predicate passes, with the first such header
pub record IsFirstPassage (list : List Passage) (headers : List Header) (pred : Pred) (i : ℕ) (mark : Option ℕ) (h : Header) : Type 0 where
  pub place : ℕ
  pub within : place < length list
  pub interface : i ≡ (passage_at list place).interface
  pub mark_is : mark ≡ (passage_at list place).mark
  pub listed : IsFirstListed (IsMeantIn (passage_at list place).passing headers pred) headers h
  pub earlier : NonePasses list headers pred place

-- it was found, or none of them passes anywhere
abbrev pub FindsPassage : List Passage → List Header → Pred → Option (ℕ × Option ℕ × Header) → Type 0
FindsPassage list headers pred None = NonePasses list headers pred (length list)
FindsPassage list headers pred (Some found) = IsFirstPassage list headers pred found.0 found.1 found.2

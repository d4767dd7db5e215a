-- What the inward rules of a network let pass of some headers, wherever a bare packet with them may be forged.
use Rattle.std.specs.Prelude.{◌≡◌, ◌⊎◌, ℕ, ◌+◌, ◌<◌, ◌≤◌, Bool, true, false, List, [], length, Option, Some, None, slice_index_or}
use Rattle.np_space.specs.Header.{zeros}
use Rattle.np_space.specs.declared.headers.Header.{Header}
use Rattle.np_atomset.specs.AtomSet.{has_member}
use Rattle.np_net.specs.Path.{device_of}
use Rattle.np_net.specs.Plan.{Plan}
use Rattle.np_net.specs.declared.associations.InAction.{InAction}
use Rattle.np_net.specs.declared.associations.InAction.TheVariants as ins
use Rattle.np_ipsec.specs.Tables.{in_action_of, is_trusted_device}
use Rattle.np_ipsec.specs.declared.tables.Top.TheVariants as tops
use Rattle.np_auth.specs.Rules.{IsForgeable}
use Rattle.np_auth.specs.declared.marking.Passage.{Passage}
use Rattle.np_auth.specs.declared.marking.Passages.{Passages}

-- an inward action lets a packet pass
abbrev pub is_bypass : InAction → Bool
is_bypass ins.Bypass = true
is_bypass ins.Discard = false

-- at the interface, of a trusted device, a bare packet with this mark may be forged
pub record IsDoubtful (net : Plan) (i : ℕ) (mark : Option ℕ) : Type 0 where
  pub within : i < length net.interfaces
  pub trusted : is_trusted_device net (device_of net.interfaces i) ≡ true
  pub forgeable : IsForgeable net i mark

-- the set has those of the headers with which a bare packet passes the interface with the mark
pub record ArePassing (net : Plan) (headers : List Header) (i : ℕ) (mark : Option ℕ) (set : List Bool) : Type 0 where
  pub size : length set ≡ length headers
  pub exact : (n : ℕ) → n < length headers → has_member set n ≡ is_bypass (in_action_of net i (tops.Plain (slice_index_or headers n zeros)) mark)

-- the set has those of the first of the headers, up to an end, and none of the others
pub record ArePassingTo (net : Plan) (headers : List Header) (i : ℕ) (mark : Option ℕ) (end : ℕ) (set : List Bool) : Type 0 where
  pub size : length set ≡ length headers
  pub exact : (n : ℕ) → n < end → has_member set n ≡ is_bypass (in_action_of net i (tops.Plain (slice_index_or headers n zeros)) mark)
  pub others : (n : ℕ) → end ≤ n → has_member set n ≡ false

-- ---- the order

-- a mark comes before another: no mark before every association, and these in their order
abbrev pub ComesBefore : Option ℕ → Option ℕ → Type 0
ComesBefore None None = ⊥
ComesBefore None (Some k) = Unit {0}
ComesBefore (Some n) None = ⊥
ComesBefore (Some n) (Some k) = n < k

-- an interface with a mark stands before another with another: the interfaces in their order, and the marks of each in theirs
abbrev pub StandsBefore : ℕ → Option ℕ → ℕ → Option ℕ → Type 0
StandsBefore i mark j other = (i < j) ⊎ ((i ≡ j) × ComesBefore mark other)

-- ---- the list

-- the passage at a place
abbrev pub passage_at : List Passage → ℕ → Passage
passage_at list n = slice_index_or list n record { interface = 0; mark = None; passing = [] }

-- a passage is one where a packet may be forged, with the headers that pass there
pub record IsPassage (net : Plan) (headers : List Header) (passage : Passage) : Type 0 where
  pub doubtful : IsDoubtful net passage.interface passage.mark
  pub passing : ArePassing net headers passage.interface passage.mark passage.passing

-- the list has the passage of the interface and the mark
pub record HasPassage (list : List Passage) (i : ℕ) (mark : Option ℕ) : Type 0 where
  pub place : ℕ
  pub within : place < length list
  pub interface : (passage_at list place).interface ≡ i
  pub mark_is : (passage_at list place).mark ≡ mark

-- The list has, in their order, the passages of those interfaces and marks with which a bare packet may be forged and that stand before these.
pub record AreUpTo (net : Plan) (headers : List Header) (i : ℕ) (mark : Option ℕ) (list : List Passage) : Type 0 where
  pub each : (n : ℕ) → n < length list → IsPassage net headers (passage_at list n)
  pub ascending : (m n : ℕ) → m < n → n < length list → StandsBefore (passage_at list m).interface (passage_at list m).mark (passage_at list n).interface (passage_at list n).mark
  pub below : (n : ℕ) → n < length list → StandsBefore (passage_at list n).interface (passage_at list n).mark i mark
  pub all : (j : ℕ) (other : Option ℕ) → IsDoubtful net j other → StandsBefore j other i mark → HasPassage list j other

-- the next mark
abbrev pub mark_after : Option ℕ → Option ℕ
mark_after None = Some 0
mark_after (Some k) = Some (k + 1)

-- The passages of a network: for each interface of a trusted device and each mark with which a bare packet may be forged there, those of the
-- headers with which it passes. They stand in the order of the interfaces, and at each in that of the marks, no mark first.
pub record ArePassages (net : Plan) (headers : List Header) (passages : Passages) : Type 0 where
  pub each : (n : ℕ) → n < length passages.list → IsPassage net headers (passage_at passages.list n)
  pub ascending : (m n : ℕ) → m < n → n < length passages.list →
      StandsBefore (passage_at passages.list m).interface (passage_at passages.list m).mark (passage_at passages.list n).interface (passage_at passages.list n).mark
  pub all : (i : ℕ) (mark : Option ℕ) → IsDoubtful net i mark → HasPassage passages.list i mark

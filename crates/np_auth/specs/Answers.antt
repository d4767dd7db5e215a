-- What a check of an authentication goal answers: that the local rules hold, or the first one that doesn't, with the first place and the least header that show it.
use Rattle.std.specs.Prelude.{◌≡◌, ◌⊎◌, ℕ, ◌<◌, false, length, Option, slice_index_or}
use Rattle.np_space.specs.Header.{IsLeastOf}
use Rattle.np_space.specs.declared.headers.Header.{Header}
use Rattle.np_pred.specs.declared.predicate.Pred.{Pred}
use Rattle.np_net.specs.Plan.{Plan}
use Rattle.np_net.specs.declared.associations.IpGoal.TheVariants as goals
use Rattle.np_ipsec.specs.Goals.{IsForeign}
use Rattle.np_ipsec.specs.Searching.{IsFirst}
use Rattle.np_ipsec.specs.Steps.{area_at}
use Rattle.np_auth.specs.declared.answers.Answer.{Answer}
use Rattle.np_auth.specs.declared.answers.Answer.TheVariants.{Yes, No}
use Rattle.np_auth.specs.declared.answers.Broken.{Broken}
use Rattle.np_auth.specs.declared.answers.Broken.TheVariants.{A0Area, A0Interface, A1, A2}
use Rattle.np_auth.specs.Passages.{ComesBefore}
use Rattle.np_auth.specs.Rules.{AuthRules, HasSourceToo, IsTrustedArea, LetsForged}

-- the goal of this number is an authentication goal with these areas and this predicate
pub record IsAuthGoal (net : Plan) (goal from here : ℕ) (pred : Pred) : Type 0 where
  pub within : goal < length net.ipgoals
  pub stated : slice_index_or net.ipgoals goal (goals.Auth from here pred) ≡ goals.Auth from here pred

-- it is an authentication goal
abbrev pub IsAuth : Plan → ℕ → Type 0
IsAuth net goal = (from : ℕ) × (here : ℕ) × (pred : Pred) × IsAuthGoal net goal from here pred

-- ---- A0

-- both areas of the goal are trusted
pub record AreBothTrusted (net : Plan) (from here : ℕ) : Type 0 where
  pub from_trusted : IsTrustedArea net from
  pub here_trusted : IsTrustedArea net here

-- of the areas of the goal the first that isn't trusted: the one that packets come from, or else the other
abbrev pub IsFirstUntrusted : Plan → ℕ → ℕ → ℕ → Type 0
IsFirstUntrusted net from here a =
    (((area_at net from).trusted ≡ false) × (a ≡ from)) ⊎ (IsTrustedArea net from × ((area_at net here).trusted ≡ false) × (a ≡ here))

-- rule A0 holds
pub record HoldsA0 (net : Plan) (from here : ℕ) : Type 0 where
  pub areas : AreBothTrusted net from here
  pub own : (i : ℕ) → IsForeign net i → ⊥

-- ---- A1

-- rule A1 holds
abbrev pub HoldsA1 : Plan → ℕ → Pred → Type 0
HoldsA1 net from pred = (a : ℕ) (h : Header) → HasSourceToo net from pred a h → ⊥

-- the first area where it doesn't, with the least header there
pub record IsFirstSource (net : Plan) (from : ℕ) (pred : Pred) (a : ℕ) (h : Header) : Type 0 where
  pub least : IsLeastOf (HasSourceToo net from pred a) h
  pub first : (b : ℕ) (k : Header) → b < a → HasSourceToo net from pred b k → ⊥

-- ---- A2

-- the first mark with which an interface lets a bare packet of the predicate pass, with the least such packet
pub record IsFirstMark (net : Plan) (pred : Pred) (i : ℕ) (mark : Option ℕ) (h : Header) : Type 0 where
  pub least : IsLeastOf (LetsForged net pred i mark) h
  pub first : (earlier : Option ℕ) (k : Header) → ComesBefore earlier mark → LetsForged net pred i earlier k → ⊥

-- no bare packet of the predicate passes an interface with a mark with which it must not
abbrev pub HoldsA2At : Plan → Pred → ℕ → Type 0
HoldsA2At net pred i = (mark : Option ℕ) (h : Header) → LetsForged net pred i mark h → ⊥

-- rule A2 holds
abbrev pub HoldsA2 : Plan → Pred → Type 0
HoldsA2 net pred = (i : ℕ) → HoldsA2At net pred i

-- the first interface where it doesn't, with the first mark there
pub record IsFirstForged (net : Plan) (pred : Pred) (i : ℕ) (mark : Option ℕ) (h : Header) : Type 0 where
  pub marked : IsFirstMark net pred i mark h
  pub first : (j : ℕ) (other : Option ℕ) (k : Header) → j < i → LetsForged net pred j other k → ⊥

-- ---- the answers

-- the first rule that doesn't hold, with what shows it
abbrev pub IsBroken : Plan → ℕ → ℕ → Pred → Broken → Type 0
IsBroken net from here pred (A0Area a) = IsFirstUntrusted net from here a
IsBroken net from here pred (A0Interface i) = AreBothTrusted net from here × IsFirst (IsForeign net) i
IsBroken net from here pred (A1 a h) = HoldsA0 net from here × IsFirstSource net from pred a h
IsBroken net from here pred (A2 i mark h) = HoldsA0 net from here × HoldsA1 net from pred × IsFirstForged net pred i mark h

-- the answer is right
abbrev pub IsAnswer : Plan → ℕ → ℕ → Pred → Answer → Type 0
IsAnswer net from here pred Yes = AuthRules net from here pred
IsAnswer net from here pred (No broken) = IsBroken net from here pred broken

-- no two answers are right of one goal
abbrev pub AnswersAreUnique : Type 0
AnswersAreUnique = (net : Plan) (from here : ℕ) (pred : Pred) (x y : Answer) → IsAnswer net from here pred x → IsAnswer net from here pred y → x ≡ y

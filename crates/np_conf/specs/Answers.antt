-- What the answer on a confidentiality goal says: that the local rules hold, or the first that doesn't and where.
use Rattle.std.specs.Prelude.{◌≡◌, ℕ, true, false, slice_index_or}
use Rattle.np_space.specs.Header.{IsLeastOf}
use Rattle.np_space.specs.declared.headers.Header.{Header}
use Rattle.np_pred.specs.declared.predicate.Pred.{Pred}
use Rattle.np_pred.specs.declared.predicate.Pred.TheVariants as predicates
use Rattle.np_net.specs.Plan.{Plan}
use Rattle.np_net.specs.declared.associations.IpGoal.{IpGoal}
use Rattle.np_net.specs.declared.associations.IpGoal.TheVariants as goals
use Rattle.np_ipsec.specs.Goals.{IsForeign}
use Rattle.np_ipsec.specs.Searching.{IsFirst}
use Rattle.np_ipsec.specs.Steps.{area_at}
use Rattle.np_conf.specs.Rules.{ConfRules, LetsOutBare, LetsOutUnder}
use Rattle.np_conf.specs.declared.answers.Answer.{Answer}
use Rattle.np_conf.specs.declared.answers.Answer.TheVariants.{Yes, No}
use Rattle.np_conf.specs.declared.answers.Broken.{Broken}
use Rattle.np_conf.specs.declared.answers.Broken.TheVariants.{K0Area, K0Interface, K1, K2}

-- ---- goals

-- the IPsec goal of this number
abbrev pub ipgoal_at : Plan → ℕ → IpGoal
ipgoal_at net n = slice_index_or net.ipgoals n (goals.Conf 0 predicates.Nothing)

-- a goal is on confidentiality
abbrev pub IsConf : IpGoal → Type 0
IsConf (goals.Auth from at pred) = ⊥
IsConf (goals.Conf from pred) = Unit {0}

-- ---- the rules, one after another

-- K0: the area is trusted, and each interface on a trusted area is of a trusted device
pub record KeepsInside (net : Plan) (from : ℕ) : Type 0 where
  pub from_trusted : (area_at net from).trusted ≡ true
  pub own : (i : ℕ) → IsForeign net i → ⊥

-- K1: no bare own packet goes out
abbrev pub KeepsBare : Plan → ℕ → Pred → Type 0
KeepsBare net from pred = (i : ℕ) (h : Header) → LetsOutBare net from pred i h → ⊥

-- some bare own packet goes out at the interface
abbrev pub LetsSomeBare : Plan → ℕ → Pred → ℕ → Type 0
LetsSomeBare net from pred i = (h : Header) × LetsOutBare net from pred i h

-- some packet goes out at the interface under an association with which it may be readable
abbrev pub LetsSomeUnder : Plan → ℕ → Pred → ℕ → Type 0
LetsSomeUnder net from pred i = (k : ℕ) × LetsOutUnder net from pred i k

-- ---- answers

-- K0 doesn't hold: the area isn't trusted
pub record BreaksByArea (net : Plan) (from a : ℕ) : Type 0 where
  pub same : a ≡ from
  pub untrusted : (area_at net a).trusted ≡ false

-- K0 doesn't hold: the area is trusted, and this is the first interface on a trusted area that is of a device that isn't
pub record BreaksByInterface (net : Plan) (from i : ℕ) : Type 0 where
  pub from_trusted : (area_at net from).trusted ≡ true
  pub first : IsFirst (IsForeign net) i

-- K1 doesn't hold, and K0 does: this is the first interface where a bare own packet goes out, with the least header there
pub record BreaksBare (net : Plan) (from : ℕ) (pred : Pred) (i : ℕ) (h : Header) : Type 0 where
  pub inside : KeepsInside net from
  pub first : IsFirst (LetsSomeBare net from pred) i
  pub least : IsLeastOf (LetsOutBare net from pred i) h

-- K2 doesn't hold, and K0 and K1 do: this is the first interface where a packet goes out under an association with which it may be readable,
-- and there the first such association
pub record BreaksUnder (net : Plan) (from : ℕ) (pred : Pred) (i k : ℕ) : Type 0 where
  pub inside : KeepsInside net from
  pub bare : KeepsBare net from pred
  pub first : IsFirst (LetsSomeUnder net from pred) i
  pub least : IsFirst (LetsOutUnder net from pred i) k

-- the first rule that doesn't hold, and where
abbrev pub IsFirstBroken : Plan → ℕ → Pred → Broken → Type 0
IsFirstBroken net from pred (K0Area a) = BreaksByArea net from a
IsFirstBroken net from pred (K0Interface i) = BreaksByInterface net from i
IsFirstBroken net from pred (K1 i h) = BreaksBare net from pred i h
IsFirstBroken net from pred (K2 i k) = BreaksUnder net from pred i k

-- the answer for packets of a predicate from an area
abbrev pub IsAnswer : Plan → ℕ → Pred → Answer → Type 0
IsAnswer net from pred Yes = ConfRules net from pred
IsAnswer net from pred (No broken) = IsFirstBroken net from pred broken

-- the answer on a goal
abbrev pub IsAnswerTo : Plan → IpGoal → Answer → Type 0
IsAnswerTo net (goals.Auth from at pred) answer = ⊥
IsAnswerTo net (goals.Conf from pred) answer = IsAnswer net from pred answer

-- the local rules of a goal hold
abbrev pub KeepsRules : Plan → IpGoal → Type 0
KeepsRules net (goals.Auth from at pred) = ⊥
KeepsRules net (goals.Conf from pred) = ConfRules net from pred

-- there is one answer at most
abbrev pub AnswersAreUnique : Type 0
AnswersAreUnique = (net : Plan) (from : ℕ) (pred : Pred) (first second : Answer) → IsAnswer net from pred first → IsAnswer net from pred second → first ≡ second

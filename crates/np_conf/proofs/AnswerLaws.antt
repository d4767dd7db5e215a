-- Answers exclude each other.
use Rattle.std.proofs.Common.{◌≡◌, ◌∙◌, ℕ, Bool, true, false, inl, inr, refl, sym, ap, subst, arith}
use Rattle.std.specs.Prelude.{◌↔◌}
use Rattle.std.proofs.lemmas.Bool.{cases_lt}
use Rattle.np_space.specs.Header.{IsLeastOf}
use Rattle.np_space.specs.declared.headers.Header.{Header}
use Rattle.np_space.proofs.OrderLemmas.{le_both_ways}
use Rattle.np_pred.specs.declared.predicate.Pred.{Pred}
use Rattle.np_net.specs.Plan.{Plan}
use Rattle.np_net.specs.declared.associations.IpGoal.{IpGoal}
use Rattle.np_net.specs.declared.associations.IpGoal.TheVariants as goals
use Rattle.np_ipsec.specs.Goals.{IsForeign}
use Rattle.np_ipsec.specs.Searching.{IsFirst}
use Rattle.np_ipsec.specs.Steps.{area_at}
use Rattle.np_ipsec.specs.Trajectories.{IsSafe}
use Rattle.np_conf.specs.Answers.{AnswersAreUnique, BreaksBare, BreaksByArea, BreaksUnder, IsAnswer, IsAnswerTo, IsFirstBroken, KeepsRules, LetsSomeBare, LetsSomeUnder}
use Rattle.np_conf.specs.Rules.{ConfRules, LetsOutBare, LetsOutUnder}
use Rattle.np_conf.specs.declared.answers.Answer.{Answer}
use Rattle.np_conf.specs.declared.answers.Answer.TheVariants.{Yes, No}
use Rattle.np_conf.specs.declared.answers.Broken.{Broken}
use Rattle.np_conf.specs.declared.answers.Broken.TheVariants.{K0Area, K0Interface, K1, K2}
use Rattle.np_conf.proofs.SoundLaws.{rules_are_sound}

-- ---- first places and least headers are unique

-- of two numbers that are first, neither is below the other
same_first : (P : ℕ → Type 0) (n m : ℕ) → IsFirst P n → IsFirst P m → n ≡ m
same_first P n m a b = elim (cases_lt n m) [
  | inl lt ↦ absurd (b.first n lt a.holds)
  | inr upto ↦ elim (cases_lt m n) [
    | inl lt ↦ absurd (a.first m lt b.holds)
    | inr above ↦ omega arith
  ]
]

-- of two headers that are least, neither is before the other
same_least : (P : Header → Type 0) (x y : Header) → IsLeastOf P x → IsLeastOf P y → x ≡ y
same_least P x y a b = le_both_ways x y (a.least y b.has) (b.least x a.has)

-- nothing is true and false
not_both : (b : Bool) → b ≡ true → b ≡ false → ⊥
not_both b t f = cc

module _ (net : Plan) (from : ℕ) (pred : Pred) where
  -- ---- a rule that is broken isn't kept

  -- the area where packets start isn't both
  not_by_area : (a : ℕ) → (area_at net from).trusted ≡ true → BreaksByArea net from a → ⊥
  not_by_area a trusted breaks = not_both (area_at net from).trusted trusted (subst (λ n. (area_at net n).trusted ≡ false) breaks.same breaks.untrusted)

  -- where the rules hold, none is broken
  none_broken : (broken : Broken) → ConfRules net from pred → IsFirstBroken net from pred broken → ⊥
  none_broken (K0Area a) rules breaks = not_by_area a rules.from_trusted breaks
  none_broken (K0Interface i) rules breaks = rules.own i breaks.first.holds
  none_broken (K1 i h) rules breaks = rules.bare i h breaks.least.has
  none_broken (K2 i k) rules breaks = rules.under i k breaks.least.holds

  -- ---- one rule is the first that is broken, at one place

  same_bare : (i j : ℕ) (h l : Header) → BreaksBare net from pred i h → BreaksBare net from pred j l → K1 i h ≡ K1 j l
  same_bare i j h l a b =
      let place : i ≡ j = same_first (LetsSomeBare net from pred) i j a.first b.first in
      let least : h ≡ l = same_least (LetsOutBare net from pred j) h l (subst (λ n. IsLeastOf (LetsOutBare net from pred n) h) place a.least) b.least in
      λ t. K1 (place t) (least t)

  same_under : (i j k m : ℕ) → BreaksUnder net from pred i k → BreaksUnder net from pred j m → K2 i k ≡ K2 j m
  same_under i j k m a b =
      let place : i ≡ j = same_first (LetsSomeUnder net from pred) i j a.first b.first in
      let least : k ≡ m = same_first (LetsOutUnder net from pred j) k m (subst (λ n. IsFirst (LetsOutUnder net from pred n) k) place a.least) b.least in
      λ t. K2 (place t) (least t)

  same_broken : (x y : Broken) → IsFirstBroken net from pred x → IsFirstBroken net from pred y → x ≡ y
  same_broken (K0Area a) (K0Area b) p q = ap K0Area (p.same ∙ sym q.same)
  same_broken (K0Area a) (K0Interface j) p q = absurd (not_by_area a q.from_trusted p)
  same_broken (K0Area a) (K1 j l) p q = absurd (not_by_area a q.inside.from_trusted p)
  same_broken (K0Area a) (K2 j m) p q = absurd (not_by_area a q.inside.from_trusted p)
  same_broken (K0Interface i) (K0Area b) p q = absurd (not_by_area b p.from_trusted q)
  same_broken (K0Interface i) (K0Interface j) p q = ap K0Interface (same_first (IsForeign net) i j p.first q.first)
  same_broken (K0Interface i) (K1 j l) p q = absurd (q.inside.own i p.first.holds)
  same_broken (K0Interface i) (K2 j m) p q = absurd (q.inside.own i p.first.holds)
  same_broken (K1 i h) (K0Area b) p q = absurd (not_by_area b p.inside.from_trusted q)
  same_broken (K1 i h) (K0Interface j) p q = absurd (p.inside.own j q.first.holds)
  same_broken (K1 i h) (K1 j l) p q = same_bare i j h l p q
  same_broken (K1 i h) (K2 j m) p q = absurd (q.bare i h p.least.has)
  same_broken (K2 i k) (K0Area b) p q = absurd (not_by_area b p.inside.from_trusted q)
  same_broken (K2 i k) (K0Interface j) p q = absurd (p.inside.own j q.first.holds)
  same_broken (K2 i k) (K1 j l) p q = absurd (p.bare j l q.least.has)
  same_broken (K2 i k) (K2 j m) p q = same_under i j k m p q

-- ---- answers

-- there is one answer at most
pub answers_are_unique : AnswersAreUnique
answers_are_unique net from pred Yes Yes p q = refl
answers_are_unique net from pred Yes (No y) p q = absurd (none_broken net from pred y p q)
answers_are_unique net from pred (No x) Yes p q = absurd (none_broken net from pred x q p)
answers_are_unique net from pred (No x) (No y) p q = ap No (same_broken net from pred x y p q)

-- the answer is yes exactly where the rules hold
pub yes_exactly : (net : Plan) (goal : IpGoal) (answer : Answer) → IsAnswerTo net goal answer → (answer ≡ Yes) ↔ KeepsRules net goal
yes_exactly net (goals.Auth from at pred) answer is = absurd is
yes_exactly net (goals.Conf from pred) answer is =
    (λ e. subst (IsAnswer net from pred) e is, λ rules. answers_are_unique net from pred answer Yes is rules)

-- where it is, the goal is safe
pub yes_safe : (net : Plan) (goal : IpGoal) (answer : Answer) → IsAnswerTo net goal answer → answer ≡ Yes → (depth : ℕ) → IsSafe net depth goal
yes_safe net (goals.Auth from at pred) answer is e depth = absurd is
yes_safe net (goals.Conf from pred) answer is e depth =
    let rules : ConfRules net from pred = subst (IsAnswer net from pred) e is in rules_are_sound net from pred rules depth

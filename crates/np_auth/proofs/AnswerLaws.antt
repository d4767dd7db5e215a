-- The answers exclude each other.
use Rattle.std.proofs.Common.{◌≡◌, ◌∙◌, ℕ, ◌<◌, true, get_or, Option, Some, None, refl, sym, ap, subst, inl, inr, arith}
use Rattle.std.specs.Prelude.{◌↔◌}
use Rattle.std.proofs.lemmas.Bool.{cases_lt}
use Rattle.std.proofs.lemmas.List.{get_or_default}
use Rattle.np_space.specs.Header.{IsLeastOf}
use Rattle.np_space.specs.declared.headers.Header.{Header}
use Rattle.np_space.proofs.OrderLemmas.{le_both_ways}
use Rattle.np_pred.specs.declared.predicate.Pred.{Pred}
use Rattle.np_net.specs.Plan.{Plan}
use Rattle.np_net.specs.declared.associations.IpGoal.{IpGoal}
use Rattle.np_net.specs.declared.associations.IpGoal.TheVariants as goals
use Rattle.np_ipsec.specs.Goals.{IsForeign}
use Rattle.np_ipsec.specs.Searching.{IsFirst}
use Rattle.np_ipsec.specs.Steps.{area_at}
use Rattle.np_ipsec.specs.Trajectories.{IsSafe}
use Rattle.np_auth.specs.declared.answers.Answer.{Answer}
use Rattle.np_auth.specs.declared.answers.Answer.TheVariants.{Yes, No}
use Rattle.np_auth.specs.declared.answers.Broken.{Broken}
use Rattle.np_auth.specs.declared.answers.Broken.TheVariants.{A0Area, A0Interface, A1, A2}
use Rattle.np_auth.specs.Rules.{AuthRules, HasSourceToo, LetsForged}
use Rattle.np_auth.specs.Answers.{AnswersAreUnique, AreBothTrusted, IsAnswer, IsAuthGoal, IsBroken, IsFirstForged, IsFirstMark, IsFirstSource, IsFirstUntrusted}
use Rattle.np_auth.specs.Passages.{ComesBefore}
use Rattle.np_auth.proofs.SoundLaws.{rules_are_sound}

-- ---- what stands nowhere before another

-- numbers of which neither is below the other
same_number : (n m : ℕ) → (n < m → ⊥) → (m < n → ⊥) → n ≡ m
same_number n m low high = elim (cases_lt n m) [
  | inl below ↦ absurd (low below)
  | inr upto ↦ elim (cases_lt m n) [ inl above ↦ absurd (high above) | inr from ↦ omega arith ]
]

-- marks of which neither comes before the other
same_mark : (n m : Option ℕ) → (ComesBefore n m → ⊥) → (ComesBefore m n → ⊥) → n ≡ m
same_mark None None low high = refl
same_mark None (Some k) low high = absurd (low tt)
same_mark (Some n) None low high = absurd (high tt)
same_mark (Some n) (Some k) low high = ap Some (same_number n k low high)

-- there is one least header
same_least : (P : Header → Type 0) (x y : Header) → IsLeastOf P x → IsLeastOf P y → x ≡ y
same_least P x y one other = le_both_ways x y (one.least y other.has) (other.least x one.has)

module _ (net : Plan) (from here : ℕ) (pred : Pred) where
  -- ---- one rule

  -- an area that isn't trusted denies that both are
  denies_trust : (a : ℕ) → IsFirstUntrusted net from here a → AreBothTrusted net from here → ⊥
  denies_trust a (inl first) both = let trusted : (area_at net from).trusted ≡ true = both.from_trusted in let not = first.0 in cc
  denies_trust a (inr second) both = let trusted : (area_at net here).trusted ≡ true = both.here_trusted in let not = second.1 in cc

  same_untrusted : (a b : ℕ) → IsFirstUntrusted net from here a → IsFirstUntrusted net from here b → a ≡ b
  same_untrusted a b (inl x) (inl y) = x.1 ∙ sym y.1
  same_untrusted a b (inl x) (inr y) = let trusted : (area_at net from).trusted ≡ true = y.0 in let not = x.0 in absurd (cc)
  same_untrusted a b (inr x) (inl y) = let trusted : (area_at net from).trusted ≡ true = x.0 in let not = y.0 in absurd (cc)
  same_untrusted a b (inr x) (inr y) = x.2 ∙ sym y.2

  same_foreign : (i j : ℕ) → IsFirst (IsForeign net) i → IsFirst (IsForeign net) j → i ≡ j
  same_foreign i j x y = same_number i j (λ low. y.first i low x.holds) (λ low. x.first j low y.holds)

  same_source : (a b : ℕ) (h k : Header) → IsFirstSource net from pred a h → IsFirstSource net from pred b k → A1 a h ≡ A1 b k
  same_source a b h k x y =
      let places : a ≡ b = same_number a b (λ low. y.first a h low x.least.has) (λ low. x.first b k low y.least.has) in
      let headers : h ≡ k = same_least (HasSourceToo net from pred b) h k (subst (λ n. IsLeastOf (HasSourceToo net from pred n) h) places x.least) y.least in
      (λ t. A1 (places t) (headers t))

  same_forged : (i j : ℕ) (m n : Option ℕ) (h k : Header) → IsFirstForged net pred i m h → IsFirstForged net pred j n k → A2 i m h ≡ A2 j n k
  same_forged i j m n h k x y =
      let places : i ≡ j = same_number i j (λ low. y.first i m h low x.marked.least.has) (λ low. x.first j n k low y.marked.least.has) in
      let here : IsFirstMark net pred j m h = subst (λ place. IsFirstMark net pred place m h) places x.marked in
      let marks : m ≡ n = same_mark m n (λ low. y.marked.first m h low here.least.has) (λ low. here.first n k low y.marked.least.has) in
      let headers : h ≡ k = same_least (LetsForged net pred j n) h k (subst (λ mark. IsLeastOf (LetsForged net pred j mark) h) marks here.least) y.marked.least in
      (λ t. A2 (places t) (marks t) (headers t))

  -- ---- all of them

  same_broken : (x y : Broken) → IsBroken net from here pred x → IsBroken net from here pred y → x ≡ y
  same_broken (A0Area a) (A0Area b) x y = ap A0Area (same_untrusted a b x y)
  same_broken (A0Area a) (A0Interface j) x y = absurd (denies_trust a x y.0)
  same_broken (A0Area a) (A1 b k) x y = absurd (denies_trust a x y.0.areas)
  same_broken (A0Area a) (A2 j n k) x y = absurd (denies_trust a x y.0.areas)
  same_broken (A0Interface i) (A0Area b) x y = absurd (denies_trust b y x.0)
  same_broken (A0Interface i) (A0Interface j) x y = ap A0Interface (same_foreign i j x.1 y.1)
  same_broken (A0Interface i) (A1 b k) x y = absurd (y.0.own i x.1.holds)
  same_broken (A0Interface i) (A2 j n k) x y = absurd (y.0.own i x.1.holds)
  same_broken (A1 a h) (A0Area b) x y = absurd (denies_trust b y x.0.areas)
  same_broken (A1 a h) (A0Interface j) x y = absurd (x.0.own j y.1.holds)
  same_broken (A1 a h) (A1 b k) x y = same_source a b h k x.1 y.1
  same_broken (A1 a h) (A2 j n k) x y = absurd (y.1 a h x.1.least.has)
  same_broken (A2 i m h) (A0Area b) x y = absurd (denies_trust b y x.0.areas)
  same_broken (A2 i m h) (A0Interface j) x y = absurd (x.0.own j y.1.holds)
  same_broken (A2 i m h) (A1 b k) x y = absurd (x.1 b k y.1.least.has)
  same_broken (A2 i m h) (A2 j n k) x y = same_forged i j m n h k x.2 y.2

  -- a rule that doesn't hold denies that all do
  denies_rules : (broken : Broken) → IsBroken net from here pred broken → AuthRules net from here pred → ⊥
  denies_rules (A0Area a) x rules = denies_trust a x (record { from_trusted = rules.from_trusted; here_trusted = rules.here_trusted })
  denies_rules (A0Interface i) x rules = rules.own i x.1.holds
  denies_rules (A1 a h) x rules = rules.sources a h x.1.least.has
  denies_rules (A2 i m h) x rules = rules.discards i m h x.2.marked.least.has

-- no two answers are right of one goal
pub answers_are_unique : AnswersAreUnique
answers_are_unique net from here pred Yes Yes x y = refl
answers_are_unique net from here pred Yes (No broken) x y = absurd (denies_rules net from here pred broken y x)
answers_are_unique net from here pred (No broken) Yes x y = absurd (denies_rules net from here pred broken x y)
answers_are_unique net from here pred (No broken) (No other) x y = ap No (same_broken net from here pred broken other x y)

-- ---- yes

module _ (net : Plan) (from here : ℕ) (pred : Pred) (answer : Answer) (is : IsAnswer net from here pred answer) where
  yes_rules : answer ≡ Yes → AuthRules net from here pred
  yes_rules e = subst (IsAnswer net from here pred) e is

  -- the answer is yes exactly where the rules hold
  yes_exactly : (answer ≡ Yes) ↔ AuthRules net from here pred
  yes_exactly = (yes_rules, λ rules. answers_are_unique net from here pred answer Yes is rules)

  -- where it is, the goal is safe
  yes_safe : answer ≡ Yes → (depth : ℕ) → IsSafe net depth (goals.Auth from here pred)
  yes_safe e depth = rules_are_sound net from here pred (yes_rules e) depth

-- the answer is right of an authentication goal
abbrev IsRight : Plan → Answer → IpGoal → Type 0
IsRight net answer (goals.Auth from here pred) = IsAnswer net from here pred answer
IsRight net answer (goals.Conf from pred) = Unit {0}

-- what is right of the goal that was read is right of whatever goal has its number
pub goal_right : (net : Plan) (goal : ℕ) (answer : Answer) (found : IpGoal) → found ≡ get_or net.ipgoals goal found → (from here : ℕ) (pred : Pred) → found ≡ goals.Auth from here pred → IsAnswer net from here pred answer →
    (f h : ℕ) (p : Pred) → IsAuthGoal net goal f h p → IsAnswer net f h p answer
goal_right net goal answer found at from here pred is right f h p stated =
    let same : goals.Auth from here pred ≡ goals.Auth f h p = sym is ∙ at ∙ get_or_default net.ipgoals goal found (goals.Auth f h p) stated.within ∙ stated.stated in
    subst (IsRight net answer) same right

module _ (net : Plan) (goal : ℕ) (answer : Answer) (right : (from here : ℕ) (pred : Pred) → IsAuthGoal net goal from here pred → IsAnswer net from here pred answer) where
  -- of whatever goal has this number, it is yes exactly where its rules hold
  pub goal_yes : (from here : ℕ) (pred : Pred) → IsAuthGoal net goal from here pred → (answer ≡ Yes) ↔ AuthRules net from here pred
  goal_yes from here pred is = yes_exactly net from here pred answer (right from here pred is)

  -- and where it is, the goal is safe
  pub goal_safe : (from here : ℕ) (pred : Pred) → IsAuthGoal net goal from here pred → answer ≡ Yes → (depth : ℕ) → IsSafe net depth (goals.Auth from here pred)
  goal_safe from here pred is = yes_safe net from here pred answer (right from here pred is)

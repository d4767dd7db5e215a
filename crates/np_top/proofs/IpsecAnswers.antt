-- How the answers on IPsec goals come to be right, and that what they name is the network's.
use Rattle.std.proofs.Common.{◌≡◌, ℕ, zero, suc, ◌+◌, ◌<◌, inl, inr, List, [], ◌∷◌, ◌++◌, length, take, All, Option, Some, None, IfSome, get_or, slice_get, true, false, refl, sym, ◌∙◌, ap, subst, add-one, arith}
use Rattle.std.specs.List.{AllByRecursion, list_any}
use Rattle.std.proofs.lemmas.List.Elements.{All-cons, All-nil}
use Rattle.std.proofs.lemmas.List.Folds.{list_any_at}
use Rattle.std.proofs.lemmas.Bool.{true≢false}
use Rattle.std.proofs.lemmas.Option.{get_or_from_slice_get}
use Rattle.np_pred.specs.declared.predicate.Pred.{Pred}
use Rattle.np_net.specs.Network.{IsIpGoal, IsNetwork}
use Rattle.np_net.specs.Plan.{Plan}
use Rattle.np_net.specs.declared.associations.IpGoal.{IpGoal}
use Rattle.np_net.specs.declared.associations.IpGoal.TheVariants as goals
use Rattle.np_ipsec.specs.declared.tables.Top.TheVariants as tops
use Rattle.np_auth.specs.Answers as auth
use Rattle.np_auth.specs.Rules.{IsForgeable}
use Rattle.np_auth.specs.declared.answers.Answer.{Answer as AuthAnswer}
use Rattle.np_auth.specs.declared.answers.Answer.TheVariants as auth_answer
use Rattle.np_auth.specs.declared.answers.Broken.{Broken as AuthBroken}
use Rattle.np_auth.specs.declared.answers.Broken.TheVariants.{A0Area, A0Interface, A1, A2}
use Rattle.np_conf.specs.Answers as conf
use Rattle.np_conf.specs.Answers.{ipgoal_at}
use Rattle.np_conf.specs.Rules.{ArePutAround}
use Rattle.np_conf.specs.declared.answers.Answer.{Answer as ConfAnswer}
use Rattle.np_conf.specs.declared.answers.Answer.TheVariants as conf_answer
use Rattle.np_conf.specs.declared.answers.Broken.{Broken as ConfBroken}
use Rattle.np_conf.specs.declared.answers.Broken.TheVariants.{K0Area, K0Interface, K1, K2}
use Rattle.np_conf.proofs.RangeLaws.{protection_in_range}
use Rattle.np_ipgoals.specs.Findings.{is_auth, is_conf}
use Rattle.np_ipsec_report.specs.Answers.{HasAuthPlaces, HasConfPlaces, HasPlaces}
use Rattle.np_ipsec_report.specs.declared.answers.IpAnswer.{IpAnswer}
use Rattle.np_ipsec_report.specs.declared.answers.IpAnswer.TheVariants as answers
use Rattle.np_top.specs.Ipsec.{AreRightAnswers, IsRightAnswer}

-- ---- which goals there are

-- a goal on authentication is one that asks for passages
pub auth_asked : (net : Plan) (k : ℕ) → auth.IsAuth net k → list_any is_auth net.ipgoals ≡ false → ⊥
auth_asked net k asked none =
    let goal = asked.3 in
    true≢false (sym (list_any_at is_auth net.ipgoals k (goals.Auth asked.0 asked.1 asked.2) goal.within (ap is_auth goal.stated)) ∙ none)

-- a goal on confidentiality is one that asks for outlets
pub conf_asked : (net : Plan) (k : ℕ) → k < length net.ipgoals → conf.IsConf (ipgoal_at net k) → list_any is_conf net.ipgoals ≡ false → ⊥
conf_asked net k lt asked none = true≢false (sym (list_any_at is_conf net.ipgoals k _ lt (by (ipgoal_at net k) asked)) ∙ none)
  where
    by : (goal : IpGoal) → conf.IsConf goal → is_conf goal ≡ true
    by (goals.Auth from at pred) is = absurd is
    by (goals.Conf from pred) is = refl

-- ---- the answer on one goal

module _ (net : Plan) (k : ℕ) (lt : k < length net.ipgoals) where
  -- what is right of the areas and the predicate of an authentication goal is the right answer on it
  module _ (from here : ℕ) (pred : Pred) where
    auth_goal : slice_get net.ipgoals k ≡ Some (goals.Auth from here pred) → auth.IsAuthGoal net k from here pred
    auth_goal at = record { within = lt; stated = get_or_from_slice_get net.ipgoals k _ _ at }

    pub auth_right : (answer : AuthAnswer) → slice_get net.ipgoals k ≡ Some (goals.Auth from here pred) →
        ((f h : ℕ) (p : Pred) → auth.IsAuthGoal net k f h p → auth.IsAnswer net f h p answer) →
        (goal : IpGoal) → slice_get net.ipgoals k ≡ Some goal → IsRightAnswer net goal (answers.Auth answer)
    auth_right answer at right goal goal_is =
        let same : goals.Auth from here pred ≡ goal = cc in
        subst (λ g. IsRightAnswer net g (answers.Auth answer)) same (right from here pred (auth_goal at))

  -- the same of a confidentiality goal
  module _ (from : ℕ) (pred : Pred) where
    pub conf_right : (answer : ConfAnswer) → slice_get net.ipgoals k ≡ Some (goals.Conf from pred) → conf.IsAnswerTo net (ipgoal_at net k) answer →
        (goal : IpGoal) → slice_get net.ipgoals k ≡ Some goal → IsRightAnswer net goal (answers.Conf answer)
    conf_right answer at right goal goal_is =
        let stated : ipgoal_at net k ≡ goals.Conf from pred = get_or_from_slice_get net.ipgoals k (goals.Conf from pred) _ at in
        let same : goals.Conf from pred ≡ goal = cc in
        let here : conf.IsAnswerTo net (goals.Conf from pred) answer = subst (λ g. conf.IsAnswerTo net g answer) stated right in
        subst (λ g. IsRightAnswer net g (answers.Conf answer)) same here

-- ---- one goal after another

module _ (net : Plan) where
  one_added : (goals : List IpGoal) (k : ℕ) (found : List IpAnswer) (answer : IpAnswer) → k < length goals → AreRightAnswers net (take k goals) found →
      ((goal : IpGoal) → slice_get goals k ≡ Some goal → IsRightAnswer net goal answer) → AreRightAnswers net (take (suc k) goals) (found ++ answer ∷ [])
  one_added [] k found answer lt are right = absurd (omega (arith, lt))
  one_added (goal ∷ goals) zero [] answer lt are right = (right goal refl, tt)
  one_added (goal ∷ goals) zero (first ∷ found) answer lt are right = absurd are
  one_added (goal ∷ goals) (suc k) [] answer lt are right = absurd are
  one_added (goal ∷ goals) (suc k) (first ∷ found) answer lt are right = (are.0, one_added goals k found answer (omega (arith, lt)) are.1 right)

  -- the answer on the next goal is right too
  pub right_more : (k : ℕ) (found : List IpAnswer) (answer : IpAnswer) → k < length net.ipgoals → AreRightAnswers net (take k net.ipgoals) found →
      ((goal : IpGoal) → slice_get net.ipgoals k ≡ Some goal → IsRightAnswer net goal answer) → AreRightAnswers net (take (k + 1) net.ipgoals) (found ++ answer ∷ [])
  right_more k found answer lt are right = rw (add-one k) (one_added net.ipgoals k found answer lt are right)

-- ---- what answers name

module _ (net : Plan) (network : IsNetwork net) where
  mark_within : (i : ℕ) (mark : Option ℕ) → IsForgeable net i mark → IfSome mark (λ s. s < length net.sas)
  mark_within i None forgeable = tt
  mark_within i (Some k) forgeable = forgeable.0

  auth_places : (from here : ℕ) (pred : Pred) (broken : AuthBroken) → from < length net.areas → here < length net.areas → auth.IsBroken net from here pred broken → HasAuthPlaces net broken
  auth_places from here pred (A0Area a) from_in here_in (inl is) = let same : a ≡ from = is.1 in omega arith
  auth_places from here pred (A0Area a) from_in here_in (inr is) = let same : a ≡ here = is.2 in omega arith
  auth_places from here pred (A0Interface i) from_in here_in is = is.1.holds.within
  auth_places from here pred (A1 a h) from_in here_in is = is.1.least.has.within
  auth_places from here pred (A2 i mark h) from_in here_in is =
      let lets = is.2.marked.least.has in (lets.within, mark_within i mark lets.forgeable)

  -- an association that is put around packets is one that a rule protects with
  around_within : (from : ℕ) (pred : Pred) (k : ℕ) (rest : List ℕ) → ArePutAround net from pred (k ∷ rest) → k < length net.sas
  around_within from pred k [] put = protection_in_range net network put.i (tops.Plain put.h) k put.at.within (sym put.protects)
  around_within from pred k (j ∷ rest) put = let next = put.0 in protection_in_range net network next.i (tops.Under j) k next.at.within (sym next.protects)

  conf_places : (from : ℕ) (pred : Pred) (broken : ConfBroken) → from < length net.areas → conf.IsFirstBroken net from pred broken → HasConfPlaces net broken
  conf_places from pred (K0Area a) from_in is = let same : a ≡ from = is.same in omega arith
  conf_places from pred (K0Interface i) from_in is = is.first.holds.within
  conf_places from pred (K1 i h) from_in is = is.least.has.way.at.within
  conf_places from pred (K2 i k) from_in is =
      let out = is.least.holds in (out.way.at.within, around_within from pred k out.readable.rest out.readable.put)

  answer_places : (goal : IpGoal) (answer : IpAnswer) → IsIpGoal (length net.areas) goal → IsRightAnswer net goal answer → HasPlaces net answer
  answer_places (goals.Auth from here pred) (answers.Auth auth_answer.Yes) is right = tt
  answer_places (goals.Auth from here pred) (answers.Auth (auth_answer.No broken)) is right = auth_places from here pred broken is.0 is.1 right
  answer_places (goals.Auth from here pred) (answers.Conf answer) is right = absurd right
  answer_places (goals.Conf from pred) (answers.Auth answer) is right = absurd right
  answer_places (goals.Conf from pred) (answers.Conf conf_answer.Yes) is right = tt
  answer_places (goals.Conf from pred) (answers.Conf (conf_answer.No broken)) is right = conf_places from pred broken is.0 right

  places : (goals : List IpGoal) (found : List IpAnswer) → AllByRecursion (λ goal. IsIpGoal (length net.areas) goal) goals → AreRightAnswers net goals found → All (HasPlaces net) found
  places [] [] are right = All-nil (HasPlaces net)
  places [] (answer ∷ found) are right = absurd right
  places (goal ∷ goals) [] are right = absurd right
  places (goal ∷ goals) (answer ∷ found) are right =
      All-cons (HasPlaces net) answer found (answer_places goal answer are.0 right.0) (places goals found are.1 right.1)

  -- what right answers on all goals name is the network's
  pub right_places : (found : List IpAnswer) → AreRightAnswers net net.ipgoals found → All (HasPlaces net) found
  right_places found right = places net.ipgoals found network.ipgoals right

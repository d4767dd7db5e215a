-- A network has one report on its IPsec goals, and each yes of it is safe.
use Rattle.std.proofs.Common.{◌≡◌, ◌≢◌, ℕ, Bool, true, false, List, [], ◌∷◌, Result, Ok, Err, IfOk, refl, sym, ◌∙◌, ap, subst}
use Rattle.std.specs.Prelude.{if◌then◌else◌}
use Rattle.np_net.specs.Plan.{Plan}
use Rattle.np_net.specs.declared.associations.IpGoal.{IpGoal}
use Rattle.np_net.specs.declared.associations.IpGoal.TheVariants as goals
use Rattle.np_auth.proofs.AnswerLaws as auth
use Rattle.np_conf.proofs.AnswerLaws as conf
use Rattle.np_ipgoals.proofs.AuthAnswers.{have_auth_answers}
use Rattle.np_ipgoals.proofs.ConfAnswers.{have_conf_answers}
use Rattle.np_ipsec_report.specs.Answers.{all_yes, answers_text}
use Rattle.np_ipsec_report.specs.declared.answers.IpAnswer.{IpAnswer}
use Rattle.np_ipsec_report.specs.declared.answers.IpAnswer.TheVariants as answers
use Rattle.np_top.specs.declared.status.Status.{Status}
use Rattle.np_top.specs.declared.status.Status.TheVariants.{Holds, Fails, Usage}
use Rattle.np_top.specs.Ipsec.{AreRightAnswers, AreSafe, IsIpsecReport, IsRightAnswer, IsSafeText}
use Rattle.np_top.specs.Status.{IsReport, IsSettled}
use Rattle.np_top.specs.declared.report.Answer.{Answer}
use Rattle.np_top.proofs.OneReport.{Same}
use Rattle.np_top.proofs.SafeLaws.{rules_safe, yes_says}
use Rattle.np_top.proofs.TraceLaws.{report_settled}

-- the status that goes with answers
abbrev pub answers_status : List IpAnswer → Status
answers_status found = if all_yes found then Holds else Fails

module _ (net : Plan) where
  -- ---- one answer on each goal

  one_right : (goal : IpGoal) (x y : IpAnswer) → IsRightAnswer net goal x → IsRightAnswer net goal y → x ≡ y
  one_right (goals.Auth from here pred) (answers.Auth x) (answers.Auth y) a b = ap answers.Auth (auth.answers_are_unique net from here pred x y a b)
  one_right (goals.Auth from here pred) (answers.Auth x) (answers.Conf y) a b = absurd b
  one_right (goals.Auth from here pred) (answers.Conf x) y a b = absurd a
  one_right (goals.Conf from pred) (answers.Conf x) (answers.Conf y) a b = ap answers.Conf (conf.answers_are_unique net from pred x y a b)
  one_right (goals.Conf from pred) (answers.Conf x) (answers.Auth y) a b = absurd b
  one_right (goals.Conf from pred) (answers.Auth x) y a b = absurd a

  one_list : (goals : List IpGoal) (xs ys : List IpAnswer) → AreRightAnswers net goals xs → AreRightAnswers net goals ys → xs ≡ ys
  one_list [] [] [] a b = refl
  one_list [] [] (y ∷ ys) a b = absurd b
  one_list [] (x ∷ xs) ys a b = absurd a
  one_list (goal ∷ goals) [] ys a b = absurd a
  one_list (goal ∷ goals) (x ∷ xs) [] a b = absurd b
  one_list (goal ∷ goals) (x ∷ xs) (y ∷ ys) a b =
      let first : x ≡ y = one_right goal x y a.0 b.0 in
      let rest : xs ≡ ys = one_list goals xs ys a.1 b.1 in
      λ i. first i ∷ rest i

  a_right_answer : (goal : IpGoal) → (answer : IpAnswer) × IsRightAnswer net goal answer
  a_right_answer (goals.Auth from here pred) = let found = have_auth_answers net from here pred in (answers.Auth found.0, found.1)
  a_right_answer (goals.Conf from pred) = let found = have_conf_answers net from pred in (answers.Conf found.0, found.1)

  a_list : (goals : List IpGoal) → (found : List IpAnswer) × AreRightAnswers net goals found
  a_list [] = ([], tt)
  a_list (goal ∷ goals) = let first = a_right_answer goal in let rest = a_list goals in (first.0 ∷ rest.0, (first.1, rest.1))

  -- ---- one report

  pub an_ipsec_report : (text : List ℕ) × (status : Status) × IsIpsecReport net text status
  an_ipsec_report =
      let found = a_list net.ipgoals in
      (answers_text net found.0, answers_status found.0, record { answers = found.0; right = found.1; text_is = refl; status_is = refl })

  pub one_ipsec_report : (s t : List ℕ) (x y : Status) → IsIpsecReport net s x → IsIpsecReport net t y → Same s x t y
  one_ipsec_report s t x y a b =
      let same : a.answers ≡ b.answers = one_list net.ipgoals a.answers b.answers a.right b.right in
      (a.text_is ∙ ap (answers_text net) same ∙ sym b.text_is, a.status_is ∙ ap answers_status same ∙ sym b.status_is)

  -- it says whether all answers are yes
  pub ipsec_reported : (text : List ℕ) (status : Status) → IsIpsecReport net text status → IsReport status
  ipsec_reported text status is = subst IsReport (sym is.status_is) (by (all_yes is.answers)) where
    by : (b : Bool) → IsReport (if b then Holds else Fails)
    by true = tt
    by false = tt

  -- ---- each yes is safe

  right_safe : (goals : List IpGoal) (found : List IpAnswer) → AreRightAnswers net goals found → AreSafe net goals found
  right_safe [] [] are = tt
  right_safe [] (answer ∷ found) are = absurd are
  right_safe (goal ∷ goals) [] are = absurd are
  right_safe (goal ∷ goals) (answer ∷ found) are = (λ is. rules_safe net goal (yes_says net goal answer are.0 is), right_safe goals found are.1)

  pub ipsec_safe : (text : List ℕ) (status : Status) → IsIpsecReport net text status → IsSafeText net text
  ipsec_safe text status is = record { answers = is.answers; safe = right_safe net.ipgoals is.answers is.right; text_is = is.text_is }

-- ---- how it ends

pub ipsec_settled : {E : Type 0} (net : Plan) (result : Result Answer E) → IfOk result (λ answer. IsIpsecReport net answer.text answer.status) →
    IfOk result (λ answer. IsSettled answer.status × (answer.status ≢ Usage))
ipsec_settled net (Ok answer) is = report_settled answer.status (ipsec_reported net answer.text answer.status is)
ipsec_settled net (Err error) is = tt

-- What `ipsec` writes of a network.
use Rattle.std.specs.Prelude.{◌≡◌, ℕ, true, List, [], ◌∷◌, if◌then◌else◌}
use Rattle.np_net.specs.Plan.{Plan}
use Rattle.np_net.specs.declared.associations.IpGoal.{IpGoal}
use Rattle.np_net.specs.declared.associations.IpGoal.TheVariants as goals
use Rattle.np_ipsec.specs.Trajectories.{IsSafe}
use Rattle.np_auth.specs.Answers as auth
use Rattle.np_auth.specs.Rules.{AuthRules}
use Rattle.np_conf.specs.Answers as conf
use Rattle.np_conf.specs.Rules.{ConfRules}
use Rattle.np_ipsec_report.specs.Answers.{all_yes, answers_text, is_yes}
use Rattle.np_ipsec_report.specs.declared.answers.IpAnswer.{IpAnswer}
use Rattle.np_ipsec_report.specs.declared.answers.IpAnswer.TheVariants as answers
use Rattle.np_top.specs.declared.status.Status.{Status}
use Rattle.np_top.specs.declared.status.Status.TheVariants.{Holds, Fails}

-- the local rules of a goal hold
abbrev pub RulesHold : Plan → IpGoal → Type 0
RulesHold net (goals.Auth from here pred) = AuthRules net from here pred
RulesHold net (goals.Conf from pred) = ConfRules net from pred

-- the answer on a goal is right: that its local rules hold, or the first that doesn't, with what shows it
abbrev pub IsRightAnswer : Plan → IpGoal → IpAnswer → Type 0
IsRightAnswer net (goals.Auth from here pred) (answers.Auth answer) = auth.IsAnswer net from here pred answer
IsRightAnswer net (goals.Auth from here pred) (answers.Conf answer) = ⊥
IsRightAnswer net (goals.Conf from pred) (answers.Auth answer) = ⊥
IsRightAnswer net (goals.Conf from pred) (answers.Conf answer) = conf.IsAnswer net from pred answer

-- each goal has its right answer
abbrev pub AreRightAnswers : Plan → List IpGoal → List IpAnswer → Type 0
AreRightAnswers net [] [] = Unit {0}
AreRightAnswers net [] (answer ∷ answers) = ⊥
AreRightAnswers net (goal ∷ goals) [] = ⊥
AreRightAnswers net (goal ∷ goals) (answer ∷ answers) = IsRightAnswer net goal answer × AreRightAnswers net goals answers

-- The report on the IPsec goals: the right answer on each of them, and whether all are yes.
pub record IsIpsecReport (net : Plan) (text : List ℕ) (status : Status) : Type 0 where
  pub answers : List IpAnswer
  pub right : AreRightAnswers net net.ipgoals answers
  pub text_is : text ≡ answers_text net answers
  pub status_is : status ≡ (if all_yes answers then Holds else Fails)

-- a goal whose answer is yes is safe at every depth
abbrev pub AreSafe : Plan → List IpGoal → List IpAnswer → Type 0
AreSafe net [] [] = Unit {0}
AreSafe net [] (answer ∷ answers) = ⊥
AreSafe net (goal ∷ goals) [] = ⊥
AreSafe net (goal ∷ goals) (answer ∷ answers) = (is_yes answer ≡ true → (depth : ℕ) → IsSafe net depth goal) × AreSafe net goals answers

-- The text is that of answers of which each yes is on a goal that no trajectory of any depth breaks.
pub record IsSafeText (net : Plan) (text : List ℕ) : Type 0 where
  pub answers : List IpAnswer
  pub safe : AreSafe net net.ipgoals answers
  pub text_is : text ≡ answers_text net answers

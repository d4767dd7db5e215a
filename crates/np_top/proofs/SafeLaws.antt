-- A goal whose local rules hold is safe at every depth.
use Rattle.std.proofs.Common.{◌≡◌, ℕ, true}
use Rattle.np_net.specs.Plan.{Plan}
use Rattle.np_net.specs.declared.associations.IpGoal.{IpGoal}
use Rattle.np_net.specs.declared.associations.IpGoal.TheVariants as goals
use Rattle.np_ipsec.specs.Trajectories.{IsSafe}
use Rattle.np_auth.specs.declared.answers.Answer.TheVariants as auth_answer
use Rattle.np_auth.proofs.SoundLaws as auth
use Rattle.np_conf.specs.declared.answers.Answer.TheVariants as conf_answer
use Rattle.np_conf.proofs.SoundLaws as conf
use Rattle.np_ipsec_report.specs.Answers.{is_yes}
use Rattle.np_ipsec_report.specs.declared.answers.IpAnswer.{IpAnswer}
use Rattle.np_ipsec_report.specs.declared.answers.IpAnswer.TheVariants as answers
use Rattle.np_top.specs.Ipsec.{IsRightAnswer, RulesHold}

pub rules_safe : (net : Plan) (goal : IpGoal) → RulesHold net goal → (depth : ℕ) → IsSafe net depth goal
rules_safe net (goals.Auth from here pred) rules depth = auth.rules_are_sound net from here pred rules depth
rules_safe net (goals.Conf from pred) rules depth = conf.rules_are_sound net from pred rules depth

-- a right answer that is yes says that they hold
pub yes_says : (net : Plan) (goal : IpGoal) (answer : IpAnswer) → IsRightAnswer net goal answer → is_yes answer ≡ true → RulesHold net goal
yes_says net (goals.Auth from here pred) (answers.Auth auth_answer.Yes) right is = right
yes_says net (goals.Auth from here pred) (answers.Auth (auth_answer.No broken)) right is = absurd (cc)
yes_says net (goals.Auth from here pred) (answers.Conf answer) right is = absurd right
yes_says net (goals.Conf from pred) (answers.Auth answer) right is = absurd right
yes_says net (goals.Conf from pred) (answers.Conf conf_answer.Yes) right is = right
yes_says net (goals.Conf from pred) (answers.Conf (conf_answer.No broken)) right is = absurd (cc)

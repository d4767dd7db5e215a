-- What there always is: an answer on each IPsec goal.
use Rattle.std.specs.Prelude.{ℕ}
use Rattle.np_pred.specs.declared.predicate.Pred.{Pred}
use Rattle.np_net.specs.Plan.{Plan}
use Rattle.np_auth.specs.Answers as auth
use Rattle.np_auth.specs.declared.answers.Answer as auth_answer
use Rattle.np_conf.specs.Answers as conf
use Rattle.np_conf.specs.declared.answers.Answer as conf_answer

-- Each authentication goal has an answer.
abbrev pub HaveAuthAnswers : Type 0
HaveAuthAnswers = (net : Plan) (from here : ℕ) (pred : Pred) → (answer : auth_answer.Answer) × auth.IsAnswer net from here pred answer

-- Each confidentiality goal has an answer.
abbrev pub HaveConfAnswers : Type 0
HaveConfAnswers = (net : Plan) (from : ℕ) (pred : Pred) → (answer : conf_answer.Answer) × conf.IsAnswer net from pred answer

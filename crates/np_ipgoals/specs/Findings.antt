-- What the rules of a network say of the least headers, as far as its goals ask for it.
use Rattle.std.specs.Prelude.{◌≡◌, Bool, true, false, List, MatchOption}
use Rattle.std.specs.List.{list_any}
use Rattle.np_space.specs.declared.headers.Header.{Header}
use Rattle.np_net.specs.Plan.{Plan}
use Rattle.np_net.specs.declared.associations.IpGoal.{IpGoal}
use Rattle.np_net.specs.declared.associations.IpGoal.TheVariants as goals
use Rattle.np_auth.specs.Passages.{ArePassages}
use Rattle.np_conf.specs.Outlets.{AreOutlets}
use Rattle.np_ipgoals.specs.declared.asked.Findings.{Findings}

-- a goal is on authentication
abbrev pub is_auth : IpGoal → Bool
is_auth (goals.Auth from at pred) = true
is_auth (goals.Conf from pred) = false

-- a goal is on confidentiality
abbrev pub is_conf : IpGoal → Bool
is_conf (goals.Auth from at pred) = false
is_conf (goals.Conf from pred) = true

-- there are passages where some goal is on authentication, and outlets where some goal is on confidentiality, each of the headers
pub record AreFindings (net : Plan) (headers : List Header) (found : Findings) : Type 0 where
  pub passages : MatchOption found.passages (list_any is_auth net.ipgoals ≡ false) (λ passages. (list_any is_auth net.ipgoals ≡ true) × ArePassages net headers passages)
  pub outlets : MatchOption found.outlets (list_any is_conf net.ipgoals ≡ false) (λ outlets. (list_any is_conf net.ipgoals ≡ true) × AreOutlets net headers outlets)

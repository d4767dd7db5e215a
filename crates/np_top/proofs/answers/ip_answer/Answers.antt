use Rattle.std.proofs.Common.{◌≡◌, Some, length, get_or, refl, slice_get, subst}
use Rattle.std.proofs.lemmas.Option.{slice_get_read}
use Rattle.np_net.specs.declared.associations.IpGoal.TheVariants as goals
use Rattle.np_top.proofs.IpsecAnswers.{auth_right, conf_right}
use Rattle.np_top.proofs.answers.ip_answer.Goals as goal

pub returns-in-Auth : goal.returns-in-Auth
returns-in-Auth c =
    let net = c.args.net.now in
    let k = c.args.k in
    let found = c.index-as_slice-k.result in
    let read : found ≡ get_or net.ipgoals k found = subst (λ n. found ≡ get_or n.ipgoals k found) c.net.view_is (rw c.as_slice.ensures at c.index-as_slice-k.is) in
    let here : slice_get net.ipgoals k ≡ Some found = slice_get_read net.ipgoals (length net.ipgoals) k found refl c.requires.goal read in
    let own = c.in-Auth in
    let at : slice_get net.ipgoals k ≡ Some (goals.Auth own.from own.at own.pred) = cc in
    record { right = auth_right net k c.requires.goal own.from own.at own.pred c.auth_answer.result at c.auth_answer.ensures }

pub returns-in-Conf : goal.returns-in-Conf
returns-in-Conf c =
    let net = c.args.net.now in
    let k = c.args.k in
    let found = c.index-as_slice-k.result in
    let read : found ≡ get_or net.ipgoals k found = subst (λ n. found ≡ get_or n.ipgoals k found) c.net.view_is (rw c.as_slice.ensures at c.index-as_slice-k.is) in
    let here : slice_get net.ipgoals k ≡ Some found = slice_get_read net.ipgoals (length net.ipgoals) k found refl c.requires.goal read in
    let own = c.in-Conf in
    let at : slice_get net.ipgoals k ≡ Some (goals.Conf own.from own.pred) = cc in
    record { right = conf_right net k c.requires.goal own.from own.pred c.conf_answer.result at c.conf_answer.ensures }

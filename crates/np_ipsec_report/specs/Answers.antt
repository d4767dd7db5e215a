-- The report on the IPsec goals.
use Rattle.std.specs.Prelude.{ℕ, ◌+◌, ◌<◌, Bool, true, false, List, [], ◌∷◌, ◌++◌, codes, length, Option, Some, None, IfSome, if◌then◌else◌}
use Rattle.std.specs.List.{list_all}
use Rattle.std.specs.Fmt.{decimal}
use Rattle.np_net.specs.Naming.{area_name, sa_name}
use Rattle.np_net.specs.Plan.{Plan}
use Rattle.np_auth.specs.declared.answers.Answer.{Answer as AuthAnswer}
use Rattle.np_auth.specs.declared.answers.Answer.TheVariants as auth
use Rattle.np_auth.specs.declared.answers.Broken.{Broken as AuthBroken}
use Rattle.np_auth.specs.declared.answers.Broken.TheVariants as a
use Rattle.np_conf.specs.declared.answers.Answer.{Answer as ConfAnswer}
use Rattle.np_conf.specs.declared.answers.Answer.TheVariants as conf
use Rattle.np_conf.specs.declared.answers.Broken.{Broken as ConfBroken}
use Rattle.np_conf.specs.declared.answers.Broken.TheVariants as k
use Rattle.np_ipsec_report.specs.declared.answers.IpAnswer.{IpAnswer}
use Rattle.np_ipsec_report.specs.declared.answers.IpAnswer.TheVariants as answers
use Rattle.np_script.specs.Written.{header_words, interface_words}
use Rattle.np_text.specs.Joined.{text_of_lines}

-- the words of a mark that lets a forged packet pass
abbrev pub forged_words : Plan → Option ℕ → List (List ℕ)
forged_words net None = codes "unmarked" ∷ []
forged_words net (Some s) = codes "popped" ∷ sa_name net s ∷ []

-- the words of a broken rule of authentication, and what shows it
abbrev pub auth_broken_words : Plan → AuthBroken → List (List ℕ)
auth_broken_words net (a.A0Area area) = codes "A0" ∷ codes "area" ∷ area_name net area ∷ []
auth_broken_words net (a.A0Interface i) = codes "A0" ∷ codes "interface" ∷ interface_words net i
auth_broken_words net (a.A1 area h) = codes "A1" ∷ codes "area" ∷ area_name net area ∷ header_words h
auth_broken_words net (a.A2 i mark h) = codes "A2" ∷ (interface_words net i ++ (forged_words net mark ++ header_words h))

-- the words of a broken rule of confidentiality, and what shows it
abbrev pub conf_broken_words : Plan → ConfBroken → List (List ℕ)
conf_broken_words net (k.K0Area area) = codes "K0" ∷ codes "area" ∷ area_name net area ∷ []
conf_broken_words net (k.K0Interface i) = codes "K0" ∷ codes "interface" ∷ interface_words net i
conf_broken_words net (k.K1 i h) = codes "K1" ∷ (interface_words net i ++ header_words h)
conf_broken_words net (k.K2 i s) = codes "K2" ∷ (interface_words net i ++ codes "under" ∷ sa_name net s ∷ [])

-- the words of an answer on an authentication goal
abbrev pub auth_words : Plan → AuthAnswer → List (List ℕ)
auth_words net auth.Yes = codes "yes" ∷ []
auth_words net (auth.No broken) = codes "no" ∷ auth_broken_words net broken

-- the words of an answer on a confidentiality goal
abbrev pub conf_words : Plan → ConfAnswer → List (List ℕ)
conf_words net conf.Yes = codes "yes" ∷ []
conf_words net (conf.No broken) = codes "no" ∷ conf_broken_words net broken

-- the words of an answer, after its kind
abbrev pub answer_words : Plan → IpAnswer → List (List ℕ)
answer_words net (answers.Auth answer) = codes "auth" ∷ auth_words net answer
answer_words net (answers.Conf answer) = codes "conf" ∷ conf_words net answer

-- a line for each goal, of which the first has this number
abbrev pub answer_lines : Plan → ℕ → List IpAnswer → List (List (List ℕ))
answer_lines net n [] = []
answer_lines net n (answer ∷ answers) = (codes "ipgoal" ∷ decimal n ∷ answer_words net answer) ∷ answer_lines net (n + 1) answers

-- an answer is yes
abbrev pub is_yes : IpAnswer → Bool
is_yes (answers.Auth auth.Yes) = true
is_yes (answers.Auth (auth.No broken)) = false
is_yes (answers.Conf conf.Yes) = true
is_yes (answers.Conf (conf.No broken)) = false

-- all are
abbrev pub all_yes : List IpAnswer → Bool
all_yes answers = list_all is_yes answers

-- the text: the goals from 1 on, and a last line that says whether all answers are yes
abbrev pub answers_text : Plan → List IpAnswer → List ℕ
answers_text net answers = text_of_lines (answer_lines net 1 answers ++ ((if all_yes answers then codes "yes" else codes "no") ∷ []) ∷ [])

-- ---- what is needed of what is written

-- the area or the interface, and the mark if there is one, of a broken rule of authentication are the network's
abbrev pub HasAuthPlaces : Plan → AuthBroken → Type 0
HasAuthPlaces net (a.A0Area area) = area < length net.areas
HasAuthPlaces net (a.A0Interface i) = i < length net.interfaces
HasAuthPlaces net (a.A1 area h) = area < length net.areas
HasAuthPlaces net (a.A2 i mark h) = (i < length net.interfaces) × IfSome mark (λ s. s < length net.sas)

-- the same of a broken rule of confidentiality
abbrev pub HasConfPlaces : Plan → ConfBroken → Type 0
HasConfPlaces net (k.K0Area area) = area < length net.areas
HasConfPlaces net (k.K0Interface i) = i < length net.interfaces
HasConfPlaces net (k.K1 i h) = i < length net.interfaces
HasConfPlaces net (k.K2 i s) = (i < length net.interfaces) × (s < length net.sas)

-- the same of an answer
abbrev pub HasPlaces : Plan → IpAnswer → Type 0
HasPlaces net (answers.Auth auth.Yes) = Unit {0}
HasPlaces net (answers.Auth (auth.No broken)) = HasAuthPlaces net broken
HasPlaces net (answers.Conf conf.Yes) = Unit {0}
HasPlaces net (answers.Conf (conf.No broken)) = HasConfPlaces net broken

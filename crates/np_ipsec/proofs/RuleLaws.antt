-- The first rule that fits decides.
use Rattle.std.proofs.Common.{◌≡◌, ℕ, ◌&&◌, Bool, true, false, List, [], ◌∷◌, Option, Some, None, cond, refl, ◌∙◌, ap}
use Rattle.std.specs.List.{find}
use Rattle.np_net.specs.declared.associations.InAction.{InAction}
use Rattle.np_net.specs.declared.associations.InAction.TheVariants as ins
use Rattle.np_net.specs.declared.associations.OutAction.{OutAction}
use Rattle.np_net.specs.declared.associations.OutAction.TheVariants as outs
use Rattle.np_net.specs.declared.associations.InRule.{InRule}
use Rattle.np_net.specs.declared.associations.OutRule.{OutRule}
use Rattle.np_ipsec.specs.declared.tables.Top.{Top}
use Rattle.np_ipsec.specs.Tables.{fits_mark, fits_top, in_action_by, out_action_by}

-- what an inward rule that was found says, or that none was
abbrev in_said : Option InRule → InAction
in_said None = ins.Discard
in_said (Some rule) = rule.action

-- the same of an outward one
abbrev out_said : Option OutRule → OutAction
out_said None = outs.Discard
out_said (Some rule) = rule.action

-- finding the first inward rule that fits and then taking its action is what the tables say
in_by_found : (rules : List InRule) (top : Top) (mark : Option ℕ) → in_said (find (λ rule. fits_mark rule.mark mark && fits_top rule.top top) rules) ≡ in_action_by rules top mark
in_by_found [] top mark = refl
in_by_found (rule ∷ rules) top mark = by (fits_mark rule.mark mark && fits_top rule.top top) (in_by_found rules top mark)
  where
    by : (fits : Bool) → in_said (find (λ rule. fits_mark rule.mark mark && fits_top rule.top top) rules) ≡ in_action_by rules top mark
        → in_said (cond fits (Some rule) (find (λ rule. fits_mark rule.mark mark && fits_top rule.top top) rules)) ≡ cond fits rule.action (in_action_by rules top mark)
    by true later = refl
    by false later = later

-- the same of outward rules
out_by_found : (rules : List OutRule) (top : Top) → out_said (find (λ rule. fits_top rule.top top) rules) ≡ out_action_by rules top
out_by_found [] top = refl
out_by_found (rule ∷ rules) top = by (fits_top rule.top top) (out_by_found rules top)
  where
    by : (fits : Bool) → out_said (find (λ rule. fits_top rule.top top) rules) ≡ out_action_by rules top
        → out_said (cond fits (Some rule) (find (λ rule. fits_top rule.top top) rules)) ≡ cond fits rule.action (out_action_by rules top)
    by true later = refl
    by false later = later

-- an inward rule that is the first to fit decides
pub in_by_rule : (rules : List InRule) (top : Top) (mark : Option ℕ) (rule : InRule) → Some rule ≡ find (λ rule. fits_mark rule.mark mark && fits_top rule.top top) rules → rule.action ≡ in_action_by rules top mark
in_by_rule rules top mark rule found = ap in_said found ∙ in_by_found rules top mark

-- where no inward rule fits, the packet is discarded
pub in_by_none : (rules : List InRule) (top : Top) (mark : Option ℕ) → None ≡ find (λ rule. fits_mark rule.mark mark && fits_top rule.top top) rules → ins.Discard ≡ in_action_by rules top mark
in_by_none rules top mark none = ap in_said none ∙ in_by_found rules top mark

-- an outward rule that is the first to fit decides
pub out_by_rule : (rules : List OutRule) (top : Top) (rule : OutRule) → Some rule ≡ find (λ rule. fits_top rule.top top) rules → rule.action ≡ out_action_by rules top
out_by_rule rules top rule found = ap out_said found ∙ out_by_found rules top

-- where no outward rule fits, the packet is discarded
pub out_by_none : (rules : List OutRule) (top : Top) → None ≡ find (λ rule. fits_top rule.top top) rules → outs.Discard ≡ out_action_by rules top
out_by_none rules top none = ap out_said none ∙ out_by_found rules top

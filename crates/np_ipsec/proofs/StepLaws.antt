-- What a step keeps, and where it leads.
use Rattle.std.proofs.Common.{◌≡◌, ℕ, inl, inr, sym, ap, subst}
use Rattle.np_space.specs.declared.headers.Header.{Header}
use Rattle.np_net.specs.Network.{IsNetwork}
use Rattle.np_net.specs.Plan.{Plan}
use Rattle.np_net.proofs.RangeLaws.{area_in_range}
use Rattle.np_ipsec.specs.declared.places.Motion.{Motion}
use Rattle.np_ipsec.specs.declared.places.Motion.TheVariants as motions
use Rattle.np_ipsec.specs.Steps.{State, IsPlace, IsStep}

-- the plain header of a state
abbrev plain_of : State → Header
plain_of s = s.plain

-- a step keeps the plain header
pub steps_keep_plain : (net : Plan) (depth : ℕ) (motion : Motion) (s t : State) → IsStep net depth motion s t → t.plain ≡ s.plain
steps_keep_plain net depth (motions.Enter i) s t step = ap plain_of step.to
steps_keep_plain net depth motions.Pop s t step = elim step [ inl rule ↦ ap plain_of rule.to | inr free ↦ ap plain_of free.to ]
steps_keep_plain net depth (motions.Cross j) s t step = ap plain_of step.to
steps_keep_plain net depth (motions.Push k) s t step = ap plain_of step.to
steps_keep_plain net depth motions.Leave s t step = ap plain_of step.to

-- a state is at a place of the network
abbrev IsInside : Plan → State → Type 0
IsInside net s = IsPlace net s.place

-- in a network a step from a place leads to a place
pub steps_stay_inside : (net : Plan) → IsNetwork net → (depth : ℕ) (motion : Motion) (s t : State) → IsPlace net s.place → IsStep net depth motion s t → IsPlace net t.place
steps_stay_inside net is depth (motions.Enter i) s t here step = subst (IsInside net) (sym step.to) step.within
steps_stay_inside net is depth motions.Pop s t here step = elim step [
  | inl rule ↦ subst (IsInside net) (sym rule.to) here
  | inr free ↦ subst (IsInside net) (sym free.to) here
]
steps_stay_inside net is depth (motions.Cross j) s t here step = subst (IsInside net) (sym step.to) step.within
steps_stay_inside net is depth (motions.Push k) s t here step = subst (IsInside net) (sym step.to) here
steps_stay_inside net is depth motions.Leave s t here step =
    let within = subst (IsPlace net) step.here here in
    subst (IsInside net) (sym step.to) (area_in_range net is step.j within)

-- States that name what a network has, and where motions lead.
use Rattle.std.specs.Prelude.{ℕ, ◌<◌, Bool, true, false, List, [], ◌∷◌, ◌++◌, length, Option, None, All, IfSome}
use Rattle.np_space.specs.declared.headers.Header.{Header}
use Rattle.np_net.specs.Path.{area_of}
use Rattle.np_net.specs.Plan.{Plan}
use Rattle.np_stack.specs.HeaderStack.{top_of}
use Rattle.np_ipsec.specs.declared.places.Motion.{Motion}
use Rattle.np_ipsec.specs.declared.places.Motion.TheVariants as motions
use Rattle.np_ipsec.specs.declared.places.Place.{Place}
use Rattle.np_ipsec.specs.declared.places.Place.TheVariants as at
use Rattle.np_ipsec.specs.Steps.{State, IsPlace, is_trusted_place}

-- the place, the associations and the mark of a state are the network's
pub record IsStateOf (net : Plan) (s : State) : Type 0 where
  pub place : IsPlace net s.place
  pub stack : All (λ k. k < length net.sas) s.stack
  pub mark : IfSome s.mark (λ k. k < length net.sas)

-- a packet that starts
abbrev pub started : Place → Header → State
started place plain = record { place = place; plain = plain; stack = []; mark = None }

-- what is under the outermost association
abbrev pub under : List ℕ → List ℕ
under [] = []
under (k ∷ []) = []
under (k ∷ l ∷ ks) = k ∷ under (l ∷ ks)

-- the mark after a pop: a trusted device leaves one
abbrev pub mark_after_pop : Bool → Option ℕ → Option ℕ
mark_after_pop true top = top
mark_after_pop false top = None

-- where a packet is that leaves a device
abbrev pub outside : Plan → Place → Place
outside net (at.AtArea a) = at.AtArea a
outside net (at.AtIn i) = at.AtIn i
outside net (at.AtOut j) = at.AtArea (area_of net.interfaces j)

-- the state to which a motion leads that isn't refused
abbrev pub led_to : Plan → State → Motion → State
led_to net s (motions.Enter i) = record { place = at.AtIn i; plain = s.plain; stack = s.stack; mark = None }
led_to net s motions.Pop = record { place = s.place; plain = s.plain; stack = under s.stack; mark = mark_after_pop (is_trusted_place net s.place) (top_of s.stack) }
led_to net s (motions.Cross j) = record { place = at.AtOut j; plain = s.plain; stack = s.stack; mark = None }
led_to net s (motions.Push k) = record { place = s.place; plain = s.plain; stack = s.stack ++ k ∷ []; mark = s.mark }
led_to net s motions.Leave = record { place = outside net s.place; plain = s.plain; stack = s.stack; mark = s.mark }

-- Which starts and motions are refused, and why. Where several reasons apply, the first in the order of the lines counts.
use Rattle.std.specs.Prelude.{ℕ, ◌==◌, Bool, true, false, not, nat_lt, length, Option, Some, None, if◌then◌else◌}
use Rattle.std.specs.Bool.{then_some}
use Rattle.std.specs.Option.{option_or}
use Rattle.np_space.specs.Header.{is_valid_header}
use Rattle.np_space.specs.declared.headers.Header.{Header}
use Rattle.np_net.specs.Path.{area_of, device_of}
use Rattle.np_net.specs.Plan.{Plan}
use Rattle.np_net.specs.declared.associations.InAction.{InAction}
use Rattle.np_net.specs.declared.associations.InAction.TheVariants as ins
use Rattle.np_net.specs.declared.associations.OutAction.{OutAction}
use Rattle.np_net.specs.declared.associations.OutAction.TheVariants as outs
use Rattle.np_stack.specs.HeaderStack.{top_of}
use Rattle.np_ipsec.specs.declared.places.Motion.{Motion}
use Rattle.np_ipsec.specs.declared.places.Motion.TheVariants as motions
use Rattle.np_ipsec.specs.declared.places.Place.{Place}
use Rattle.np_ipsec.specs.declared.places.Place.TheVariants as at
use Rattle.np_ipsec.specs.Steps.{State, area_has, is_trusted_place, top_in}
use Rattle.np_ipsec.specs.Tables.{has_pop, in_action_of, out_action_of, is_secret, is_sound}
use Rattle.np_traj.specs.declared.states.Illegal.{Illegal}
use Rattle.np_traj.specs.declared.states.Illegal.TheVariants.{NotHere, NotAdmitted, MustPop, NoKey, NoRule, Full, FalseSource, NotValid}

-- ---- starts

-- at a trusted place a packet starts in an area alone, and with a source that the area has
abbrev pub trusted_start_refusal : Plan → Place → Header → Option Illegal
trusted_start_refusal net (at.AtArea a) plain = then_some (not (area_has net a plain)) FalseSource
trusted_start_refusal net (at.AtIn i) plain = Some NotHere
trusted_start_refusal net (at.AtOut i) plain = Some NotHere

-- a start, which has a valid header; a place that isn't trusted starts each of them
abbrev pub start_refusal : Plan → Place → Header → Option Illegal
start_refusal net place plain = option_or
    (then_some (not (is_valid_header plain)) NotValid)
    (if is_trusted_place net place then trusted_start_refusal net place plain else None)

-- ---- motions, by the place

-- the packet is at the area
abbrev pub is_at_area : Place → ℕ → Bool
is_at_area (at.AtArea b) a = b == a
is_at_area (at.AtIn i) a = false
is_at_area (at.AtOut i) a = false

-- into a device: from the area of the interface
abbrev pub enter_refusal : Plan → State → ℕ → Option Illegal
enter_refusal net s i = then_some (not (is_at_area s.place (area_of net.interfaces i))) NotHere

-- a trusted device removes the outermost association's header at an inward interface that has a pop rule for it
abbrev pub pop_by_rule_refusal : Plan → ℕ → Option ℕ → Option Illegal
pop_by_rule_refusal net i None = Some NotHere
pop_by_rule_refusal net i (Some k) = then_some (not (has_pop net i k)) NoRule

abbrev pub trusted_pop_refusal : Plan → Place → Option ℕ → Option Illegal
trusted_pop_refusal net (at.AtArea a) top = Some NotHere
trusted_pop_refusal net (at.AtIn i) top = pop_by_rule_refusal net i top
trusted_pop_refusal net (at.AtOut i) top = Some NotHere

-- whoever isn't trusted removes it where an end isn't trusted either or the kind hides nothing
abbrev pub untrusted_pop_refusal : Plan → Option ℕ → Option Illegal
untrusted_pop_refusal net None = Some NotHere
untrusted_pop_refusal net (Some k) = then_some (is_secret net k) NoKey

-- a header is removed
abbrev pub pop_refusal : Plan → State → Option Illegal
pop_refusal net s = if is_trusted_place net s.place then trusted_pop_refusal net s.place (top_of s.stack) else untrusted_pop_refusal net (top_of s.stack)

-- a pop rule of the interface fits the outermost association
abbrev pub is_to_pop : Plan → ℕ → Option ℕ → Bool
is_to_pop net i None = false
is_to_pop net i (Some k) = has_pop net i k

-- the action is to discard the packet
abbrev pub is_discard : InAction → Bool
is_discard ins.Bypass = false
is_discard ins.Discard = true

-- a trusted device lets a packet through that has nothing left to remove, by the rules of the interface by which it came in
abbrev pub trusted_cross_refusal : Plan → State → ℕ → Option Illegal
trusted_cross_refusal net s i = option_or
    (then_some (is_to_pop net i (top_of s.stack)) MustPop)
    (then_some (is_discard (in_action_of net i (top_in s) s.mark)) NotAdmitted)

-- in by the first interface and out by the second, which are of one device
abbrev pub cross_between_refusal : Plan → State → ℕ → ℕ → Option Illegal
cross_between_refusal net s i j = option_or
    (then_some (not (device_of net.interfaces i == device_of net.interfaces j)) NotHere)
    (if is_trusted_place net s.place then trusted_cross_refusal net s i else None)

abbrev pub cross_from_refusal : Plan → State → Place → ℕ → Option Illegal
cross_from_refusal net s (at.AtArea a) j = Some NotHere
cross_from_refusal net s (at.AtIn i) j = cross_between_refusal net s i j
cross_from_refusal net s (at.AtOut i) j = Some NotHere

-- through a device
abbrev pub cross_refusal : Plan → State → ℕ → Option Illegal
cross_refusal net s j = cross_from_refusal net s s.place j

-- the action is to put a header of this association around the packet
abbrev pub is_protect : OutAction → ℕ → Bool
is_protect (outs.Protect l) k = l == k
is_protect outs.Bypass k = false
is_protect outs.Discard k = false

-- a trusted device puts a header around a packet at an outward interface whose rules say so
abbrev pub trusted_push_refusal : Plan → State → Place → ℕ → Option Illegal
trusted_push_refusal net s (at.AtArea a) k = Some NotHere
trusted_push_refusal net s (at.AtIn i) k = Some NotHere
trusted_push_refusal net s (at.AtOut j) k = then_some (not (is_protect (out_action_of net j (top_in s)) k)) NoRule

-- whoever isn't trusted does so where an end isn't trusted either or the kind lets forgeries pass
abbrev pub untrusted_push_refusal : Plan → ℕ → Option Illegal
untrusted_push_refusal net k = then_some (is_sound net k) NoKey

-- whoever is at the place has no right or no key to put a header of the association around the packet
abbrev pub unentitled_push_refusal : Plan → State → ℕ → Option Illegal
unentitled_push_refusal net s k = if is_trusted_place net s.place then trusted_push_refusal net s s.place k else untrusted_push_refusal net k

-- a header of the association is put around a packet under fewer than so many
abbrev pub push_refusal : Plan → ℕ → State → ℕ → Option Illegal
push_refusal net depth s k = option_or
    (unentitled_push_refusal net s k)
    (then_some (not (nat_lt (length s.stack) depth)) Full)

-- the action is to let the packet out
abbrev pub is_bypass : OutAction → Bool
is_bypass (outs.Protect l) = false
is_bypass outs.Bypass = true
is_bypass outs.Discard = false

-- a trusted device lets a packet out by the rules of the interface
abbrev pub leave_by_refusal : Plan → State → ℕ → Option Illegal
leave_by_refusal net s j = if is_trusted_place net s.place then then_some (not (is_bypass (out_action_of net j (top_in s)))) NotAdmitted else None

abbrev pub leave_from_refusal : Plan → State → Place → Option Illegal
leave_from_refusal net s (at.AtArea a) = Some NotHere
leave_from_refusal net s (at.AtIn i) = Some NotHere
leave_from_refusal net s (at.AtOut j) = leave_by_refusal net s j

-- out of a device
abbrev pub leave_refusal : Plan → State → Option Illegal
leave_refusal net s = leave_from_refusal net s s.place

-- ---- all motions, at a depth

abbrev pub step_refusal : Plan → ℕ → State → Motion → Option Illegal
step_refusal net depth s (motions.Enter i) = enter_refusal net s i
step_refusal net depth s motions.Pop = pop_refusal net s
step_refusal net depth s (motions.Cross j) = cross_refusal net s j
step_refusal net depth s (motions.Push k) = push_refusal net depth s k
step_refusal net depth s motions.Leave = leave_refusal net s

-- What is drawn is within its bounds.
use Rattle.std.proofs.Common.{◌≡◌, ℕ, zero, suc, ◌+◌, ◌%◌, ◌<◌, Bool, true, false, ◌==◌, List, [], ◌∷◌, length, map, Option, Some, None, get_or, refl, sym, ap, ◌∙◌, arith}
use Rattle.std.specs.Prelude.{IfSome, if◌then◌else◌}
use Rattle.std.specs.List.{AllByRecursion, range_with_len}
use Rattle.std.proofs.lemmas.Bool.{ne_eqb}
use Rattle.std.proofs.lemmas.List.FromFn.{get_or-map-range_with_len}
use Rattle.np_generate.specs.declared.drawn.DrawnGoal.{DrawnGoal}
use Rattle.np_generate.specs.declared.drawn.DrawnEntry.{DrawnEntry}
use Rattle.np_generate.specs.declared.drawn.Protocol.{Protocol}
use Rattle.np_generate.specs.declared.drawn.Protocol.TheVariants.{Ip, Tcp, Udp, Icmp}
use Rattle.np_generate.specs.Drawing.{Drawing, ◌>>=◌, draw, given, in_turn}
use Rattle.np_generate.specs.Drawn.{DrawnNet, a_goal, a_net, a_port, an_area, an_entry, far_area, maybe_port, port_at, port_for, some_entries, some_far_areas, some_goals}

-- functions that agree on a whole range agree at each of its numbers
pub same_below : {X : Type 0} (f g : ℕ → X) (n k : ℕ) (d : X) → map f (range_with_len 0 n) ≡ map g (range_with_len 0 n) → k < n → f k ≡ g k
same_below f g n k d same below =
    let at_f : get_or (map f (range_with_len 0 n)) k d ≡ f k = get_or-map-range_with_len f 0 n k k d below (omega arith) in
    let at_g : get_or (map g (range_with_len 0 n)) k d ≡ g k = get_or-map-range_with_len g 0 n k k d below (omega arith) in
    sym at_f ∙ ap (λ xs. get_or xs k d) same ∙ at_g

-- ---- ports and areas

-- one of the four ports
pub record IsDrawnPort (port : ℕ) : Type 0 where
  pub place : ℕ
  pub few : place < 4
  pub is : port_at place ≡ port

-- a port, where there is one
abbrev pub IsPort : Option ℕ → Type 0
IsPort port = IfSome port IsDrawnPort

-- an area, where there is one
abbrev pub IsSomeArea : Option ℕ → Type 0
IsSomeArea area = IfSome area (λ k. k < 16)

pub draw_below : (bound x : ℕ) → 0 < bound → (draw bound x).0 < bound
unfolding draw
draw_below bound x some = omega arith

pub port_within : (x : ℕ) → IsDrawnPort (a_port x).0
unfolding a_port
port_within x = record { place = (draw 4 x).0; few = draw_below 4 x (omega arith); is = refl }

maybe_port_within : (x : ℕ) → IsPort (maybe_port x).0
unfolding maybe_port
maybe_port_within x = by ((draw 2 x).0 == 1) where
  by : (b : Bool) → IsPort ((if b then (a_port >>= λ port. given (Some port)) else given None) (draw 2 x).1).0
  by true = port_within (draw 2 x).1
  by false = tt

area_within : (x : ℕ) → IsSomeArea (an_area x).0
unfolding an_area
area_within x = by ((draw 2 x).0 == 0) where
  by : (b : Bool) → IsSomeArea ((if b then given None else (draw 16 >>= λ area. given (Some area))) (draw 2 x).1).0
  by true = tt
  by false = draw_below 16 (draw 2 x).1 (omega arith)

-- ---- entries

-- a port stands with TCP and UDP alone
abbrev pub MayHavePort : Protocol → Option ℕ → Type 0
MayHavePort Ip port = port ≡ None
MayHavePort Tcp port = IsPort port
MayHavePort Udp port = IsPort port
MayHavePort Icmp port = port ≡ None

-- the entry is within its bounds
pub record IsDrawn (entry : DrawnEntry) : Type 0 where
  pub source : IsSomeArea entry.source
  pub destination : IsSomeArea entry.destination
  pub port : MayHavePort entry.protocol entry.port

port_for_within : (protocol : Protocol) (x : ℕ) → MayHavePort protocol (port_for protocol x).0
port_for_within Ip x = refl
port_for_within Tcp x = maybe_port_within x
port_for_within Udp x = maybe_port_within x
port_for_within Icmp x = refl

entry_within : (x : ℕ) → IsDrawn (an_entry x).0
unfolding an_entry
entry_within x = record {
  source = area_within _;
  destination = area_within _;
  port = port_for_within _ _;
}

-- ---- drawings in turn

-- each of the things drawn in turn is as each drawing draws it
pub turns_within : {X : Type 0} (P : X → Type 0) (drawing : ℕ → Drawing X) (k count x : ℕ) → ((n y : ℕ) → P (drawing n y).0) → AllByRecursion P (in_turn drawing k count x).0
unfolding in_turn
turns_within P drawing k zero x each = tt
turns_within P drawing k (suc count) x each = (each k x, turns_within P drawing (k + 1) count (drawing k x).1 each)

-- there are as many as are drawn
pub turns_counted : {X : Type 0} (drawing : ℕ → Drawing X) (k count x : ℕ) → length (in_turn drawing k count x).0 ≡ count
unfolding in_turn
turns_counted drawing k zero x = refl
turns_counted drawing k (suc count) x = ap suc (turns_counted drawing (k + 1) count (drawing k x).1)

-- the entries of a list are within their bounds
pub entries_within : (x : ℕ) → AllByRecursion IsDrawn (some_entries x).0
unfolding some_entries
entries_within x = turns_within IsDrawn (λ n. an_entry) 0 40 x (λ n y. entry_within y)

-- and there are forty
pub entries_counted : (x : ℕ) → length (some_entries x).0 ≡ 40
unfolding some_entries
entries_counted x = turns_counted (λ n. an_entry) 0 40 x

-- ---- networks

-- each of the things is as its number asks, the first of them that of this number
abbrev pub AllFrom : {X : Type 0} → (ℕ → X → Type 0) → ℕ → List X → Type 0
AllFrom P k [] = Unit {0}
AllFrom P k (x ∷ xs) = P k x × AllFrom P (k + 1) xs

turns_from : {X : Type 0} (P : ℕ → X → Type 0) (drawing : ℕ → Drawing X) (k count x : ℕ) → ((n y : ℕ) → n < k + count → P n (drawing n y).0) → AllFrom P k (in_turn drawing k count x).0
unfolding in_turn
turns_from P drawing k zero x each = tt
turns_from P drawing k (suc count) x each = (each k x (omega arith), turns_from P drawing (k + 1) count (drawing k x).1 (λ n y below. each n y (omega arith)))

-- the goal leads to another area, and forbids one of the four ports
pub record IsDrawnGoal (k : ℕ) (goal : DrawnGoal) : Type 0 where
  pub from : k < 16
  pub to : goal.to < 16
  pub apart : (k == goal.to) ≡ false
  pub port : IsDrawnPort goal.port

other_area : (k n : ℕ) → k < 16 → n < 15 → (k == (k + 1 + n) % 16) ≡ false
other_area k n below few = ne_eqb k ((k + 1 + n) % 16) (λ same. absurd (omega arith))

goal_within : (k x : ℕ) → k < 16 → IsDrawnGoal k (a_goal k x).0
unfolding a_goal
goal_within k x below = record {
  from = below;
  to = omega arith;
  apart = other_area k (draw 15 x).0 below (draw_below 15 x (omega arith));
  port = port_within (draw 15 x).1;
}

-- what is drawn of a network is within its bounds
pub record IsDrawnNet (drawn : DrawnNet) : Type 0 where
  pub far_areas : AllByRecursion (λ far. far < 16) drawn.far_areas
  pub far_many : length drawn.far_areas ≡ 8
  pub goals : AllFrom IsDrawnGoal 0 drawn.goals
  pub goals_many : length drawn.goals ≡ 16

far_within : (k x : ℕ) → (far_area k x).0 < 16
unfolding far_area
far_within k x = omega arith

pub net_within : (x : ℕ) → IsDrawnNet (a_net x).0
unfolding a_net some_far_areas some_goals
net_within x = record {
  far_areas = turns_within (λ far. far < 16) far_area 16 8 x far_within;
  far_many = turns_counted far_area 16 8 x;
  goals = turns_from IsDrawnGoal a_goal 0 16 _ (λ n y below. goal_within n y below);
  goals_many = turns_counted a_goal 0 16 _;
}

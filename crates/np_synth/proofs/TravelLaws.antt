-- What the slots of the network let cross decides what travels: where more slots let something cross, it reaches at least as much.
use Rattle.std.proofs.Common.{◌≡◌, ℕ, ◌+◌, ◌*◌, ◌<◌, Bool, true, List, [], ◌∷◌, length, arith}
use Rattle.np_net.specs.Path.{Leads, area_of}
use Rattle.np_net.specs.declared.filtering.Goal.{Goal}
use Rattle.np_net.specs.declared.filtering.Interface.{Interface}
use Rattle.np_flow.specs.Carrying.{AllCross, Carries, Reaches}
use Rattle.np_goals.specs.Cases.{goal_at}
use Rattle.np_synth.specs.Choosing.{IsBroken, BreaksSome}

-- whatever crosses by the first slots of the network crosses by the second ones
abbrev pub LetsMore : List Interface → (ℕ → Bool) → (ℕ → Bool) → Type 0
LetsMore interfaces f g = (s : ℕ) → s < 2 * length interfaces → f s ≡ true → g s ≡ true

module _ (interfaces : List Interface) (f g : ℕ → Bool) (more : LetsMore interfaces f g) where
  -- hops that may be crossed
  cross_more : (a b : ℕ) (hops : List (ℕ × ℕ)) → Leads interfaces a hops b → AllCross f hops → AllCross g hops
  cross_more a b [] l c = tt
  cross_more a b (hop ∷ hops) l c =
      let into : hop.0 < length interfaces = l.0.0 in
      let out : hop.1 < length interfaces = l.0.1 in
      (more (2 * hop.0) (omega arith) c.0, more (2 * hop.1 + 1) (omega arith) c.1, cross_more (area_of interfaces hop.1) b hops l.2 c.2)

  -- a path that may be
  pub carries_more : (a : ℕ) (hops : List (ℕ × ℕ)) (b : ℕ) → Carries interfaces f a hops b → Carries interfaces g a hops b
  carries_more a hops b c = record { path = c.path; cross = cross_more a b hops c.path.leads c.cross }

  -- some such path
  pub reaches_more : (a b : ℕ) → Reaches interfaces f a b → Reaches interfaces g a b
  reaches_more a b r = record { hops = r.hops; carries = carries_more a r.hops b r.carries }

  module _ (goals : List Goal) (bad : ℕ → Bool) where
    -- a goal that is broken
    pub broken_more : (k : ℕ) → IsBroken interfaces goals bad f k → IsBroken interfaces goals bad g k
    broken_more k is =
        record {
          within = is.within;
          forbidden = is.forbidden;
          reaches = λ d. reaches_more (goal_at goals d k).from (goal_at goals d k).to (is.reaches d);
        }

    -- some goal that is
    pub breaks_more : BreaksSome interfaces goals bad f → BreaksSome interfaces goals bad g
    breaks_more is = record { goal = is.goal; broken = broken_more is.goal is.broken }

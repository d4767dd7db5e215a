-- What there always is: the least members of the classes, and a verdict on each goal.
use Rattle.std.specs.Prelude.{ℕ, Bool, List}
use Rattle.np_space.specs.Classes.{AreLeasts}
use Rattle.np_space.specs.declared.headers.Header.{Header}
use Rattle.np_net.specs.declared.filtering.Goal.{Goal}
use Rattle.np_net.specs.declared.filtering.Interface.{Interface}
use Rattle.np_goals.specs.Verdicts.{IsVerdict}
use Rattle.np_goals.specs.declared.verdicts.Verdict.{Verdict}

-- Each list of tests has its leasts.
abbrev pub HaveLeasts : Type 0
HaveLeasts = (tests : List (Header → Bool)) → (leasts : List Header) × AreLeasts tests leasts

-- Each goal has a verdict.
abbrev pub HaveVerdicts : Type 0
HaveVerdicts = (interfaces : List Interface) (lets : ℕ → Header → Bool) (goal : Goal) → (verdict : Verdict) × IsVerdict interfaces lets goal verdict

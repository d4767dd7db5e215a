use Rattle.std.proofs.Common.{◌≡◌, ◌-◌, ◌++◌, map}
use Rattle.np_generate.specs.Drawing.{in_turn}
use Rattle.np_generate.specs.Drawn.{some_entries}
use Rattle.np_generate.specs.Generated.{config_text}
use Rattle.np_generate.proofs.generated.configs.Given as goal

-- the texts so far, and those that are left, are all
abbrev pub invariant-loop-number : goal.invariant-loop-number
invariant-loop-number l =
    l.configs ++ map config_text (in_turn (λ n. some_entries) l._number (24 - l._number) l.draws.state).0 ≡ map config_text (in_turn (λ n. some_entries) 0 24 l.fn.draws.state).0

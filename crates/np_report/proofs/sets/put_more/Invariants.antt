use Rattle.std.proofs.Common.{◌≡◌, ◌∷◌, ◌++◌, take}
use Rattle.std.specs.List.{flat_map}
use Rattle.np_report.specs.Synthesis.{run_word}
use Rattle.np_report.proofs.sets.put_more.Given as goal

abbrev pub invariant-loop-run : goal.invariant-loop-run
invariant-loop-run l = l.text.items ≡ l.initial.text.items ++ flat_map (λ r. 44 ∷ run_word r) (take l.run-index l.runs)

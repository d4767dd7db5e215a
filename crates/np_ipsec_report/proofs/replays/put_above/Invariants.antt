use Rattle.std.proofs.Common.{◌≡◌, ◌∷◌, ◌++◌, drop}
use Rattle.std.specs.List.{flat_map}
use Rattle.np_net.specs.Naming.{sa_name}
use Rattle.np_ipsec_report.proofs.replays.put_above.Given as goal

-- what is appended, with the names that are left, is the whole
abbrev pub invariant-loop-n : goal.invariant-loop-n
invariant-loop-n g l = l.text.items ++ flat_map (λ k. 44 ∷ sa_name l.net k) (drop l.n l.stack) ≡ l.initial.text.items ++ flat_map (λ k. 44 ∷ sa_name l.net k) (drop 1 l.stack)

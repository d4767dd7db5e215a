use Rattle.std.proofs.Common.{◌≡◌, ℕ, ◌<◌, false, get_or}
use Rattle.np_ipsec.specs.Tables.{is_secret}
use Rattle.np_traj.proofs.breaching.is_hidden.Given as goal

-- none of the associations so far is secret
abbrev pub invariant-loop-n : goal.invariant-loop-n
invariant-loop-n g l = (m : ℕ) → m < l.n → is_secret l.net (get_or l.state.stack m 0) ≡ false

use Rattle.std.proofs.Common.{◌≡◌, ℕ, ◌<◌, false, get_or}
use Rattle.np_atomizer.proofs.splitting.number_of.Given as goal

abbrev pub invariant-loop-n : goal.invariant-loop-n
invariant-loop-n g l = (k : ℕ) (d : g.row.S-R.Denot) → k < l.n → g.S.Regions.has_header l.store (get_or l.regions k d) l.h ≡ false

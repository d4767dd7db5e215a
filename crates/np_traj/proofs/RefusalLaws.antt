-- What it means that nothing is refused.
use Rattle.std.proofs.Common.{◌≡◌, Bool, true, false, not, Option, Some, None, refl}
use Rattle.std.specs.Bool.{then_some}
use Rattle.std.specs.Option.{option_or}
use Rattle.np_traj.specs.declared.states.Illegal.{Illegal}

-- neither of two reasons
pub neither : (a b : Option Illegal) → option_or a b ≡ None → (a ≡ None) × (b ≡ None)
neither None b none = (refl, none)
neither (Some why) b none = cc

-- and the other way round
pub both_none : (a b : Option Illegal) → a ≡ None → b ≡ None → option_or a b ≡ None
both_none None b none later = later
both_none (Some why) b none later = cc

-- the test fails
pub no_reason : (b : Bool) (why : Illegal) → then_some b why ≡ None → b ≡ false
no_reason true why none = cc
no_reason false why none = refl

-- the condition holds
pub unrefused : (b : Bool) (why : Illegal) → then_some (not b) why ≡ None → b ≡ true
unrefused true why none = refl
unrefused false why none = cc

-- Flags as numbers, and what an option has.
use Rattle.std.specs.Prelude.{ℕ, Bool, true, false, not, Option}
use Rattle.std.specs.Prelude.{Some, None}

-- a flag as a number
abbrev pub flag_number : Bool → ℕ
flag_number false = 0
flag_number true = 1

-- two flags are the same
abbrev pub same_flag : Bool → Bool → Bool
same_flag false t = not t
same_flag true t = t

-- the test of what the option holds, and false where it holds nothing
abbrev pub some_has : {P X : Type 0} → (P → X → Bool) → Option P → X → Bool
some_has has None x = false
some_has has (Some p) x = has p x

-- The limits of a network: the constants of the code.
use Rattle.std.specs.Prelude.{ℕ}
use Rattle.np_pred.specs.declared.reading.TheConstants.{NESTING_LIMIT}
use Rattle.np_net.specs.declared.limits.TheConstants.{DECLARATION_LIMIT, INTERFACE_LIMIT, RULE_LIMIT, DEPTH_LIMIT, NAME_LIMIT}

-- areas, devices, goals, security associations and IPsec goals, each
abbrev pub declaration_limit : ℕ
declaration_limit = DECLARATION_LIMIT

-- interfaces
abbrev pub interface_limit : ℕ
interface_limit = INTERFACE_LIMIT

-- rules of all tables together
abbrev pub rule_limit : ℕ
rule_limit = RULE_LIMIT

-- how deep a predicate nests
abbrev pub nesting_limit : ℕ
nesting_limit = NESTING_LIMIT

-- the headers of associations on one packet
abbrev pub depth_limit : ℕ
depth_limit = DEPTH_LIMIT

-- the bytes of a name
abbrev pub name_limit : ℕ
name_limit = NAME_LIMIT

-- What a predicate's parts are: prefixes, numbers of a byte, and how deep it nests.
use Rattle.std.specs.Prelude.{ℕ, ◌+◌, ◌≤◌, max, Bool, true, ◌&&◌, nat_lt, IsTrue}
use Rattle.np_pred.specs.declared.predicate.Pred.{Pred}
use Rattle.np_pred.specs.declared.predicate.Pred.TheOpen.{Pred-F, Any, Nothing, Proto, Src, Dst, SrcPort, DstPort, IcmpType, IcmpCode, Dscp, Established, Not, And, Or}
use Rattle.np_pred.specs.declared.predicate.Pred.TheFolds.{fold-Pred}
use Rattle.np_pred.specs.declared.reading.Begun.{Begun}
use Rattle.np_pred.specs.declared.reading.Begun.TheVariants as begun
use Rattle.np_pred.specs.Patterns.{are_prefixes}

-- each pattern of one predicate is a prefix, with the answers for its operands in their places
abbrev pub prefixes_step : Pred-F Bool → Bool
prefixes_step Any = true
prefixes_step Nothing = true
prefixes_step (Proto n) = true
prefixes_step (Src patterns) = are_prefixes patterns
prefixes_step (Dst patterns) = are_prefixes patterns
prefixes_step (SrcPort ports) = true
prefixes_step (DstPort ports) = true
prefixes_step (IcmpType n) = true
prefixes_step (IcmpCode n) = true
prefixes_step (Dscp values) = true
prefixes_step Established = true
prefixes_step (Not p) = p
prefixes_step (And p q) = p && q
prefixes_step (Or p q) = p && q

-- each pattern of the predicate is a prefix
abbrev pub has_prefixes : Pred → Bool
has_prefixes p = fold-Pred Bool prefixes_step p

-- each number of one byte is one, with the answers for its operands in their places
abbrev pub octets_step : Pred-F Bool → Bool
octets_step Any = true
octets_step Nothing = true
octets_step (Proto n) = nat_lt n 256
octets_step (Src patterns) = true
octets_step (Dst patterns) = true
octets_step (SrcPort ports) = true
octets_step (DstPort ports) = true
octets_step (IcmpType n) = nat_lt n 256
octets_step (IcmpCode n) = nat_lt n 256
octets_step (Dscp values) = true
octets_step Established = true
octets_step (Not p) = p
octets_step (And p q) = p && q
octets_step (Or p q) = p && q

-- each protocol, type and code of the predicate is a number of one byte
abbrev pub has_octets : Pred → Bool
has_octets p = fold-Pred Bool octets_step p

-- how deep one predicate nests, with the depths of its operands in their places
abbrev pub nesting_step : Pred-F ℕ → ℕ
nesting_step Any = 1
nesting_step Nothing = 1
nesting_step (Proto n) = 1
nesting_step (Src patterns) = 1
nesting_step (Dst patterns) = 1
nesting_step (SrcPort ports) = 1
nesting_step (DstPort ports) = 1
nesting_step (IcmpType n) = 1
nesting_step (IcmpCode n) = 1
nesting_step (Dscp values) = 1
nesting_step Established = 1
nesting_step (Not p) = p + 1
nesting_step (And p q) = max p q + 1
nesting_step (Or p q) = max p q + 1

-- how deep the predicate nests: the whole counts as 1, and an operand one more than its operator
abbrev pub nesting : Pred → ℕ
nesting p = fold-Pred ℕ nesting_step p

-- a predicate as its type allows it, with prefixes alone, that nests at most so deep
pub record IsWellFormed (levels : ℕ) (p : Pred) : Type 0 where
  pub prefixes : IsTrue (has_prefixes p)
  pub octets : IsTrue (has_octets p)
  pub nested : nesting p ≤ levels

-- what a word begins is well formed: a predicate without operands, or an operator
abbrev pub IsBegunWell : Begun → Type 0
IsBegunWell (begun.Whole p) = IsWellFormed 1 p
IsBegunWell (begun.Open o) = Unit {0}

use Rattle.std.proofs.Common.{◌≡◌, drop}
use Rattle.np_text.specs.Numbers.{number_of}
use Rattle.np_text.proofs.NumberLaws.{read_on}
use Rattle.np_text.proofs.decimals.number.Given as goal

-- the digits that are left, read after the value so far, give the number
abbrev pub invariant-loop-byte : goal.invariant-loop-byte
invariant-loop-byte l = read_on l.max l.value (drop l.byte-index l.word) ≡ number_of l.word l.max
